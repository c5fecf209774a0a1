-- A run ends for its record exactly where a commit or a recovery of it met one that can't be read.
use Rattle.std.proofs.Common.{◌≡◌, ◌<◌, ◌^◌, ◌||◌, ℕ, Bool, true, false, List, [], ◌∷◌, refl, sym, ◌∙◌, ap, subst, inl, inr}
use Rattle.std.specs.declared.option.Option.{Option}
use Rattle.std.specs.declared.result.Result.{Result}
use Rattle.std.specs.declared.result.Result.TheVariants.{Ok, Err}
use Rattle.host_port.specs.declared.event.Event.{Event}
use Rattle.folder_change.specs.declared.change.Change.{Change}
use Rattle.commit_machine.specs.Jobs.{Ending}
use Rattle.commit_machine.specs.Edits.{first_names}
use Rattle.folder_commit.specs.declared.error.CommitError.TheVariants as error
use Rattle.folder_commit.specs.Commits.{IsCommit}
use Rattle.folder_commit.specs.Plans.{AreFiles}
use Rattle.folder_commit.specs.Told.{end_told, TellsEnd}
use Rattle.folder_commit.proofs.LookLemmas.{is-told}
use Rattle.folder_recovery.specs.Told.{told_end}
use Rattle.folder_recovery.proofs.ToldLemmas as recoveries
use Rattle.session_play.specs.declared.changing.Attempt.TheVariants.{Made, Misnamed}
use Rattle.session_play.specs.declared.changing.Committed.{Committed}
use Rattle.session_play.specs.declared.changing.Committed.TheVariants as committed
use Rattle.session_play.specs.declared.recovering.RecoveryAnswer.{RecoveryAnswer}
use Rattle.session_play.specs.declared.recovering.RecoveryAnswer.TheVariants as recovery
use Rattle.session_play.specs.Recovering.{recovery_as, IsRecoveryOf}
use Rattle.session_play.specs.declared.stop.Stop.{Stop}
use Rattle.session_play.specs.Input.{Input}
use Rattle.session_play.specs.Acts.{input_after}
use Rattle.session_play.specs.Committing.{answer_as}
use Rattle.session_play.proofs.NamingLemmas.{named-files}
use Rattle.session_play.specs.Play.{Act, Answer, Line, Say, Read, Try, Changes, Recover, Child, Editor, Now, Know, Play, Ret, Ask, Did, Goes, Next, Go, Last, Loop, again, last, cut}
use Rattle.session_play.proofs.ShapeLemmas.{came-same, goes-ends}
use Rattle.play_safety.specs.Safe.{IsBy, OfCommit, NextKeeps}
use Rattle.session_state.specs.declared.status.Status.{Status}
use Rattle.session_state.specs.declared.status.Status.TheVariants as status
use Rattle.mailx_top.specs.declared.environment.Environment.{Environment}
use Rattle.mailx_top.specs.Words.{Start}
use Rattle.mailx_top.specs.Meaning.{RunState, Recovering, Opening, Reading, Finishing, Leaving, round, input_of, is_opening, actor_in, Preparing}
use Rattle.mailx_top.specs.Starts.{is_bad_record}
use Rattle.mailx_top.specs.Unreadable.{is_unreadable, met_unreadable, some_unreadable, some_unreadable_in, IsRecordExplained}
use Rattle.mailx_top.proofs.RoundLemmas.{StateOf, outcome_in, Leading, LeadsFrom, ExitsFrom, RoundEnds, Rounds, round-obeys, round-of}
use Rattle.mailx_session.proofs.ObeyLemmas.{answers_unreadable, found_unreadable, unreadable_by, Met, nothing_met, met_by}
use Rattle.session_state.specs.declared.outcome.SendOutcome.{SendOutcome}
use Rattle.session_state.specs.declared.outcome.SendOutcome.TheVariants as outcome
use Rattle.session_state.specs.Outcomes.{status_of}
use Rattle.mailx_top.specs.Leavings.{is_for_record}

-- what a commit's own events tell of its end is what its answer says
end-unreadable : (changes : List Change) (files : List (List ℕ)) (end : Ending) (a : Committed) → TellsEnd files end (answer_as a) → is_unreadable changes end ≡ answers_unreadable changes (Made a)
end-unreadable changes files end committed.Done is = ap (is_unreadable changes) is
end-unreadable changes files end (committed.Busy name) is = ap (is_unreadable changes) is
end-unreadable changes files end committed.NotARecord is = ap (is_unreadable changes) is
end-unreadable changes files end (committed.Changed name at) is = ap (is_unreadable changes) is
end-unreadable changes files end (committed.TooLarge name n) is = ap (is_unreadable changes) is
end-unreadable changes files end (committed.TooManyNames count) never = absurd never

-- without an event a commit was done, or has too many files
done-unreadable : (changes : List Change) (a : Committed) → answer_as a ≡ Ok tt → answers_unreadable changes (Made a) ≡ false
done-unreadable changes committed.Done is = refl
done-unreadable changes (committed.Busy name) is = absurd (cc is)
done-unreadable changes committed.NotARecord is = absurd (cc is)
done-unreadable changes (committed.Changed name at) is = absurd (cc is)
done-unreadable changes (committed.TooLarge name n) is = absurd (cc is)
done-unreadable changes (committed.TooManyNames count) is = absurd (cc is)

many-unreadable : (changes : List Change) (n : ℕ) (a : Committed) → answer_as a ≡ Err (error.TooManyNames n) → answers_unreadable changes (Made a) ≡ false
many-unreadable changes n committed.Done is = absurd (cc is)
many-unreadable changes n (committed.Busy name) is = absurd (cc is)
many-unreadable changes n committed.NotARecord is = absurd (cc is)
many-unreadable changes n (committed.Changed name at) is = absurd (cc is)
many-unreadable changes n (committed.TooLarge name k) is = absurd (cc is)
many-unreadable changes n (committed.TooManyNames count) is = refl

no-memory : {A : Type 0} (a : Committed) → answer_as a ≡ Err error.Memory → A
no-memory committed.Done is = absurd (cc is)
no-memory (committed.Busy name) is = absurd (cc is)
no-memory committed.NotARecord is = absurd (cc is)
no-memory (committed.Changed name at) is = absurd (cc is)
no-memory (committed.TooLarge name k) is = absurd (cc is)
no-memory (committed.TooManyNames count) is = absurd (cc is)

none-told : (actor : List ℕ) (changes : List Change) (base : List (List ℕ)) (es : List Event) → es ≡ [] → is_unreadable changes (end_told actor changes base es) ≡ false
none-told actor changes base es none = ap (λ (es : List Event). is_unreadable changes (end_told actor changes base es)) none

-- an answered commit says what its own events tell
changes-told : (actor : List ℕ) (token : ℕ) (changes : List Change) (base : List (List ℕ)) (es : List Event) (a : Committed) → token < 2 ^ 64
    → AreFiles actor changes → IsCommit actor token changes base es (answer_as a)
    → is_unreadable changes (end_told actor changes base es) ≡ answers_unreadable changes (Made a)
changes-told actor token [] base es a fits files (none, is) = none-told actor [] base es none ∙ sym (done-unreadable [] a is)
changes-told actor token (c ∷ cs) base es a fits files (inl (many, (none, inl is))) = none-told actor (c ∷ cs) base es none ∙ sym (many-unreadable (c ∷ cs) _ a is)
changes-told actor token (c ∷ cs) base es a fits files (inl (many, (none, inr is))) = no-memory a is
changes-told actor token (c ∷ cs) base es a fits files (inr (few, h)) =
    let told = is-told actor token (c ∷ cs) base es (answer_as a) fits files (inr (few, h)) in
    end-unreadable (c ∷ cs) (first_names (c ∷ cs)) (end_told actor (c ∷ cs) base es) a (told.2 few)

-- so does a recovery
recovery-told : (actor : List ℕ) (token : ℕ) (es : List Event) (a : RecoveryAnswer) → IsRecoveryOf actor token es (recovery_as a) → is_bad_record (told_end actor es) ≡ found_unreadable a
recovery-told actor token es (recovery.Done f) did = ap is_bad_record (recoveries.is-told actor token es (recovery_as (recovery.Done f)) did.1)
recovery-told actor token es (recovery.Busy name) did = ap is_bad_record (recoveries.is-told actor token es (recovery_as (recovery.Busy name)) did.1)
recovery-told actor token es recovery.NotARecord did = ap is_bad_record (recoveries.is-told actor token es (recovery_as recovery.NotARecord) did.1)
recovery-told actor token es (recovery.TooLarge name n) did = ap is_bad_record (recoveries.is-told actor token es (recovery_as (recovery.TooLarge name n)) did.1)

pub or-moved : (met u s : Bool) → (met || (u || s)) ≡ ((u || met) || s)
or-moved true true s = refl
or-moved true false s = refl
or-moved false true s = refl
or-moved false false s = refl

pub or-none : (met : Bool) → (met || false) ≡ met
or-none true = refl
or-none false = refl

abbrev next_ends : Next RunState Status → Bool
next_ends (Go x) = false
next_ends (Last e) = is_for_record e

module _ (actor : List ℕ) (token : ℕ) (fits : token < 2 ^ 64) where
  act-told : (act : Act) (answer : Answer act) (es : List Event) → OfCommit (IsBy actor token) act → Did act answer es → met_unreadable act answer es ≡ unreadable_by act answer
  act-told (Changes c) (Made a) es by (well, did) = changes-told c.actor c.token c.changes c.base es a (subst (λ (t : ℕ). t < 2 ^ 64) (sym by.token_is) fits) (named-files c.actor c.changes well) did
  act-told (Changes c) (Misnamed name fault) es by (is, none) = none-told c.actor c.changes c.base es none
  act-told (Line i) a es by did = refl
  act-told (Say bytes) a es by did = refl
  act-told (Read name) a es by did = refl
  act-told (Try name) a es by did = refl
  act-told (Recover b t) a es by did = recovery-told b t es a did
  act-told (Child program args input) a es by did = refl
  act-told (Editor name shell command text) a es by did = refl
  act-told (Now tz) a es by did = refl
  act-told (Know texts) a es by did = refl

  -- a round that came to its end
  module _ (env : Environment) (opens : Bool) (Leads : Bool → RunState → Type 0) (Exits : Status → Type 0) (free : (e : Status) → Exits e → is_for_record e ≡ false) where
    end-told : (met : Met) (i : Input) (n : Next RunState Status) → RoundEnds env actor token Leads Exits (met, i) n → next_ends n ≡ met.0
    end-told (true, b) i (Go y) never = absurd never
    end-told (false, b) i (Go y) is = refl
    end-told (true, b) i (Last e) is = ap is_for_record is
    end-told (false, b) i (Last e) is = free e is

    goes-told : (met : Met) (i : Input) (p : Play (Next RunState Status)) (es : List Event) (n : Next RunState Status) → Rounds env actor token opens Leads Exits (met, i) p → (goes : Goes p es (Ok n))
        → (met.0 || some_unreadable p es (Ok n) goes) ≡ next_ends n
    goes-told met i (Ret q) es n obeys (none, inl same) = or-none met.0 ∙ (sym (end-told met i q obeys) ∙ ap next_ends (sym (came-same n q same)))
    goes-told met i (Ret q) es n obeys (none, inr other) = absurd (cc other)
    goes-told met i (Ask act go) es n obeys (inl (answer, front, rest, is, did, goes)) =
        let later = some_unreadable (go answer) rest (Ok n) goes in
        ap (λ (b : Bool). met.0 || (b || later)) (act-told act answer front obeys.0.2 did)
        ∙ (or-moved met.0 (unreadable_by act answer) later ∙ goes-told (met_by met act answer) (input_after act answer i) (go answer) rest n (obeys.1 answer) goes)
    goes-told met i (Ask act go) es n obeys (inr (cause, other, how)) = absurd (cc other)

-- a run that nothing else ends doesn't end for its record
not-for-record : (o : SendOutcome) → is_for_record (status_of o) ≡ false
not-for-record outcome.Fine = refl
not-for-record (outcome.NotSent n) = refl
not-for-record outcome.Refused = refl
not-for-record outcome.Unrecorded = refl

exits-free : (x : RunState) (e : Status) → ExitsFrom x e → is_for_record e ≡ false
exits-free (Recovering start) e (opened, free, other) = free
exits-free (Preparing start s names) e is = ap is_for_record is ∙ not-for-record s.outcome
exits-free (Opening start s) e (opened, free, other) = free
exits-free (Reading s i) e is = ap is_for_record is ∙ not-for-record s.outcome
exits-free (Finishing s i) e is = ap is_for_record is ∙ not-for-record s.outcome
exits-free (Leaving s i) e (inl is) = ap is_for_record is ∙ not-for-record s.outcome
exits-free (Leaving s i) e (inr is) = ap is_for_record is

round-told : (env : Environment) → env.token < 2 ^ 64 → (x : RunState) → StateOf env (actor_in env) env.token x
    → (es : List Event) (n : Next RunState Status) (goes : Goes (round env x) es (Ok n)) → some_unreadable (round env x) es (Ok n) goes ≡ next_ends n
round-told env fits x of es n goes =
    goes-told (actor_in env) env.token fits env (is_opening x) (Leading (outcome_in x) (LeadsFrom x)) (ExitsFrom x) (exits-free x) nothing_met
    (input_of x) (round env x) es n (round-obeys env (actor_in env) env.token x of) goes

-- how the end of a loop tells of its commits
abbrev EndTells : Result Status Stop → Bool → Type 0
EndTells (Ok e) met = met ≡ is_for_record e
EndTells (Err cause) met = Unit {0}

loop-told : (env : Environment) → env.token < 2 ^ 64 → {x : RunState} {es : List Event} {out : Result Status Stop}
    → StateOf env (actor_in env) env.token x → (loop : Loop (round env) x es out) → EndTells out (some_unreadable_in loop)
loop-told env fits {x = x} {out = out} of (again {y = y} front rest is goes more) =
    let kept : StateOf env (actor_in env) env.token y = goes-ends (NextKeeps (StateOf env (actor_in env) env.token)) (round env x) front (Go y) (round-of env (actor_in env) env.token x of) goes in
    subst (λ (b : Bool). EndTells out (b || some_unreadable_in more)) (sym (round-told env fits x of front (Go y) goes)) (loop-told env fits kept more)
loop-told env fits {x = x} {es = es} of (last {r = r} goes) = round-told env fits x of es (Last r) goes
loop-told env fits of (cut goes) = tt

for-record : (e : Status) → is_for_record e ≡ true → e ≡ status.BadRecord
for-record status.BadRecord is = refl
for-record status.Done is = absurd (cc is)
for-record (status.NotSent n) is = absurd (cc is)
for-record status.NoMail is = absurd (cc is)
for-record status.Usage is = absurd (cc is)
for-record status.InputFault is = absurd (cc is)
for-record status.OutputFault is = absurd (cc is)
for-record status.DiskFault is = absurd (cc is)
for-record status.Refused is = absurd (cc is)
for-record status.Memory is = absurd (cc is)
for-record status.InputLimit is = absurd (cc is)
for-record status.NoFolder is = absurd (cc is)

explained-as : (out : Result Status Stop) (met : Bool) → EndTells out met → IsRecordExplained out met
explained-as (Ok e) met tells = record {
  only = λ is. tells ∙ ap is_for_record (came-same e status.BadRecord is);
  always = λ h. for-record e (sym tells ∙ h);
}
explained-as (Err cause) met tells = record { only = λ is. absurd (cc is); always = λ h. tt }

pub record-explained : (env : Environment) → env.token < 2 ^ 64
    → (start : Option Start) (es : List Event) (out : Result Status Stop) (loop : Loop (round env) (Recovering start) es out) → IsRecordExplained out (some_unreadable_in loop)
record-explained env fits start es out loop = explained-as out (some_unreadable_in loop) (loop-told env fits (refl, refl) loop)
