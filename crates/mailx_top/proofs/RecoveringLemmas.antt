-- What the recovery at the start of a run comes to.
use Rattle.std.proofs.lemmas.List.{append-nil}
use Rattle.std.proofs.Common.{◌≡◌, ◌⊎◌, ◌||◌, ℕ, Bool, true, false, List, [], ◌∷◌, ◌++◌, refl, sym, ◌∙◌, ap, subst, inl, inr}
use Rattle.std.specs.List.{list_any}
use Rattle.std.specs.Prelude.{if◌then◌else◌, codes}
use Rattle.std.specs.declared.option.Option.{Option}
use Rattle.std.specs.declared.option.Option.TheVariants.{Some, None}
use Rattle.std.specs.declared.result.Result.{Result}
use Rattle.std.specs.declared.result.Result.TheVariants.{Ok, Err}
use Rattle.mail_text.specs.Lines.{with_feed}
use Rattle.host_port.specs.declared.event.Event.{Event}
use Rattle.host_port.specs.declared.event.Event.TheVariants as event
use Rattle.host_port.specs.declared.event.Seen.TheVariants as seen
use Rattle.commit_machine.specs.Jobs.{Before, Busy, NotARecord, TooLarge, Ending, Recovered, Refused, Failed, NoMemory}
use Rattle.commit_machine.specs.Restraints.{is_failed}
use Rattle.folder_recovery.specs.Told.{told_end, unless_long, end_by, end_seen}
use Rattle.folder_recovery.proofs.ToldLemmas.{is-told}
use Rattle.session_play.specs.declared.stop.Stop.{Stop}
use Rattle.session_play.specs.declared.stop.Stop.TheVariants as stop
use Rattle.session_play.specs.declared.recovering.RecoveryAnswer.{RecoveryAnswer}
use Rattle.session_play.specs.declared.recovering.RecoveryAnswer.TheVariants as recovery
use Rattle.session_play.specs.Recovering.{recovery_as, IsRecoveryOf}
use Rattle.session_play.specs.Causes.{counted, events_at}
use Rattle.session_play.specs.Play.{Says, Ret, Goes, Next, Go, Last, Loop, again, last, cut, bind}
use Rattle.session_play.proofs.ShapeLemmas.{came-same, goes-ends}
use Rattle.session_state.specs.declared.state.SessionState.{SessionState}
use Rattle.session_state.specs.declared.status.Status.{Status}
use Rattle.session_state.specs.declared.status.Status.TheVariants as status
use Rattle.mailx_top.specs.declared.environment.Environment.{Environment}
use Rattle.command_words.specs.declared.options.Options.{Options}
use Rattle.mailx_top.specs.Words.{Start, Opens, Sends}
use Rattle.mailx_top.specs.Meaning.{RunState, Recovering, Preparing, Opening, Reading, Finishing, Leaving, round, prepared, recovered, recovering, first_of, actor_in, heard, ends_with, says_any, says_and_ends, usage, is_recovering, is_opening}
use Rattle.mailx_top.specs.Openings.{OpenedBadly, IsOpeningExplained}
use Rattle.mailx_top.specs.RecoveryLines.{heard_recovery}
use Rattle.mailx_top.specs.Leavings.{refused_at_end}
use Rattle.mailx_top.specs.Starts.{is_recovered, is_right_busy, is_bad_record, IsStartExplained, IsExplainedFrom}
use Rattle.mailx_top.proofs.OpeningLemmas.{next-round, explained-by, or-later, files-explained}
use Rattle.mailx_top.proofs.RoundLemmas.{IsBefore, IsReadingState, goes-on}

abbrev ends : RunState → Next RunState Status
ends y = Go y

abbrev ended : Status → Result (Next RunState Status) Stop
ended r = Ok (Last r)

go-same : (x y : RunState) → ends x ≡ ends y → x ≡ y
go-same x y e = cc

-- a run from its opening or from a line recovers nothing
plain-state : (x : RunState) → IsReadingState x → is_recovering x ≡ false
plain-state (Recovering start) never = absurd never
plain-state (Preparing start s names) never = absurd never
plain-state (Opening start s) never = absurd never
plain-state (Reading s i) reading = refl
plain-state (Finishing s i) reading = refl
plain-state (Leaving s i) reading = refl

plain-counted : (x : RunState) (es : List Event) → IsReadingState x → counted (is_recovering x) es ≡ []
plain-counted x es reading = ap (λ (b : Bool). counted b es) (plain-state x reading)

lines-plain : (env : Environment) {x : RunState} {es : List Event} {out : Result Status Stop} → IsReadingState x → (loop : Loop (round env) x es out) → events_at is_recovering loop ≡ []
lines-plain env {x = x} reading (again {y = y} front rest is goes more) =
    let on = next-round env x y front reading goes in
    ap (λ (l : List Event). l ++ events_at is_recovering more) (plain-counted x front reading) ∙ lines-plain env on more
lines-plain env {x = x} {es = es} reading (last goes) = plain-counted x es reading
lines-plain env {x = x} {es = es} reading (cut goes) = plain-counted x es reading

opening-plain : (env : Environment) (start : Option Start) (s : SessionState) {es : List Event} {out : Result Status Stop}
    (loop : Loop (round env) (Opening start s) es out) → events_at is_recovering loop ≡ []
opening-plain env start s (again {y = y} front rest is goes more) = lines-plain env (goes-on env (Opening start s) y front goes) more
opening-plain env start s (last goes) = refl
opening-plain env start s (cut goes) = refl

-- the start-up files and what follows them
before-then : (env : Environment) (start : Start) (x y : RunState) (es front rest : List Event) (out : Result Status Stop) → IsBefore start x
    → es ≡ front ++ rest → Goes (round env x) front (Ok (Go y))
    → (more : Loop (round env) y rest out) → (IsBefore start y → events_at is_recovering more ≡ []) → counted (is_recovering x) front ++ events_at is_recovering more ≡ []
before-then env start (Recovering o) y es front rest out never is goes more later = absurd never
before-then env start (Preparing b s names) y es front rest out before is goes more later =
    let on : IsBefore b y = goes-on env (Preparing b s names) y front goes in
    later (subst (λ (b : Start). IsBefore b y) before on)
before-then env start (Opening o s) y es front rest out before is goes more later = opening-plain env o s (again front rest is goes more)
before-then env start (Reading s i) y es front rest out never is goes more later = absurd never
before-then env start (Finishing s i) y es front rest out never is goes more later = absurd never
before-then env start (Leaving s i) y es front rest out never is goes more later = absurd never

before-plain-state : (start : Start) (x : RunState) → IsBefore start x → is_recovering x ≡ false
before-plain-state start (Recovering o) never = absurd never
before-plain-state start (Preparing b s names) before = refl
before-plain-state start (Opening o s) before = refl
before-plain-state start (Reading s i) never = absurd never
before-plain-state start (Finishing s i) never = absurd never
before-plain-state start (Leaving s i) never = absurd never

before-plain : (env : Environment) (start : Start) {x : RunState} {es : List Event} {out : Result Status Stop} → IsBefore start x
    → (loop : Loop (round env) x es out) → events_at is_recovering loop ≡ []
before-plain env start {x = x} {es = es} {out = out} before (again {y = y} front rest is goes more) =
    before-then env start x y es front rest out before is goes more (λ on. before-plain env start on more)
before-plain env start {x = x} {es = es} before (last goes) = ap (λ (b : Bool). counted b es) (before-plain-state start x before)
before-plain env start {x = x} {es = es} before (cut goes) = ap (λ (b : Bool). counted b es) (before-plain-state start x before)

-- what is explained after the recovery
abbrev Explained : Type 0 → Option Start → Result Status Stop → Ending → List Event → Bool → Type 0
Explained Bad start out recovery es at_end = IsStartExplained out recovery (IsOpeningExplained Bad start out es at_end)

recovered-free : (e : Ending) → is_recovered e ≡ true → (is_right_busy e ≡ false) × (is_bad_record e ≡ false)
recovered-free (Recovered f) h = (refl, refl)
recovered-free (Refused why) h = absurd (cc h)
recovered-free e h = absurd (cc h)

or-right : (b c : Bool) → c ≡ true → (b || c) ≡ true
or-right true c h = refl
or-right false c h = h

with-recovery : (Bad : Type 0) (start : Option Start) (out : Result Status Stop) (recovery : Ending) (es : List Event) (b : Bool)
    → is_recovered recovery ≡ true → IsOpeningExplained Bad start out es b → Explained Bad start out recovery es b
with-recovery Bad start out recovery es b done opening =
    let free = recovered-free recovery done in
    record {
      opens = λ h. opening;
      busy = λ h. absurd (let f = free.0 in cc (h, f));
      bad = λ h. absurd (let f = free.1 in cc (h, f));
      refused_only = λ is. or-right (is_right_busy recovery) (is_recovered recovery) done;
      bad_record_only = λ is. or-right (is_bad_record recovery) (is_recovered recovery) done;
      no_folder_only = λ is. done;
      no_mail_only = λ is. done;
      done_only = λ is. done;
    }

-- after a recovery that is done
opened-after : (env : Environment) (start : Start) (x : RunState) (front : List Event) {rest : List Event} {out : Result Status Stop} → IsBefore start x → (more : Loop (round env) x rest out)
    → is_recovered (told_end (actor_in env) front) ≡ true
    → Explained (⊥ ⊎ OpenedBadly more) (Some start) out (told_end (actor_in env) (front ++ events_at is_recovering more)) (events_at is_opening more) (refused_at_end more)
opened-after env start x front {rest = rest} {out = out} before more done =
    let Bad : Type 0 = ⊥ ⊎ OpenedBadly more in
    let E : List Event → Type 0 = λ l. Explained Bad (Some start) out (told_end (actor_in env) l) (events_at is_opening more) (refused_at_end more) in
    subst E (sym (ap (λ (l : List Event). front ++ l) (before-plain env start before more) ∙ append-nil front))
    (with-recovery Bad (Some start) out (told_end (actor_in env) front) (events_at is_opening more) (refused_at_end more) done
    (explained-by (OpenedBadly more) Bad inr (or-later (λ never. never)) (Some start) out (events_at is_opening more) (refused_at_end more) (files-explained env start before more)))

explained-cut : (Bad : Type 0) (start : Option Start) (cause : Stop) (recovery : Ending) (es : List Event) (b : Bool)
    → IsOpeningExplained Bad start (Err cause) es b → Explained Bad start (Err cause) recovery es b
explained-cut Bad start cause recovery es b opening = record {
  opens = λ h. opening;
  busy = λ h. tt;
  bad = λ h. tt;
  refused_only = λ e. absurd (cc e);
  bad_record_only = λ e. absurd (cc e);
  no_folder_only = λ e. absurd (cc e);
  no_mail_only = λ e. absurd (cc e);
  done_only = λ e. absurd (cc e);
}

ended-busy : (start : Option Start) (recovery : Ending) (name : List ℕ) → recovery ≡ Refused (Busy name) → Explained ⊥ start (Ok status.Refused) recovery [] false
ended-busy start recovery name is = record {
  opens = λ h. absurd (let not = ap is_recovered is in cc (h, not));
  busy = λ h. refl;
  bad = λ h. absurd (let good = ap is_bad_record is in cc (h, good));
  refused_only = λ e. ap (λ (r : Ending). is_right_busy r || is_recovered r) is;
  bad_record_only = λ e. absurd (cc e);
  no_folder_only = λ e. absurd (cc e);
  no_mail_only = λ e. absurd (cc e);
  done_only = λ e. absurd (cc e);
}

ended-bad : (start : Option Start) (recovery : Ending) → is_right_busy recovery ≡ false → is_recovered recovery ≡ false
    → is_bad_record recovery ≡ true → Explained ⊥ start (Ok status.BadRecord) recovery [] false
ended-bad start recovery free not bad = record {
  opens = λ h. absurd (cc (h, not));
  busy = λ h. absurd (cc (h, free));
  bad = λ h. refl;
  refused_only = λ e. absurd (cc e);
  bad_record_only = λ e. ap (λ (b : Bool). b || is_recovered recovery) bad;
  no_folder_only = λ e. absurd (cc e);
  no_mail_only = λ e. absurd (cc e);
  done_only = λ e. absurd (cc e);
}

-- refused words: nothing is recovered, and the run ends with the usage
ended-usage : {Bad : Type 0} (recovery : Ending) (es : List Event) → recovery ≡ NoMemory → Explained Bad None (Ok status.Usage) recovery es false
ended-usage recovery es is = record {
  opens = λ h. absurd (let not = ap is_recovered is in cc (h, not));
  busy = λ h. absurd (let not = ap is_right_busy is in cc (h, not));
  bad = λ h. absurd (let not = ap is_bad_record is in cc (h, not));
  refused_only = λ e. absurd (cc e);
  bad_record_only = λ e. absurd (cc e);
  no_folder_only = λ e. absurd (cc e);
  no_mail_only = λ e. absurd (cc e);
  done_only = λ e. absurd (cc e);
}

-- what is printed behind the events of a recovery changes nothing of what they tell
says-fine : (bytes : List ℕ) (es : List Event) → Says bytes es → list_any is_failed es ≡ false
says-fine bytes [] s = refl
says-fine bytes (event.Out front false ∷ es) s = says-fine s.0 es s.2
says-fine bytes (e ∷ es) never = absurd never

says-short : (bytes : List ℕ) (es : List Event) (end : Ending) → Says bytes es → unless_long es end ≡ end
says-short bytes [] end s = refl
says-short bytes (event.Out front false ∷ es) end s = says-short s.0 es end s.2
says-short bytes (e ∷ es) end never = absurd never

says-none : (actor bytes : List ℕ) (es : List Event) → Says bytes es → end_by actor es ≡ NoMemory
says-none actor bytes [] s = refl
says-none actor bytes (event.Out front false ∷ es) s = refl
says-none actor bytes (e ∷ es) never = absurd never

says-unread : (actor n bytes : List ℕ) (failed : Bool) (es : List Event) → Says bytes es → end_by actor (event.Seize n true failed ∷ es) ≡ NoMemory
says-unread actor n bytes failed [] s = refl
says-unread actor n bytes failed (event.Out front false ∷ es) s = refl
says-unread actor n bytes failed (e ∷ es) never = absurd never

fine-behind : (es outs : List Event) → list_any is_failed outs ≡ false → list_any is_failed (es ++ outs) ≡ list_any is_failed es
fine-behind [] outs fine = fine
fine-behind (e ∷ es) outs fine = ap (λ (b : Bool). is_failed e || b) (fine-behind es outs fine)

long-behind : (es outs : List Event) (bytes : List ℕ) (end : Ending) → Says bytes outs → unless_long (es ++ outs) end ≡ unless_long es end
long-behind [] outs bytes end says = says-short bytes outs end says
long-behind (event.Load n (seen.TooLarge length) ∷ es) outs bytes end says = refl
long-behind (e ∷ es) outs bytes end says = long-behind es outs bytes end says

end-behind : (actor : List ℕ) (es outs : List Event) (bytes : List ℕ) → Says bytes outs → end_by actor (es ++ outs) ≡ end_by actor es
end-behind actor [] outs bytes says = says-none actor bytes outs says
end-behind actor (event.Seize n false failed ∷ es) outs bytes says = refl
end-behind actor (event.Seize n true failed ∷ []) outs bytes says = says-unread actor n bytes failed outs says
end-behind actor (event.Seize n true failed ∷ event.Load m s ∷ es) outs bytes says = long-behind es outs bytes (end_seen actor s) says
end-behind actor (event.Seize n true failed ∷ e ∷ es) outs bytes says = refl
end-behind actor (e ∷ es) outs bytes says = refl

told-behind : (actor : List ℕ) (es outs : List Event) (bytes : List ℕ) → Says bytes outs → told_end actor (es ++ outs) ≡ told_end actor es
told-behind actor es outs bytes says =
    ap (λ (b : Bool). if b then Failed Before else end_by actor (es ++ outs)) (fine-behind es outs (says-fine bytes outs says))
    ∙ ap (λ (end : Ending). if list_any is_failed es then Failed Before else end) (end-behind actor es outs bytes says)

-- the events are such
abbrev TellsNoMore : List Event → Type 0
TellsNoMore outs = (actor : List ℕ) (es : List Event) → told_end actor (es ++ outs) ≡ told_end actor es

no-more : (outs : List Event) → outs ≡ [] → TellsNoMore outs
no-more outs none = λ actor es. ap (told_end actor) (ap (λ (l : List Event). es ++ l) none ∙ append-nil es)

said-more : (bytes : List ℕ) (es front rest : List Event) → es ≡ front ++ rest → rest ≡ [] → Says bytes front → TellsNoMore es
said-more bytes es front rest is none says =
    subst TellsNoMore (sym (is ∙ ap (λ (l : List Event). front ++ l) none ∙ append-nil front)) (λ actor xs. told-behind actor xs front bytes says)

-- the end that a line leads to after which the run ends
abbrev EndsSo : Status → Next RunState Status → Type 0
EndsSo e (Go y) = ⊥
EndsSo e (Last r) = r ≡ e

said-so : (text : List ℕ) (e r : Status) (es : List Event) → Goes (says_and_ends text e) es (Ok (Last r)) → (r ≡ e) × TellsNoMore es
said-so text e r es goes = (goes-ends (EndsSo e) (says_and_ends text e) es (Last r) (λ u. refl) goes, more goes)
  where
    more : Goes (says_and_ends text e) es (Ok (Last r)) → TellsNoMore es
    more (inl (u, front, rest, is, did, end)) = said-more text es front rest is end.0 did
    more (inr (cause, other, part)) = absurd (cc other)

-- what is said of a recovery leads on
said-on : (line : Option (List ℕ)) (x : RunState) (es : List Event) (n : Next RunState Status) → Goes (bind (says_any line) (λ u. Ret (ends x))) es (Ok n) → (n ≡ ends x) × TellsNoMore es
said-on None x es n (none, inl same) = (came-same n (ends x) same, no-more es none)
said-on None x es n (none, inr other) = absurd (cc other)
said-on (Some line) x es n (inl (u, front, rest, is, did, (none, inl same))) = (came-same n (ends x) same, said-more line es front rest is none did)
said-on (Some line) x es n (inl (u, front, rest, is, did, (none, inr other))) = absurd (cc other)
said-on (Some line) x es n (inr (cause, other, part)) = absurd (cc other)

last-same : (r e : Status) → (ended r ≡ ended e) ⊎ (ended r ≡ Err stop.Memory) → r ≡ e
last-same r e (inl same) = cc same
last-same r e (inr other) = absurd (cc other)

-- without a line
ended-plainly : (actor : List ℕ) (start : Option Start) (e : Ending) (r : Status) (front rest : List Event) → is_right_busy e ≡ false
    → is_recovered e ≡ false → is_bad_record e ≡ true → told_end actor front ≡ e → rest ≡ [] → r ≡ status.BadRecord
    → Explained ⊥ start (Ok r) (told_end actor (front ++ rest)) [] false
ended-plainly actor start e r front rest free not bad told none is =
    let whole : told_end actor (front ++ rest) ≡ e = ap (λ (l : List Event). told_end actor (front ++ l)) none ∙ (ap (told_end actor) (append-nil front) ∙ told) in
    subst (λ (r : Status). Explained ⊥ start (Ok r) (told_end actor (front ++ rest)) [] false) (sym is)
    (ended-bad start (told_end actor (front ++ rest)) (ap is_right_busy whole ∙ free) (ap is_recovered whole ∙ not) (ap is_bad_record whole ∙ bad))

-- the states that a round leads to
abbrev Ends : Next RunState Status → Type 0
Ends (Go y) = ⊥
Ends (Last r) = Unit {0}

module _ (env : Environment) (actor : List ℕ) (token : ℕ) (o : Options) where
  -- a recovery whose answer ends the run
  ended-by : (a : RecoveryAnswer) (r : Status) (front rest : List Event) → IsRecoveryOf actor token front (recovery_as a) → Goes (recovered env o a) rest (Ok (Last r))
      → Explained ⊥ (Some (Opens o)) (Ok r) (told_end actor (front ++ rest)) [] false
  ended-by (recovery.Done f) r front rest did goes = absurd (let on = (said-on (heard_recovery o.exists f) (prepared env (Opens o)) rest (Last r) goes).0 in cc on)
  ended-by (recovery.Busy name) r front rest did goes =
      let said = said-so (heard o (with_feed (name ++ codes ": busy"))) status.Refused r rest goes in
      let told = said.1 actor front ∙ is-told actor token front (recovery_as (recovery.Busy name)) did.1 in
      subst (λ (r : Status). Explained ⊥ (Some (Opens o)) (Ok r) (told_end actor (front ++ rest)) [] false) (sym said.0) (ended-busy (Some (Opens o)) (told_end actor (front ++ rest)) name told)
  ended-by recovery.NotARecord r front rest did (none, end) =
      ended-plainly actor (Some (Opens o)) (Refused NotARecord) r front rest refl refl refl (is-told actor token front (recovery_as recovery.NotARecord) did.1) none (last-same r status.BadRecord end)
  ended-by (recovery.TooLarge name n) r front rest did (none, end) =
      ended-plainly actor (Some (Opens o)) (Refused (TooLarge name n)) r front rest refl refl refl
      (is-told actor token front (recovery_as (recovery.TooLarge name n)) did.1) none (last-same r status.BadRecord end)

  -- one that leaves the folder to be opened
  abbrev Reaches : RunState → List Event → List Event → Type 0
  Reaches y front rest = (y ≡ prepared env (Opens o)) × (is_recovered (told_end actor (front ++ rest)) ≡ true)

  reaches : (a : RecoveryAnswer) (y : RunState) (front rest : List Event) → IsRecoveryOf actor token front (recovery_as a) → Goes (recovered env o a) rest (Ok (Go y)) → Reaches y front rest
  reaches (recovery.Done f) y front rest did goes =
      let on = said-on (heard_recovery o.exists f) (prepared env (Opens o)) rest (Go y) goes in
      (go-same y (prepared env (Opens o)) on.0, ap is_recovered (on.1 actor front ∙ is-told actor token front (recovery_as (recovery.Done f)) did.1))
  reaches (recovery.Busy name) y front rest did goes = absurd (goes-ends Ends (ends_with o (with_feed (name ++ codes ": busy")) status.Refused) rest (Go y) (λ u. tt) goes)
  reaches recovery.NotARecord y front rest did (none, inl other) = absurd (cc other)
  reaches recovery.NotARecord y front rest did (none, inr other) = absurd (cc other)
  reaches (recovery.TooLarge name n) y front rest did (none, inl other) = absurd (cc other)
  reaches (recovery.TooLarge name n) y front rest did (none, inr other) = absurd (cc other)

-- a run that is cut off
plainly-cut : (Bad : Type 0) (start : Option Start) (cause : Stop) (es : List Event) (b : Bool) → IsOpeningExplained Bad start (Err cause) es b
plainly-cut Bad start cause es b = record {
  refused_only = λ e. absurd (cc e);
  refused_always = λ h. tt;
  no_folder_only = λ e. absurd (cc e);
  no_folder_always = λ h. tt;
  no_mail_only = λ e. absurd (cc e);
  no_mail_always = λ h. tt;
}

-- the usage is said, or that is cut off
usage-told : (env : Environment) (s : SessionState) (front : List Event) {rest : List Event} {out : Result Status Stop} (more : Loop (round env) (Opening None s) rest out) → front ≡ []
    → Explained (⊥ ⊎ OpenedBadly more) None out (told_end (actor_in env) (front ++ events_at is_recovering more)) (events_at is_opening more) (refused_at_end more)
usage-told env s front more none = usage-by more
    (ap (λ (l : List Event). told_end (actor_in env) (l ++ events_at is_recovering more)) none ∙ ap (told_end (actor_in env)) (opening-plain env None s more))
  where
    usage-by : {rest : List Event} {out : Result Status Stop} (more : Loop (round env) (Opening None s) rest out) {recovery : Ending} → recovery ≡ NoMemory
        → Explained (⊥ ⊎ OpenedBadly more) None out recovery (events_at is_opening more) (refused_at_end more)
    usage-by (again {y = y} xs ys is goes later) told = absurd (goes-ends Ends (says_and_ends usage status.Usage) xs (Go y) (λ u. tt) goes)
    usage-by {rest = rest} (last {r = r} goes) {recovery = recovery} told =
        let said = said-so usage status.Usage r rest goes in
        subst (λ (r : Status). Explained (⊥ ⊎ ⊥) None (Ok r) recovery rest false) (sym said.0) (ended-usage recovery rest told)
    usage-by {rest = rest} (cut {cause = cause} goes) {recovery = recovery} told = explained-cut (⊥ ⊎ ⊥) None cause recovery rest false (plainly-cut (⊥ ⊎ ⊥) None cause rest false)

usage-at : (env : Environment) (y : RunState) (s : SessionState) (front rest : List Event) (out : Result Status Stop) → y ≡ Opening None s → front ≡ [] → (more : Loop (round env) y rest out)
    → Explained (⊥ ⊎ OpenedBadly more) None out (told_end (actor_in env) (front ++ events_at is_recovering more)) (events_at is_opening more) (refused_at_end more)
usage-at env y s front rest out is none =
    let E : RunState → Type 0 = λ y. (more : Loop (round env) y rest out)
    → Explained (⊥ ⊎ OpenedBadly more) None out (told_end (actor_in env) (front ++ events_at is_recovering more)) (events_at is_opening more) (refused_at_end more) in
    subst E (sym is) (λ more. usage-told env s front more none)

-- a run that recovers, from its recovery on
recovery-then : (env : Environment) (o : Options) (y : RunState) (front rest : List Event) (out : Result Status Stop)
    → Goes (recovering env (Some (Opens o))) front (Ok (Go y)) → (more : Loop (round env) y rest out)
    → Explained (⊥ ⊎ OpenedBadly more) (Some (Opens o)) out (told_end (actor_in env) (front ++ events_at is_recovering more)) (events_at is_opening more) (refused_at_end more)
recovery-then env o y front rest out (inl (a, xs, ys, parts, did, goes)) more =
    let r = reaches env (actor_in env) env.token o a y xs ys did goes in
    let before : IsBefore (Opens o) y = subst (IsBefore (Opens o)) (sym r.0) refl in
    opened-after env (Opens o) y front before more (subst (λ (l : List Event). is_recovered (told_end (actor_in env) l) ≡ true) (sym parts) r.1)
recovery-then env o y front rest out (inr (cause, other, part)) more = absurd (cc other)

recovery-over : (env : Environment) (o : Options) (r : Status) (es : List Event) → Goes (recovering env (Some (Opens o))) es (Ok (Last r))
    → Explained ⊥ (Some (Opens o)) (Ok r) (told_end (actor_in env) es) [] false
recovery-over env o r es (inl (a, xs, ys, parts, did, goes)) =
    subst (λ (l : List Event). Explained ⊥ (Some (Opens o)) (Ok r) (told_end (actor_in env) l) [] false) (sym parts) (ended-by env (actor_in env) env.token o a r xs ys did goes)
recovery-over env o r es (inr (cause, other, part)) = absurd (cc other)

-- a run that sends, from its start-up files on
prepared-then : (env : Environment) (o : Options) (y : RunState) (front rest : List Event) (out : Result Status Stop) → Goes (recovering env (Some (Sends o))) front (Ok (Go y))
    → (more : Loop (round env) y rest out)
    → (front ++ events_at is_recovering more ≡ []) × IsOpeningExplained (⊥ ⊎ OpenedBadly more) (Some (Sends o)) out (events_at is_opening more) (refused_at_end more)
prepared-then env o y front rest out (none, inl same) more =
    let at : y ≡ prepared env (Sends o) = go-same y (prepared env (Sends o)) (came-same (Go y) (Go (prepared env (Sends o))) same) in
    let before : IsBefore (Sends o) y = subst (IsBefore (Sends o)) (sym at) refl in
    let plain : events_at is_recovering more ≡ [] = before-plain env (Sends o) before more in (
      ap (λ (l : List Event). l ++ events_at is_recovering more) none ∙ plain,
      explained-by (OpenedBadly more) (⊥ ⊎ OpenedBadly more) inr (or-later (λ never. never)) (Some (Sends o)) out (events_at is_opening more)
          (refused_at_end more) (files-explained env (Sends o) before more),
    )
prepared-then env o y front rest out (none, inr other) more = absurd (cc other)

-- a run from its start tells how its recovery ended, where it makes one, and why it opened no folder
pub recovering-explained : (env : Environment) (start : Option Start) (es : List Event) (out : Result Status Stop) (loop : Loop (round env) (Recovering start) es out)
    → IsExplainedFrom start (actor_in env) out (events_at is_recovering loop) (IsOpeningExplained (OpenedBadly loop) start out (events_at is_opening loop) (refused_at_end loop))
recovering-explained env None es out (again {y = y} front rest is (none, inl same) more) =
    usage-at env y (first_of env None) front rest out (go-same y (Opening None (first_of env None)) (came-same (Go y) (Go (Opening None (first_of env None))) same)) none more
recovering-explained env None es out (again front rest is (none, inr other) more) = absurd (cc other)
recovering-explained env None es out (last (none, inl other)) = absurd (cc other)
recovering-explained env None es out (last (none, inr other)) = absurd (cc other)
recovering-explained env None es out (cut {cause = cause} goes) = explained-cut ⊥ None cause (told_end (actor_in env) es) [] false (plainly-cut ⊥ None cause [] false)
recovering-explained env (Some (Opens o)) es out (again {y = y} front rest is goes more) = recovery-then env o y front rest out goes more
recovering-explained env (Some (Opens o)) es out (last {r = r} goes) = recovery-over env o r es goes
recovering-explained env (Some (Opens o)) es out (cut {cause = cause} goes) =
    explained-cut ⊥ (Some (Opens o)) cause (told_end (actor_in env) es) [] false (plainly-cut ⊥ (Some (Opens o)) cause [] false)
recovering-explained env (Some (Sends o)) es out (again {y = y} front rest is goes more) = prepared-then env o y front rest out goes more
recovering-explained env (Some (Sends o)) es out (last (none, inl other)) = absurd (cc other)
recovering-explained env (Some (Sends o)) es out (last (none, inr other)) = absurd (cc other)
recovering-explained env (Some (Sends o)) es out (cut {cause = cause} (none, end)) = (none, plainly-cut ⊥ (Some (Sends o)) cause [] false)
