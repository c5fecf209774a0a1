-- A run that nothing stands in the way of is answered.
use Rattle.std.proofs.Common.{◌≡◌, ◌⊎◌, ◌||◌, ℕ, Bool, true, false, List, refl, sym, ◌∙◌, ap, subst, inl, inr}
use Rattle.std.specs.declared.option.Option.{Option}
use Rattle.std.specs.declared.option.Option.TheVariants.{Some, None}
use Rattle.std.specs.declared.result.Result.{Result}
use Rattle.std.specs.declared.result.Result.TheVariants.{Ok, Err}
use Rattle.host_port.specs.declared.event.Event.{Event}
use Rattle.host_port.specs.Calls.{Counts, NeverFall}
use Rattle.host_port.proofs.RanLemmas.{rose-on}
use Rattle.folder_recovery.specs.Told.{told_end}
use Rattle.session_play.specs.declared.stop.Stop.{Stop}
use Rattle.session_play.specs.declared.stop.Stop.TheVariants as stop
use Rattle.session_play.specs.Acts.{input_after}
use Rattle.session_play.specs.Causes.{some_load_saw, events_at}
use Rattle.session_play.specs.Input.{Input}
use Rattle.session_play.specs.Play.{Caused, Act, Answer, Play, Ret, Ask, Goes, Next, Go, Last, Loop, again, last, cut}
use Rattle.session_play.proofs.ShapeLemmas.{came-same}
use Rattle.session_state.specs.Outcomes.{status_of}
use Rattle.session_state.specs.Saving.{is_refused}
use Rattle.session_state.specs.declared.outcome.SendOutcome.{SendOutcome}
use Rattle.session_state.specs.declared.outcome.SendOutcome.TheVariants as outcome
use Rattle.session_state.specs.declared.status.Status.{Status}
use Rattle.session_state.specs.declared.status.Status.TheVariants as status
use Rattle.mailx_session.proofs.ObeyLemmas.{Met, nothing_met, met_by}
use Rattle.mailx_session.proofs.LineLemmas.{CameFrom, Fine}
use Rattle.mailx_top.specs.declared.environment.Environment.{Environment}
use Rattle.session_state.specs.Statuses.{IsEnd}
use Rattle.mailx_top.specs.Complete.{IsStill, some_refused_in, IsUnhindered, IsComplete}
use Rattle.mailx_top.specs.Leavings.{first_answer, is_quit_refused, is_refused_before, is_refused_at, refused_at_end, last_outcome, outcome_before}
use Rattle.mailx_top.specs.Meaning.{RunState, Recovering, Preparing, Opening, Reading, Finishing, Leaving, round, input_of, is_opening, is_recovering, actor_in, actor_said}
use Rattle.mailx_top.specs.Met.{some_act}
use Rattle.mailx_top.specs.Openings.{saw_held}
use Rattle.mailx_top.specs.Runs.{Ending, IsRun}
use Rattle.mailx_top.specs.Starts.{is_right_busy, is_recovered, IsExplainedFrom}
use Rattle.mailx_top.specs.Statuses.{status_at_stop}
use Rattle.mailx_top.specs.Usage.{EndsAsNamed}
use Rattle.mailx_top.specs.Words as words
use Rattle.mailx_top.specs.Words.{Start, start_of, may_say}
use Rattle.mailx_top.proofs.LeavingLemmas.{quit-met}
use Rattle.mailx_top.proofs.RecordLemmas.{or-moved, or-none}
use Rattle.mailx_top.proofs.RoundLemmas.{ExitsFrom, IsOther, LeadsFrom, Leading, RoundEnds, Rounds, any-round, goes-over, outcome_in, round-obeys}

abbrev refused_test : (act : Act) → Answer act → List Event → Bool
refused_test act answer es = is_refused act answer

-- ---- a draft counts as refused only if changes were

fine-so : (b : Bool) (P : Type 0) → Fine b P → P
fine-so true P never = absurd never
fine-so false P p = p

module _ (env : Environment) (actor : List ℕ) (token : ℕ) (opens : Bool) (o : SendOutcome) (Leads : RunState → Type 0) (Exits : Status → Type 0) where
  goes-came : (met : Met) (i : Input) (p : Play (Next RunState Status)) (es : List Event) (y : RunState)
      → Rounds env actor token opens (Leading o Leads) Exits (met, i) p → (goes : Goes p es (Ok (Go y)))
      → CameFrom o (met.1 || some_act refused_test p es (Ok (Go y)) goes) (outcome_in y)
  goes-came met i (Ret q) es y obeys (none, inl same) =
      let E : Next RunState Status → Type 0 = λ n. RoundEnds env actor token (Leading o Leads) Exits (met, i) n in
      let ends = fine-so met.0 _ (subst E (sym (came-same (Go y) q same)) obeys) in
      subst (λ (b : Bool). CameFrom o b (outcome_in y)) (sym (or-none met.1)) ends.2.1
  goes-came met i (Ret q) es y obeys (none, inr other) = absurd (cc other)
  goes-came met i (Ask act go) es y obeys (inl (answer, front, rest, is, did, goes)) =
      subst (λ (b : Bool). CameFrom o b (outcome_in y)) (sym (or-moved met.1 (is_refused act answer) (some_act refused_test (go answer) rest (Ok (Go y)) goes)))
      (goes-came (met_by met act answer) (input_after act answer i) (go answer) rest y (obeys.1 answer) goes)
  goes-came met i (Ask act go) es y obeys (inr (cause, other, how)) = absurd (cc other)

round-came : (env : Environment) (x y : RunState) (es : List Event) (goes : Goes (round env x) es (Ok (Go y)))
    → CameFrom (outcome_in x) (some_act refused_test (round env x) es (Ok (Go y)) goes) (outcome_in y)
round-came env x y es goes = any-round env _ x (λ actor token of.
    goes-came env actor token (is_opening x) (outcome_in x) (LeadsFrom x) (ExitsFrom x) nothing_met (input_of x) (round env x) es y (round-obeys env actor token x of) goes)

-- what had become of drafts before the last round
abbrev last_in : {round : RunState → Play (Next RunState Status)} {x : RunState} {es : List Event} {out : Result Status Stop} → Loop round x es out → SendOutcome
last_in (again front rest is goes more) = last_in more
last_in (last {x = x} goes) = outcome_in x
last_in (cut {x = x} goes) = outcome_in x

or-later : (a b : Bool) → b ≡ true → (a || b) ≡ true
or-later true b is = refl
or-later false b is = is

came-or : (o now : SendOutcome) (b later : Bool) → CameFrom o b now → now ≡ outcome.Refused → (o ≡ outcome.Refused) ⊎ ((b || later) ≡ true)
came-or o now true later came is = inr refl
came-or o now false later came is = inl (came is)

loop-came : (env : Environment) {x : RunState} {es : List Event} {out : Result Status Stop} (loop : Loop (round env) x es out) → last_in loop ≡ outcome.Refused
    → (outcome_in x ≡ outcome.Refused) ⊎ (some_refused_in loop ≡ true)
loop-came env {x = x} (again {y = y} front rest is goes more) came = go (loop-came env more came)
  where
    go : (outcome_in y ≡ outcome.Refused) ⊎ (some_refused_in more ≡ true)
        → (outcome_in x ≡ outcome.Refused) ⊎ ((some_act refused_test (round env x) front (Ok (Go y)) goes || some_refused_in more) ≡ true)
    go (inl here) = came-or (outcome_in x) (outcome_in y) (some_act refused_test (round env x) front (Ok (Go y)) goes) (some_refused_in more) (round-came env x y front goes) here
    go (inr later) = inr (or-later (some_act refused_test (round env x) front (Ok (Go y)) goes) (some_refused_in more) later)
loop-came env (last goes) came = inl came
loop-came env (cut goes) came = inl came

-- ---- a run is refused at its end only so

before-draft : (o : SendOutcome) (e : Status) → is_refused_before o e ≡ true → (o ≡ outcome.Refused) ⊎ (o ≡ outcome.Unrecorded)
before-draft outcome.Fine e is = absurd (cc is)
before-draft (outcome.NotSent n) e is = absurd (cc is)
before-draft outcome.Refused e is = inl refl
before-draft outcome.Unrecorded e is = inr refl

-- why the end of a run is refused
abbrev IsWhy : SendOutcome → SendOutcome → Bool → Type 0
IsWhy now before refused = (now ≡ outcome.Refused) ⊎ ((before ≡ outcome.Unrecorded) ⊎ (refused ≡ true))

by-draft : (o : SendOutcome) (e : Status) (refused : Bool) → is_refused_before o e ≡ true → IsWhy o o refused
by-draft o e refused is = go (before-draft o e is)
  where
    go : (o ≡ outcome.Refused) ⊎ (o ≡ outcome.Unrecorded) → IsWhy o o refused
    go (inl so) = inl so
    go (inr so) = inr (inl so)

by-end : (o : SendOutcome) (e : Status) (quit refused : Bool) → (quit ≡ true → refused ≡ true) → (quit || is_refused_before o e) ≡ true → IsWhy o o refused
by-end o e true refused met is = inr (inr (met refl))
by-end o e false refused met is = by-draft o e refused is

round-why : (env : Environment) (x : RunState) (es : List Event) (r : Status) (goes : Goes (round env x) es (Ok (Last r)))
    → is_refused_at x r (first_answer (round env x) es (Ok (Last r)) goes) ≡ true → IsWhy (outcome_in x) (outcome_before x) (some_act refused_test (round env x) es (Ok (Last r)) goes)
round-why env (Recovering start) es r goes is = absurd (cc is)
round-why env (Preparing start s names) es r goes is = by-draft s.outcome r _ is
round-why env (Opening start s) es r goes is = absurd (cc is)
round-why env (Reading s i) es r goes is = by-draft s.outcome r _ is
round-why env (Finishing s i) es r goes is = by-draft s.outcome r _ is
round-why env (Leaving s i) es r goes is =
    by-end s.outcome r (is_quit_refused s (first_answer (round env (Leaving s i)) es (Ok (Last r)) goes))
    (some_act refused_test (round env (Leaving s i)) es (Ok (Last r)) goes) (quit-met s es r goes) is

loop-why : (env : Environment) {x : RunState} {es : List Event} {out : Result Status Stop} (loop : Loop (round env) x es out)
    → refused_at_end loop ≡ true → IsWhy (last_in loop) (last_outcome loop) (some_refused_in loop)
loop-why env {x = x} (again {y = y} front rest is goes more) refused = go (loop-why env more refused)
  where
    go : IsWhy (last_in more) (last_outcome more) (some_refused_in more) → IsWhy (last_in more) (last_outcome more) (some_act refused_test (round env x) front (Ok (Go y)) goes || some_refused_in more)
    go (inl now) = inl now
    go (inr (inl before)) = inr (inl before)
    go (inr (inr met)) = inr (inr (or-later (some_act refused_test (round env x) front (Ok (Go y)) goes) (some_refused_in more) met))
loop-why env {x = x} {es = es} (last {r = r} goes) refused = round-why env x es r goes refused
loop-why env (cut goes) refused = absurd (cc refused)

-- a run whose changes were never refused isn't refused at its end, unless the word for a record stood for no file
unrefused : (env : Environment) (start : Option Start) {es : List Event} {out : Result Status Stop} (loop : Loop (round env) (Recovering start) es out) → some_refused_in loop ≡ false
    → (last_outcome loop ≡ outcome.Unrecorded → ⊥) → refused_at_end loop ≡ true → ⊥
unrefused env start loop free recorded refused = go (loop-why env loop refused)
  where
    met : some_refused_in loop ≡ true → ⊥
    met is = let both : true ≡ false = sym is ∙ free in absurd (cc both)

    came : (outcome.Fine ≡ outcome.Refused) ⊎ (some_refused_in loop ≡ true) → ⊥
    came (inl never) = absurd (cc never)
    came (inr is) = met is

    go : IsWhy (last_in loop) (last_outcome loop) (some_refused_in loop) → ⊥
    go (inl now) = came (loop-came env loop now)
    go (inr (inl before)) = recorded before
    go (inr (inr is)) = met is

-- ---- the limit of the input ends no run by its meaning

plain-limit : (r : Status) → IsOther r → r ≡ status.InputLimit → ⊥
plain-limit r other is = subst IsOther is other

outcome-limit : (o : SendOutcome) → status_of o ≡ status.InputLimit → ⊥
outcome-limit outcome.Fine is = absurd (cc is)
outcome-limit (outcome.NotSent n) is = absurd (cc is)
outcome-limit outcome.Refused is = absurd (cc is)
outcome-limit outcome.Unrecorded is = absurd (cc is)

exits-limit : (x : RunState) (r : Status) → ExitsFrom x r → r ≡ status.InputLimit → ⊥
exits-limit (Recovering start) r (opened, free, other) is = plain-limit r other is
exits-limit (Preparing start s names) r exits is = outcome-limit s.outcome (sym exits ∙ is)
exits-limit (Opening start s) r (opened, free, other) is = plain-limit r other is
exits-limit (Reading s i) r exits is = outcome-limit s.outcome (sym exits ∙ is)
exits-limit (Finishing s i) r exits is = outcome-limit s.outcome (sym exits ∙ is)
exits-limit (Leaving s i) r (inl exits) is = outcome-limit s.outcome (sym exits ∙ is)
exits-limit (Leaving s i) r (inr exits) is = let both : status.Refused ≡ status.InputLimit = sym exits ∙ is in absurd (cc both)

over-limit : (x : RunState) (r : Status) → ExitsFrom x r ⊎ (r ≡ status.BadRecord) → r ≡ status.InputLimit → ⊥
over-limit x r (inl exits) is = exits-limit x r exits is
over-limit x r (inr for_record) is = let both : status.BadRecord ≡ status.InputLimit = sym for_record ∙ is in absurd (cc both)

loop-limit : (env : Environment) {x : RunState} {es : List Event} {out : Result Status Stop} → Loop (round env) x es out → out ≡ Ok status.InputLimit → ⊥
loop-limit env (again front rest is goes more) same = loop-limit env more same
loop-limit env {x = x} {es = es} (last {r = r} goes) same = over-limit x r (goes-over env x es r goes) (came-same r status.InputLimit same)
loop-limit env (cut goes) same = absurd (cc same)

-- ---- a run as a whole

-- a status is that of an end or of a cut
abbrev pub Comes : Status → Result Status Stop → Type 0
Comes s out = (out ≡ Ok s) ⊎ ((cause : Stop) × (out ≡ Err cause) × (s ≡ status_at_stop cause))

pub comes : (actor : List ℕ) (may : Bool) (s : Status) (out : Result Status Stop) (behind : List Event) → Ending actor may s out behind → Comes s out
comes actor may s (Ok e) behind (is, says) = inl (ap Ok (sym is))
comes actor may s (Err cause) behind (is, says) = inr (cause, refl, is)

no-cut-refused : (cause : Stop) → status.Refused ≡ status_at_stop cause → ⊥
no-cut-refused stop.Input is = absurd (cc is)
no-cut-refused stop.Output is = absurd (cc is)
no-cut-refused stop.Disk is = absurd (cc is)
no-cut-refused stop.TooMuch is = absurd (cc is)
no-cut-refused stop.Memory is = absurd (cc is)

no-cut-record : (cause : Stop) → status.BadRecord ≡ status_at_stop cause → ⊥
no-cut-record stop.Input is = absurd (cc is)
no-cut-record stop.Output is = absurd (cc is)
no-cut-record stop.Disk is = absurd (cc is)
no-cut-record stop.TooMuch is = absurd (cc is)
no-cut-record stop.Memory is = absurd (cc is)

limit-cut : (cause : Stop) → status.InputLimit ≡ status_at_stop cause → cause ≡ stop.TooMuch
limit-cut stop.Input is = absurd (cc is)
limit-cut stop.Output is = absurd (cc is)
limit-cut stop.Disk is = absurd (cc is)
limit-cut stop.TooMuch is = refl
limit-cut stop.Memory is = absurd (cc is)

second-true : (a b : Bool) → a ≡ false → (a || b) ≡ true → b ≡ true
second-true true b is h = absurd (cc is)
second-true false b is h = h

-- a refused run came to its opening, if its recovery met nobody's right
opened-by : (start : Option Start) (actor : List ℕ) (out : Result Status Stop) (es : List Event) (O : Type 0) → IsExplainedFrom start actor out es O
    → is_right_busy (told_end actor es) ≡ false → out ≡ Ok status.Refused → O
opened-by None actor out es O explained free is = explained.opens (second-true (is_right_busy (told_end actor es)) (is_recovered (told_end actor es)) free (explained.refused_only is))
opened-by (Some (words.Opens o)) actor out es O explained free is =
    explained.opens (second-true (is_right_busy (told_end actor es)) (is_recovered (told_end actor es)) free (explained.refused_only is))
opened-by (Some (words.Sends o)) actor out es O explained free is = explained.1

module _ (start : Option Start) (env : Environment) where
  not-refused : (es : List Event) (run : IsRun start env status.Refused es) → IsUnhindered start env status.Refused es run → ⊥
  not-refused es run free = go (comes (actor_said env) (may_say start) status.Refused run.whole.out run.whole.behind run.whole.ending)
    where
      go : Comes status.Refused run.whole.out → ⊥
      go (inl is) =
          let opened = opened-by (start_of start env.pairs) (actor_in env) run.whole.out (events_at is_recovering run.whole.plays) _ run.opening free.right is in
          unrefused env (start_of start env.pairs) run.whole.plays free.changes free.recorded
          (second-true (some_load_saw saw_held (events_at is_opening run.whole.plays)) (refused_at_end run.whole.plays) free.lock (opened.refused_only is))
      go (inr (cause, is, at)) = no-cut-refused cause at

  not-for-record : (es : List Event) (run : IsRun start env status.BadRecord es) → IsUnhindered start env status.BadRecord es run → ⊥
  not-for-record es run free = go (comes (actor_said env) (may_say start) status.BadRecord run.whole.out run.whole.behind run.whole.ending)
    where
      go : Comes status.BadRecord run.whole.out → ⊥
      go (inl is) = let both : true ≡ false = sym (run.record_met.only is) ∙ free.record_reads in absurd (cc both)
      go (inr (cause, is, at)) = no-cut-record cause at

  not-limit : (es : List Event) (run : IsRun start env status.InputLimit es) → IsUnhindered start env status.InputLimit es run → ⊥
  not-limit es run free = go (comes (actor_said env) (may_say start) status.InputLimit run.whole.out run.whole.behind run.whole.ending)
    where
      go : Comes status.InputLimit run.whole.out → ⊥
      go (inl is) = loop-limit env run.whole.plays is
      go (inr (cause, is, at)) = free.input (run.explained.too_much.0 (is ∙ ap Err (limit-cut cause at)))

  not-limit-so : (es : List Event) → IsComplete start env status.InputLimit es
  not-limit-so es run free = absurd (not-limit es run free)

  -- a run that isn't refused for its words and meets no fault
  pub complete : (s : Status) (es : List Event) → (s ≡ status.Usage → ⊥) → (s ≡ status.InputFault → ⊥) → (s ≡ status.OutputFault → ⊥) → (s ≡ status.DiskFault → ⊥) → IsComplete start env s es
  complete status.Done es words input output disk run free = tt
  complete status.NoMail es words input output disk run free = tt
  complete status.Usage es words input output disk run free = absurd (words refl)
  complete status.InputFault es words input output disk run free = absurd (input refl)
  complete status.OutputFault es words input output disk run free = absurd (output refl)
  complete status.DiskFault es words input output disk run free = absurd (disk refl)
  complete (status.NotSent n) es words input output disk run free = tt
  complete status.Refused es words input output disk run free = not-refused es run free
  complete status.Memory es words input output disk run free = tt
  complete status.InputLimit es words input output disk run free = not-limit es run free
  complete status.NoFolder es words input output disk run free = tt
  complete status.BadRecord es words input output disk run free = not-for-record es run free

-- ---- each end of a run

ends-plainly : (env : Environment) (start : Option Start) (s : Status) → EndsAsNamed env start (Ok s) → (start ≡ None → ⊥) → IsEnd s
ends-plainly env None s named some = absurd (some refl)
ends-plainly env (Some start) s named some = named.0

pub complete-end : (start : Option Start) (env : Environment) (s : Status) → EndsAsNamed env (start_of start env.pairs) (Ok s)
    → (start_of start env.pairs ≡ None → ⊥) → (es : List Event) → IsComplete start env s es
complete-end start env s named some es =
    let plain = ends-plainly env (start_of start env.pairs) s named some in
    complete start env s es (λ is. subst IsEnd is plain) (λ is. subst IsEnd is plain) (λ is. subst IsEnd is plain) (λ is. subst IsEnd is plain)

pub complete-cut : (start : Option Start) (env : Environment) (T : Type 0) (cause : Stop) (old mid new : Counts) → Caused {T = T} old mid (Err cause)
    → NeverFall mid new → IsStill old new → (es : List Event) → IsComplete start env (status_at_stop cause) es
complete-cut start env T stop.Input old mid new rose fall still es = absurd (still.ins (rose-on old.ins mid.ins new.ins fall.ins rose))
complete-cut start env T stop.Output old mid new rose fall still es = absurd (still.outs (rose-on old.outs mid.outs new.outs fall.outs rose))
complete-cut start env T stop.Disk old mid new rose fall still es = absurd (still.disks (rose-on old.disks mid.disks new.disks fall.disks rose))
complete-cut start env T stop.TooMuch old mid new rose fall still es = not-limit-so start env es
complete-cut start env T stop.Memory old mid new rose fall still es = λ run free. tt
