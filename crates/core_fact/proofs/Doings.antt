-- A call of a run, by what its actor is doing.
use Rattle.std.proofs.Common.{◌≡◌, ◌⊎◌, ℕ, ℤ, Bool, true, false, List, [], ◌∷◌, ◌++◌, Some, None, refl, ap, sym, subst, inl, inr, ◌∙◌}
use Rattle.std.proofs.lemmas.Bool.{cases_Bool}
use Rattle.std.proofs.lemmas.List.{append-nil}
use Rattle.host_port.specs.declared.event.Event.{Event}
use Rattle.host_port.specs.declared.event.Event.TheVariants as event
use Rattle.host_port.specs.declared.event.Part.TheVariants.{Before}
use Rattle.host_port.specs.Disk.{Disk}
use Rattle.commit_machine.specs.Names.{record_name, right_name}
use Rattle.commit_machine.specs.Jobs.{Ending}
use Rattle.commit_machine.specs.Machine.{State, Seizing, Timing, Looking, Ended, Call, ToLoad, ToSeize, next, after_reply, refused}
use Rattle.commit_machine.specs.Goes.{IsNext, Goes, reply}
use Rattle.actor_ground.proofs.EndLemmas.{calls-end-so}
use Rattle.core_steps.specs.declared.step.StepKind.{StepKind}
use Rattle.core_steps.specs.declared.step.StepKind.TheVariants as kind
use Rattle.core_steps.specs.declared.actor.Actor.{Actor}
use Rattle.core_steps.specs.declared.actor.Task.{Task}
use Rattle.core_steps.specs.declared.actor.Task.TheVariants as task
use Rattle.core_steps.specs.declared.actor.Past.{Past}
use Rattle.core_steps.specs.declared.actor.Past.TheVariants.{Wanted}
use Rattle.core_steps.specs.declared.actor.Doing.{Doing}
use Rattle.core_steps.specs.declared.actor.Doing.TheVariants.{Nothing, Bracket, Stopped}
use Rattle.core_steps.specs.Tasks.{job_of, state_of, may_want}
use Rattle.core_steps.specs.Turns.{doing_at, doing_then, turn_of}
use Rattle.core_steps.specs.Cores.{CoreState, seen_by, actors_of}
use Rattle.core_steps.specs.Shown.{next_of}
use Rattle.core_steps.specs.Programs.{Work, for_task, may_begin, is_whole, AreWorks}
use Rattle.core_fact.proofs.CleanUps.{is_clean_up, wanted-clean, once_or_stays}
use Rattle.core_fact.proofs.Following.{is_now, the_call, of-now, untimed, timing, Follows, ready}
use Rattle.core_fact.proofs.Futures.{Acts, Future, Inside, Will, One, one_of, one_or_over, doing-live, doing-whole}
use Rattle.core_fact.proofs.Moves.{Due, Made, before, idle}
use Rattle.core_fact.proofs.Cuts.{passed-none}
use Rattle.core_fact.proofs.CalledShown.{deed, refuse-turn, refuse-quiet, stopping_in, called}

now-is : (e : Event) → is_now e ≡ true → (time : ℤ) × (e ≡ event.Now time)
now-is (event.Now time) h = (time, refl)
now-is e h = absurd (cc)

-- the step that begins a commit or a recovery
abbrev begin_kind : Task → StepKind
begin_kind (task.Commit changes moment) = kind.Commit changes moment
begin_kind task.Recover = kind.Recover

begin-turn : (actors : List Actor) (a : Actor) (t : Task) (d : Disk) → may_begin actors a t ≡ true
    → turn_of actors a Nothing (begin_kind t) d ≡ Some (record { doing = Bracket t []; disk = d; passed = [] })
begin-turn actors a (task.Commit changes moment) d may = rw may refl
begin-turn actors a task.Recover d may = refl

module _ (actors : List Actor) (a : Actor) (k : ℕ) (xs : Acts) where
  -- the question for the time is asked where the record is looked for next
  question : (t : Task) (past : List Past) (s now : State) (time : ℤ) → Follows a t past s → (now ≡ s) ⊎ (now ≡ refused (job_of a t) s) → IsNext (next (job_of a t) now) (event.Now time)
      → (now ≡ Timing time) × Follows a t past Looking
  question t past s now time f or of =
      let c = the_call (next (job_of a t) now) (event.Now time) of in
      let at : now ≡ Timing time = timing (job_of a t) now time (c.1 ∙ ap Some (of-now c.0 time c.2)) in (
        at,
        elim (once_or_stays (job_of a t) s now or) [
          | inl e ↦ (
              let g : Follows a t past (Timing time) = subst (Follows a t past) (sym e ∙ at) f in
              record { is = g.is; once = λ h. (let y = g.once h in absurd (cc)) })
          | inr w ↦ (let y : is_clean_up (Timing time) ≡ true = ap is_clean_up (sym at ∙ w.0) ∙ wanted-clean (job_of a t) s w.1 in absurd (cc))
        ],
      )

  asked_time : (s : CoreState) (t : Task) (past : List Past) (time : ℤ) (b : Bool) (call : Call) → Due actors s a (Bracket t past) (deed k t (event.Now time) b) xs → Follows a t past Looking
      → next_of a t past ≡ Some call
      → Future actors a t Looking xs → Made actors s a (deed k t (event.Now time) b) xs
  asked_time s t past time true call due f live future =
      stopping_in actors a t k xs s past (event.Now time) (ToLoad (record_name (job_of a t).actor)) Before due (ap (next (job_of a t)) f.is) refl refl
  asked_time s t past time false call due f live future =
      idle actors a (deed k t (event.Now time) false) xs s (Bracket t past) due refl (passed-none a t (event.Now time) (seen_by k s.disk) refl) refl
      (record { state = Looking; follows = f; future = future; call = call; live = live })

  -- the call, once memory was wanted or not
  at_call : (s : CoreState) (t : Task) (past : List Past) (st : State) (e : Event) (b : Bool) → Due actors s a (Bracket t past) (deed k t e b) xs → Follows a t past st → is_now e ≡ false
      → IsNext (next (job_of a t) st) e
      → Future actors a t (after_reply (job_of a t) st (reply e)) xs → Made actors s a (deed k t e b) xs
  at_call s t past st e b due f not_now of future =
      let c = the_call (next (job_of a t) st) e of in
      called actors a t k xs s past st e b c.0 due f (untimed (job_of a t) st e of not_now) c.1 future (calls-end-so (seen_by k s.disk) c.0 e c.2 due.agrees due.within)

  -- memory was wanted before the call
  after_want : (s : CoreState) (t : Task) (past : List Past) (st : State) (e : Event) (b : Bool) (call : Call) → Due actors s a (Bracket t past) (deed k t e b) xs → next_of a t past ≡ Some call
      → may_want (state_of a t past) ≡ true
      → Follows a t (past ++ Wanted ∷ []) st → is_now e ≡ false → IsNext (next (job_of a t) st) e
      → Future actors a t (after_reply (job_of a t) st (reply e)) xs → Made actors s a (deed k t e b) xs
  after_want s t past st e b call due live may f not_now of future =
      let now : List Past = past ++ Wanted ∷ [] in
      let c = the_call (next (job_of a t) st) e of in
      let at : state_of a t now ≡ st = f.is ∙ untimed (job_of a t) st e of not_now in
      let doing : doing_then a t past Wanted ≡ Bracket t now = doing-live (job_of a t) t now (state_of a t now) c.0 (ap (next (job_of a t)) at ∙ c.1) in
      before actors a (deed k t e b) xs s (Bracket t past) (Bracket t now) kind.Refuse due
      (refuse-turn s k a t past call (seen_by k s.disk) live may ∙ ap (λ (y : Doing). Some (record { doing = y; disk = seen_by k s.disk; passed = [] })) doing)
      (refuse-quiet k a t past call (seen_by k s.disk) live)
      (λ mid next_due. at_call mid t now st e b next_due f not_now of future)

  same_task : (s : CoreState) (t : Task) (past : List Past) (st : State) (e : Event) (b : Bool) (call : Call) → Due actors s a (Bracket t past) (deed k t e b) xs → Follows a t past st
      → next_of a t past ≡ Some call
      → (now : State) → (now ≡ st) ⊎ (now ≡ refused (job_of a t) st) → IsNext (next (job_of a t) now) e → Future actors a t (after_reply (job_of a t) now (reply e)) xs
      → Made actors s a (deed k t e b) xs
  same_task s t past st e b call due f live now or of future = elim (cases_Bool (is_now e)) [
    | inl y ↦ (
        let x = now-is e y in
        let of' : IsNext (next (job_of a t) now) (event.Now x.0) = subst (λ (z : Event). IsNext (next (job_of a t) now) z) x.1 of in
        let q = question t past st now x.0 f or of' in
        let looking : Future actors a t Looking xs =
        subst (λ (z : State). Future actors a t (after_reply (job_of a t) z (reply (event.Now x.0))) xs) q.0
        (subst (λ (z : Event). Future actors a t (after_reply (job_of a t) now (reply z)) xs) x.1 future) in
        subst (λ (z : Event). Made actors s a (deed k t z b) xs) (sym x.1)
        (asked_time s t past x.0 b call (subst (λ (z : Event). Due actors s a (Bracket t past) (deed k t z b) xs) x.1 due) q.1 live looking))
    | inr n ↦ (
        let r = ready a t past st now f or in
        elim r.1 [
          | inl same ↦ at_call s t past now e b due (subst (λ (p : List Past). Follows a t p now) same r.2) n of future
          | inr w ↦ after_want s t past now e b call due live w.0 (subst (λ (p : List Past). Follows a t p now) w.2 r.2) n of future
        ])
  ]

  -- in a bracket that isn't over
  inside_one : (s : CoreState) (t u : Task) (past : List Past) (st : State) (e : Event) (b : Bool) (call : Call) → Due actors s a (Bracket t past) (deed k u e b) xs → Follows a t past st
      → next_of a t past ≡ Some call
      → One actors a t st u e xs → Made actors s a (deed k u e b) xs
  inside_one s t u past st e b call due f live one =
      subst (λ (z : Task). Made actors s a (deed k z e b) xs) (sym one.same)
      (same_task s t past st e b call (subst (λ (z : Task). Due actors s a (Bracket t past) (deed k z e b) xs) one.same due) f live one.now one.wants one.of one.rest)

  begins : (s : CoreState) (t u : Task) (e : Event) (b : Bool) → Due actors s a Nothing (deed k u e b) xs → may_begin actors a t ≡ true → One actors a t Seizing u e xs
      → Made actors s a (deed k u e b) xs
  begins s t u e b due may one =
      before actors a (deed k u e b) xs s Nothing (Bracket t []) (begin_kind t) due
      (begin-turn (actors_of s) a t (seen_by k s.disk) (subst (λ (z : List Actor). may_begin z a t ≡ true) (sym due.listed) may)) refl
      (λ mid next_due. inside_one mid t u [] Seizing e b (ToSeize (right_name (job_of a t).actor)) next_due (record { is = refl; once = λ h. absurd (cc) }) refl one)

  -- the last work has a call
  last_one : (t u : Task) (e : Event) (es : List Event) (s : State) → (u, e) ∷ xs ≡ for_task t es → Goes (job_of a t) Seizing es s → One actors a t Seizing u e xs
  last_one t u e [] s is goes = absurd (cc)
  last_one t u e (x ∷ es) s is goes = one_of actors a t Seizing u e xs [] x es s (is ∙ ap (λ (z : Acts). (t, x) ∷ z) (sym (append-nil (for_task t es)))) goes (inl refl)

  -- the first work has a call, or the next ones do
  work_one : (w : Work) (u : Task) (e : Event) (ws : List Work) (more : Acts) (calls : List Event) → (u, e) ∷ xs ≡ for_task w.task calls ++ more → Goes (job_of a w.task) Seizing calls (Ended w.end)
      → is_whole w.end ≡ true → AreWorks actors a ws more
      → One actors a w.task Seizing u e xs ⊎ AreWorks actors a ws ((u, e) ∷ xs)
  work_one w u e ws more [] is goes whole rest = inr (subst (λ (z : Acts). AreWorks actors a ws z) (sym is) rest)
  work_one w u e ws more (x ∷ calls) is goes whole rest = inl (one_of actors a w.task Seizing u e xs more x calls (Ended w.end) is goes (inr (w.end, refl, whole, (ws, rest))))

  -- in no bracket
  pub outside : (ws : List Work) (s : CoreState) (u : Task) (e : Event) (b : Bool) → Due actors s a Nothing (deed k u e b) xs → AreWorks actors a ws ((u, e) ∷ xs) → Made actors s a (deed k u e b) xs
  outside [] s u e b due (inl h) = absurd (cc)
  outside [] s u e b due (inr w) = begins s w.0 u e b due w.4 (last_one w.0 u e w.1 w.2 w.3 w.5)
  outside (w ∷ ws) s u e b due works = elim (work_one w u e ws works.0 w.calls works.1 works.2.1 works.2.2 works.3) [
    | inl one ↦ begins s w.task u e b due works.2.0 one
    | inr rest ↦ outside ws s u e b due rest
  ]

  -- the bracket is over once memory is wanted
  closes : (s : CoreState) (t u : Task) (past : List Past) (e : Event) (b : Bool) (call : Call) (end : Ending) (ws : List Work) → Due actors s a (Bracket t past) (deed k u e b) xs
      → next_of a t past ≡ Some call → may_want (state_of a t past) ≡ true
      → Follows a t (past ++ Wanted ∷ []) (Ended end) → is_whole end ≡ true → AreWorks actors a ws ((u, e) ∷ xs) → Made actors s a (deed k u e b) xs
  closes s t u past e b call end ws due live may f whole works =
      let now : List Past = past ++ Wanted ∷ [] in
      let doing : doing_then a t past Wanted ≡ Nothing = ap (doing_at t now) f.is ∙ doing-whole t now end whole in
      before actors a (deed k u e b) xs s (Bracket t past) Nothing kind.Refuse due
      (refuse-turn s k a t past call (seen_by k s.disk) live may ∙ ap (λ (y : Doing). Some (record { doing = y; disk = seen_by k s.disk; passed = [] })) doing)
      (refuse-quiet k a t past call (seen_by k s.disk) live)
      (λ mid next_due. outside ws mid u e b next_due works)

  -- in a bracket
  pub inside : (s : CoreState) (t u : Task) (past : List Past) (e : Event) (b : Bool) → Due actors s a (Bracket t past) (deed k u e b) xs → Inside actors a t past ((u, e) ∷ xs)
      → Made actors s a (deed k u e b) xs
  inside s t u past e b due i = elim (one_or_over actors a t i.state u e xs i.future) [
    | inl one ↦ inside_one s t u past i.state e b i.call due i.follows i.live one
    | inr o ↦ (
        let r = ready a t past i.state (Ended o.0) i.follows o.1 in
        elim r.1 [
          | inl same ↦ (let f : Follows a t past (Ended o.0) = subst (λ (p : List Past). Follows a t p (Ended o.0)) same r.2 in
              let h : None ≡ Some i.call = sym (ap (next (job_of a t)) f.is) ∙ i.live in absurd (cc))
          | inr w ↦ closes s t u past e b i.call o.0 o.3.0 due i.live w.0 (subst (λ (p : List Past). Follows a t p (Ended o.0)) w.2 r.2) o.2 o.3.1
        ])
  ]

  -- whatever the actor is doing
  pub one_call : (doing : Doing) (s : CoreState) (u : Task) (e : Event) (b : Bool) → Due actors s a doing (deed k u e b) xs → Will actors a doing ((u, e) ∷ xs) → Made actors s a (deed k u e b) xs
  one_call Nothing s u e b due will = outside will.0 s u e b due will.1
  one_call (Bracket t past) s u e b due will = inside s t u past e b due will
  one_call Stopped s u e b due will = absurd (cc)
