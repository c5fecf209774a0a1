-- The next call of a bracket, as a step.
use Rattle.std.proofs.Common.{◌≡◌, ℕ, Bool, true, false, List, [], ◌∷◌, ◌++◌, Some, refl, ap, sym, subst, inl, inr, ◌∙◌}
use Rattle.std.proofs.lemmas.Bool.{cases_Bool}
use Rattle.host_port.specs.declared.event.Event.{Event}
use Rattle.host_port.specs.declared.event.Event.TheVariants as event
use Rattle.host_port.specs.declared.event.Seen.TheVariants as seen
use Rattle.host_port.specs.declared.event.Part.{Part}
use Rattle.host_port.specs.declared.event.Part.TheVariants.{Before, After}
use Rattle.host_port.specs.Disk.{Disk, after}
use Rattle.host_port.specs.Ends.{cut_short, stopped, ended}
use Rattle.commit_machine.specs.Jobs.{Failed, Unknown}
use Rattle.commit_machine.specs.Machine.{State, Seizing, Checking, Releasing, Call, ToLoad, Short, Fault, next, after_reply, refused}
use Rattle.commit_machine.specs.Goes.{reply}
use Rattle.commit_machine.specs.Due.{is_decision}
use Rattle.actor_ground.specs.CallEnds.{IsEnd, asked}
use Rattle.core_steps.specs.declared.step.StepKind.{StepKind}
use Rattle.core_steps.specs.declared.step.StepKind.TheVariants as kind
use Rattle.core_steps.specs.declared.actor.Actor.{Actor}
use Rattle.core_steps.specs.declared.actor.Task.{Task}
use Rattle.core_steps.specs.declared.actor.Past.{Past}
use Rattle.core_steps.specs.declared.actor.Past.TheVariants.{Shown, Wanted}
use Rattle.core_steps.specs.declared.actor.Doing.TheVariants.{Bracket}
use Rattle.core_steps.specs.Tasks.{job_of, state_of, on_time, may_want}
use Rattle.core_steps.specs.Turns.{doing_then, shown, stopping, turn_inside, turn_of}
use Rattle.core_steps.specs.Cores.{CoreState, seen_by, actors_of}
use Rattle.core_steps.specs.Shown.{next_of}
use Rattle.core_steps.specs.Programs.{Deed}
use Rattle.core_steps.specs.RunSteps.{made_by, made_in, main_calls}
use Rattle.core_fact.proofs.CleanUps.{wanted-refused, unwanted-load}
use Rattle.core_fact.proofs.Following.{failing-is, short-is, Follows, follows_wanted, follows_shown}
use Rattle.core_fact.proofs.Pasts.{state-shown}
use Rattle.core_fact.proofs.Futures.{Acts, Future, will_after}
use Rattle.core_fact.proofs.Moves.{Due, Made, before, acts, idle}
use Rattle.core_fact.proofs.Cuts.{stopped-answered, stopped-failing, decision-answered, decision-failing, passed-same, passed-none, main-stopped}

abbrev pub deed : ℕ → Task → Event → Bool → Deed
deed k t e b = record { actor = k; task = t; event = e; stops = b }

-- the step Refuse makes no call
pub refuse-turn : (s : CoreState) (k : ℕ) (a : Actor) (t : Task) (past : List Past) (c : Call) (d : Disk) → next_of a t past ≡ Some c → may_want (state_of a t past) ≡ true
    → turn_of (actors_of s) a (Bracket t past) kind.Refuse d ≡ Some (record { doing = doing_then a t past Wanted; disk = d; passed = [] })
refuse-turn s k a t past c d call may = rw call (rw may refl)

pub refuse-quiet : (k : ℕ) (a : Actor) (t : Task) (past : List Past) (c : Call) (d : Disk) → next_of a t past ≡ Some c → made_in k a (Bracket t past) kind.Refuse d ≡ []
refuse-quiet k a t past c d call = rw call refl

-- memory ran out for the look at the record in flight: it counts as failed
checked_short : (a : Actor) (t : Task) (n : List ℕ) (np : List Past) → Follows a t np Checking → Follows a t (np ++ Shown (event.Load n seen.Failed) ∷ []) (Releasing (Failed Unknown))
checked_short a t n np f = record {
  is = state-shown (job_of a t) Seizing np (event.Load n seen.Failed) ∙ ap (λ (x : State). on_time (after_reply (job_of a t) x Fault)) f.is;
  once = λ h. refl;
}

module _ (actors : List Actor) (a : Actor) (t : Task) (k : ℕ) (xs : Acts) where
  -- the call is answered, or fails
  showing : (s : CoreState) (past : List Past) (st : State) (e : Event) (what : StepKind) (c : Call) → Due actors s a (Bracket t past) (deed k t e false) xs → Follows a t past st → on_time st ≡ st
      → next_of a t past ≡ Some c
      → turn_inside a t past what (seen_by k s.disk) c ≡ Some (shown a t past (seen_by k s.disk) e)
      → main_calls (made_by k t what (seen_by k s.disk) c) ≡ main_calls (deed k t e false ∷ [])
      → Future actors a t (after_reply (job_of a t) st (reply e)) xs → Made actors s a (deed k t e false) xs
  showing s past st e what c due f same call turn main future =
      acts actors a (deed k t e false) xs s t past what c (shown a t past (seen_by k s.disk) e) due call turn refl refl main
      (will_after actors a t (past ++ Shown e ∷ []) (after_reply (job_of a t) st (reply e)) xs (follows_shown a t past st e f same) future)

  -- memory ran out for a load
  short : (s : CoreState) (past : List Past) (st : State) (n : List ℕ) → Due actors s a (Bracket t past) (deed k t (event.Load n seen.Memory) false) xs → Follows a t past st → on_time st ≡ st
      → next (job_of a t) st ≡ Some (ToLoad n)
      → Future actors a t (after_reply (job_of a t) st Short) xs → Made actors s a (deed k t (event.Load n seen.Memory) false) xs
  short s past st n due f same call future =
      let x : Deed = deed k t (event.Load n seen.Memory) false in
      let live : next_of a t past ≡ Some (ToLoad n) = ap (next (job_of a t)) (f.is ∙ same) ∙ call in
      elim (cases_Bool (may_want st)) [
        | inl may ↦ before actors a x xs s (Bracket t past) (doing_then a t past Wanted) kind.Refuse due
            (refuse-turn s k a t past (ToLoad n) (seen_by k s.disk) live (ap may_want (f.is ∙ same) ∙ may)) (refuse-quiet k a t past (ToLoad n) (seen_by k s.disk) live)
            (λ mid next_due. idle actors a x xs mid (doing_then a t past Wanted) next_due refl (passed-none a t (event.Load n seen.Memory) (seen_by k mid.disk) refl) refl
            (will_after actors a t (past ++ Wanted ∷ []) (refused (job_of a t) st) xs (follows_wanted a t past st f may)
            (subst (λ (y : State). Future actors a t y xs) (wanted-refused (job_of a t) st may) future)))
        | inr may_not ↦ (
            let at : st ≡ Checking = unwanted-load (job_of a t) st n call may_not in
            acts actors a x xs s t past (kind.Fail Before) (ToLoad n) (shown a t past (seen_by k s.disk) (event.Load n seen.Failed)) due live refl refl
            (passed-same a t (event.Load n seen.Failed) (event.Load n seen.Memory) (seen_by k s.disk) refl) refl
            (will_after actors a t (past ++ Shown (event.Load n seen.Failed) ∷ []) (Releasing (Failed Unknown)) xs (checked_short a t n past (subst (Follows a t past) at f))
            (subst (λ (y : State). Future actors a t (after_reply (job_of a t) y Short) xs) at future)))
      ]

  -- the program is stopped inside the call
  pub stopping_in : (s : CoreState) (past : List Past) (e : Event) (c : Call) (part : Part) → Due actors s a (Bracket t past) (deed k t e true) xs → next_of a t past ≡ Some c
      → stopped (seen_by k s.disk) (asked (seen_by k s.disk) c) part ≡ ended (after (seen_by k s.disk) e)
      → is_decision (job_of a t) (cut_short (seen_by k s.disk) (asked (seen_by k s.disk) c) part) (seen_by k s.disk) ≡ is_decision (job_of a t) e (seen_by k s.disk)
      → Made actors s a (deed k t e true) xs
  stopping_in s past e c part due call disk decision =
      let d : Disk = seen_by k s.disk in
      acts actors a (deed k t e true) xs s t past (kind.Stop part) c (stopping a t d (asked d c) part) due call refl disk
      (passed-same a t (cut_short d (asked d c) part) e d decision)
      (main-stopped k t (cut_short d (asked d c) part) ∙ sym (main-stopped k t e)) (due.ends refl)

  stops : (s : CoreState) (past : List Past) (e : Event) (c : Call) → Due actors s a (Bracket t past) (deed k t e true) xs → next_of a t past ≡ Some c → IsEnd (seen_by k s.disk) c e
      → Made actors s a (deed k t e true) xs
  stops s past e c due call (inl is) =
      let d : Disk = seen_by k s.disk in
      stopping_in s past e c After due call (stopped-answered d c ∙ ap (λ (y : Event). ended (after d y)) (sym is))
      (decision-answered (job_of a t) d c ∙ ap (λ (y : Event). is_decision (job_of a t) y d) (sym is))
  stops s past e c due call (inr (inl fails)) =
      let d : Disk = seen_by k s.disk in
      let f = failing-is d c e fails in
      stopping_in s past e c f.1.0 due call (stopped-failing d c f.1.0 f.0 ∙ ap (λ (y : Event). ended (after d y)) (sym f.1.1))
      (decision-failing (job_of a t) d c f.1.0 f.0 ∙ ap (λ (y : Event). is_decision (job_of a t) y d) (sym f.1.1))
  stops s past e c due call (inr (inr sh)) =
      let d : Disk = seen_by k s.disk in
      let f = short-is c e sh in
      stopping_in s past e c Before due call (ap (λ (y : Call). stopped d (asked d y) Before) f.1 ∙ ap (λ (y : Event). ended (after d y)) (sym f.2))
      (ap (λ (y : Call). is_decision (job_of a t) (cut_short d (asked d y) Before) d) f.1 ∙ ap (λ (y : Event). is_decision (job_of a t) y d) (sym f.2))

  goes_on : (s : CoreState) (past : List Past) (st : State) (e : Event) (c : Call) → Due actors s a (Bracket t past) (deed k t e false) xs → Follows a t past st → on_time st ≡ st
      → next (job_of a t) st ≡ Some c
      → Future actors a t (after_reply (job_of a t) st (reply e)) xs → IsEnd (seen_by k s.disk) c e → Made actors s a (deed k t e false) xs
  goes_on s past st e c due f same call future (inl is) =
      let d : Disk = seen_by k s.disk in
      showing s past st e kind.Call c due f same (ap (next (job_of a t)) (f.is ∙ same) ∙ call)
      (ap (λ (y : Event). Some (shown a t past d y)) (sym is)) (ap (λ (y : Event). main_calls (deed k t y false ∷ [])) (sym is)) future
  goes_on s past st e c due f same call future (inr (inl fails)) =
      let d : Disk = seen_by k s.disk in
      let x = failing-is d c e fails in
      showing s past st e (kind.Fail x.1.0) c due f same (ap (next (job_of a t)) (f.is ∙ same) ∙ call)
      (rw x.0 (ap (λ (y : Event). Some (shown a t past d y)) (sym x.1.1))) (ap (λ (y : Event). main_calls (deed k t y false ∷ [])) (sym x.1.1)) future
  goes_on s past st e c due f same call future (inr (inr sh)) =
      let x = short-is c e sh in
      subst (λ (y : Event). Made actors s a (deed k t y false) xs) (sym x.2)
      (short s past st x.0 (subst (λ (y : Event). Due actors s a (Bracket t past) (deed k t y false) xs) x.2 due) f same (call ∙ ap Some x.1)
      (subst (λ (y : Event). Future actors a t (after_reply (job_of a t) st (reply y)) xs) x.2 future))

  -- an end of the next call
  pub called : (s : CoreState) (past : List Past) (st : State) (e : Event) (b : Bool) (c : Call) → Due actors s a (Bracket t past) (deed k t e b) xs → Follows a t past st → on_time st ≡ st
      → next (job_of a t) st ≡ Some c
      → Future actors a t (after_reply (job_of a t) st (reply e)) xs → IsEnd (seen_by k s.disk) c e → Made actors s a (deed k t e b) xs
  called s past st e true c due f same call future is = stops s past e c due (ap (next (job_of a t)) (f.is ∙ same) ∙ call) is
  called s past st e false c due f same call future is = goes_on s past st e c due f same call future is
