-- Each step keeps what members saw and left.
use Rattle.std.proofs.Common.{◌≡◌, ℕ, Bool, true, false, List, [], ◌∷◌, ◌++◌, Option, Some, None, refl, ap, sym, subst, ◌∙◌}
use Rattle.host_port.specs.declared.event.Event.{Event}
use Rattle.host_port.specs.declared.event.Holder.{Holder}
use Rattle.host_port.specs.declared.event.Holder.TheVariants.{Own, Other}
use Rattle.host_port.specs.Disk.{without_own, after}
use Rattle.host_port.specs.Ends.{ended}
use Rattle.host_port.specs.Ran.{Agrees}
use Rattle.commit_machine.specs.Names.{right_name}
use Rattle.commit_machine.specs.Jobs.{Job}
use Rattle.commit_machine.specs.Machine.{State, Seizing, Ended, next, after_reply, refused}
use Rattle.commit_machine.specs.Goes.{IsNext, reply}
use Rattle.core_steps.specs.declared.actor.Actor.{Actor}
use Rattle.core_steps.specs.declared.actor.Task.{Task}
use Rattle.core_steps.specs.declared.actor.Past.{Past}
use Rattle.core_steps.specs.declared.actor.Past.TheVariants.{Shown, Wanted}
use Rattle.core_steps.specs.declared.actor.Doing.{Doing}
use Rattle.core_steps.specs.declared.actor.Doing.TheVariants.{Nothing, Bracket, Stopped}
use Rattle.core_steps.specs.Tasks.{job_of, on_time, state_of, may_want}
use Rattle.core_steps.specs.Turns.{Passed, doing_then}
use Rattle.core_steps.specs.Cores.{CoreDisk, CoreState, holder_for, seen_by, holder_then, disk_then}
use Rattle.core_steps.proofs.Views.{own_holder, other_before}
use Rattle.core_steps.proofs.Fact.{is_over, IsActor, files_seen, locks_seen, right_sights, file_sights, lock_sights, no_sights, Sights}
use Rattle.core_steps.proofs.Ground.{Ground}
use Rattle.core_steps.proofs.Changed.{then_state}
use Rattle.core_fact.proofs.Around.{is_holder}
use Rattle.core_fact.proofs.Called.{own, touch, stay_called, stay_stopped, changed_called, changed_stopped}
use Rattle.core_fact.proofs.Stayed.{same_disk, unchanged}
use Rattle.core_steps.proofs.Turning.{state_shown, state_wanted}
use Rattle.core_fact.proofs.Mid.{IsMid}
use Rattle.core_fact.proofs.Late.{mid_refused, mid_on_time, first_is_first}
use Rattle.core_fact.proofs.Sights.{sights_wanted, right_at_end}
use Rattle.core_fact.proofs.Published.{is_taking, taking_first}
use Rattle.core_fact.proofs.Remembered.{IsRemembered, nothing_remembered, nothing_seen}
use Rattle.core_fact.proofs.Remembers.{remembered_then}
use Rattle.core_fact.proofs.Memory.{IsPastKept, Memory, IsOwnKept, IsOwnTaker, memory_then}
use Rattle.core_fact.proofs.Takers.{not_over, mid_after, own_at, taker_at, taken_then, back_from, one_doing}

module _ (s : CoreState) (g : Ground s) (memory : Memory s) (k : ℕ) (a : Actor) where
  -- the right that a member has
  taker_is : (t : Task) (past : List Past) → IsActor s k a (Bracket t past) → (q : List ℕ) → s.disk.holders q ≡ Some k → (q ≡ right_name a.name) × (right_sights false past ≡ true)
  taker_is t past at q h =
      let w = memory.holder q k h in
      let same = one_doing s.members k w.0 a (Bracket w.1 w.2) (Bracket t past) w.3 at in
      let pasts : w.2 ≡ past = bracket_past w.1 w.2 same.1 in
      (w.4 ∙ ap (λ (z : Actor). right_name z.name) same.0, ap (right_sights false) (sym pasts) ∙ w.5)
    where
      bracket_past : (u : Task) (p : List Past) → Bracket u p ≡ Bracket t past → p ≡ past
      bracket_past u p e = (cc)

  none_idle : IsActor s k a Nothing → (q : List ℕ) → s.disk.holders q ≡ Some k → ⊥
  none_idle at q h =
      let w = memory.holder q k h in
      let same = one_doing s.members k w.0 a (Bracket w.1 w.2) Nothing w.3 at in
      absurd (let v : Bracket w.1 w.2 ≡ Nothing = same.1 in cc)

  module _ (t : Task) (past : List Past) (at : IsActor s k a (Bracket t past)) (places : List Passed) where
    kept_past : IsPastKept s.disk k a past
    kept_past = memory.remembered k a t past at

    module _ (e : Event) (is : IsNext (next (job_of a t) (state_of a t past)) e) (agrees : Agrees (seen_by k s.disk) e) where
      first_right : is_taking e ≡ true → right_sights false past ≡ false
      first_right y = ap (right_sights false) (first_is_first a t past (taking_first (job_of a t) (state_of a t past) e is y))

      -- what is seen as had by the actor after the event is so
      had_then : (q : List ℕ) (o : Option Holder) → (after (seen_by k s.disk) e).rights q ≡ o → holder_then k (s.disk.holders q) o ≡ Some k → (after (seen_by k s.disk) e).rights q ≡ Some Own
      had_then q None p h = nothing_seen k h
      had_then q (Some Own) p h = p
      had_then q (Some Other) p h =
          let before : holder_for k (s.disk.holders q) ≡ Some Other = other_before (seen_by k s.disk) e q (own s g k a t past at e is agrees) p in
          let w : Some Other ≡ Some Own = sym before ∙ ap (holder_for k) h ∙ own_holder k in
          absurd (cc)

      taker_then : (q : List ℕ) → holder_then k (s.disk.holders q) ((after (seen_by k s.disk) e).rights q) ≡ Some k
          → (q ≡ right_name a.name) × (right_sights (right_sights false past) (Shown e ∷ []) ≡ true)
      taker_then q h = taken_then a.name (seen_by k s.disk) (right_sights false past) e q (touch s g k a t past at e is agrees) (own s g k a t past at e is agrees) first_right
          (λ r. taker_is t past at q (is_holder k (s.disk.holders q) r)) (had_then q ((after (seen_by k s.disk) e).rights q) refl h)

      goes_on : right_sights (right_sights false past) (Shown e ∷ []) ≡ true → is_over (state_of a t (past ++ Shown e ∷ [])) ≡ false
      goes_on h = ap is_over (state_shown a t past e)
          ∙ not_over (on_time (after_reply (job_of a t) (state_of a t past) (reply e)))
          (mid_on_time (job_of a t) (after_reply (job_of a t) (state_of a t past) (reply e)) (mid_after (job_of a t) (state_of a t past) (right_sights false past) e is h))

      pub memory_called : Memory (then_state s k a (disk_then k s.disk (after (seen_by k s.disk) e)) (doing_then a t past (Shown e)) places)
      memory_called = memory_then s memory k a (Bracket t past) at (disk_then k s.disk (after (seen_by k s.disk) e)) (changed_called s g k a t past at e is agrees)
          (stay_called s g k a t past at e is agrees)
          (λ q i ne h. back_from k i (s.disk.holders q) ((after (seen_by k s.disk) e).rights q) ne h)
          (doing_then a t past (Shown e))
          (own_at (disk_then k s.disk (after (seen_by k s.disk) e)) k a t (past ++ Shown e ∷ []) (state_of a t (past ++ Shown e ∷ [])) (remembered_then s g k a t past at e is agrees kept_past))
          (λ q h. let w = taker_then q h in taker_at a t (past ++ Shown e ∷ []) (state_of a t (past ++ Shown e ∷ [])) q (goes_on w.1) (w.0, right_at_end false past (Shown e) ∙ w.1))
          places

      none_left : (q : List ℕ) (o : Option Holder) → (after (seen_by k s.disk) e).rights q ≡ o → holder_then k (s.disk.holders q) (without_own o) ≡ Some k → ⊥
      none_left q None p h = nothing_seen k h
      none_left q (Some Own) p h = nothing_seen k h
      none_left q (Some Other) p h = absurd (let w : Some Other ≡ Some Own = sym p ∙ had_then q (Some Other) p h in cc)

      pub memory_cut : Memory (then_state s k a (disk_then k s.disk (ended (after (seen_by k s.disk) e))) Stopped places)
      memory_cut = memory_then s memory k a (Bracket t past) at (disk_then k s.disk (ended (after (seen_by k s.disk) e))) (changed_stopped s g k a t past at e is agrees)
          (stay_stopped s g k a t past at e is agrees)
          (λ q i ne h. back_from k i (s.disk.holders q) (without_own ((after (seen_by k s.disk) e).rights q)) ne h)
          Stopped tt (λ q h. none_left q ((after (seen_by k s.disk) e).rights q) refl h) places

  -- a step that leaves the disk
  staying : (old new : Doing) → IsActor s k a old → IsOwnKept s.disk k a new → ((q : List ℕ) → s.disk.holders q ≡ Some k → IsOwnTaker a new q) → (places : List Passed)
      → Memory (then_state s k a (disk_then k s.disk (seen_by k s.disk)) new places)
  staying old new at kept taker places =
      subst (λ (z : CoreDisk). Memory (then_state s k a z new places)) (sym (same_disk k s.disk))
      (memory_then s memory k a old at s.disk (unchanged s g k a) (λ q i ne h. h) (λ q i ne h. h) new kept taker places)

  wanted_kept : (past : List Past) → IsPastKept s.disk k a past → IsPastKept s.disk k a (past ++ Wanted ∷ [])
  wanted_kept past kept =
      subst (λ (b : Bool). IsRemembered s.disk k a b (files_seen (past ++ Wanted ∷ [])) (locks_seen (past ++ Wanted ∷ []))) (sym (right_at_end false past Wanted))
      (subst (λ (f : Sights (List ℕ)). IsRemembered s.disk k a (right_sights false past) f (locks_seen (past ++ Wanted ∷ []))) (sym (sights_wanted file_sights no_sights past))
      (subst (λ (l : Sights ℕ). IsRemembered s.disk k a (right_sights false past) (files_seen past) l) (sym (sights_wanted lock_sights no_sights past)) kept))

  -- a bracket that has its right and may want memory is at neither end
  mid_wanting : (j : Job) (st : State) → may_want st ≡ true → (st ≡ Seizing → ⊥) → IsMid (refused j st)
  mid_wanting j Seizing may late = absurd (late refl)
  mid_wanting j (Ended e) may late = absurd (let w : false ≡ true = may in cc)
  mid_wanting j st may late = mid_refused j st tt

  pub memory_wanted : (t : Task) (past : List Past) → IsActor s k a (Bracket t past) → may_want (state_of a t past) ≡ true → (places : List Passed)
      → Memory (then_state s k a (disk_then k s.disk (seen_by k s.disk)) (doing_then a t past Wanted) places)
  memory_wanted t past at may places = staying (Bracket t past) (doing_then a t past Wanted) at
      (own_at s.disk k a t (past ++ Wanted ∷ []) (state_of a t (past ++ Wanted ∷ [])) (wanted_kept past (memory.remembered k a t past at)))
      (λ q h. let w = taker_is t past at q h in
      let late : state_of a t past ≡ Seizing → ⊥ = λ p. absurd (let v : false ≡ true = sym (ap (right_sights false) (first_is_first a t past p)) ∙ w.1 in cc) in
      taker_at a t (past ++ Wanted ∷ []) (state_of a t (past ++ Wanted ∷ [])) q
      (ap is_over (state_wanted a t past) ∙ not_over (refused (job_of a t) (state_of a t past)) (mid_wanting (job_of a t) (state_of a t past) may late))
      (w.0, right_at_end false past Wanted ∙ w.1))
      places

  pub memory_begins : (t : Task) → IsActor s k a Nothing → (places : List Passed) → Memory (then_state s k a (disk_then k s.disk (seen_by k s.disk)) (Bracket t []) places)
  memory_begins t at places = staying Nothing (Bracket t []) at (nothing_remembered s.disk k a (g.left_nothing k a at)) (λ q h. absurd (none_idle at q h)) places

  pub memory_leaves : IsActor s k a Nothing → (places : List Passed) → Memory (then_state s k a (disk_then k s.disk (seen_by k s.disk)) Stopped places)
  memory_leaves at places = staying Nothing Stopped at tt (λ q h. none_idle at q h) places
