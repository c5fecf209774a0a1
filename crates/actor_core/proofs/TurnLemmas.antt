-- Turns of an actor.
use Rattle.std.proofs.Common.{◌≡◌, ◌<◌, ℕ, ℤ, Bool, true, false, List, [], Option, Some, None, length, get_or, slice_get, refl, ap, sym, subst, ◌∙◌, if◌then◌else◌}
use Rattle.std.specs.Option.{option_map, option_and_then}
use Rattle.std.proofs.lemmas.Option.{same_Some, slice_get_read}
use Rattle.host_port.specs.declared.event.Event.{Event}
use Rattle.host_port.specs.declared.event.Part.{Part}
use Rattle.host_port.specs.Disk.{Disk}
use Rattle.host_port.specs.Ends.{carried_out, cut_short}
use Rattle.commit_machine.specs.Laws.{is_foreign}
use Rattle.commit_machine.specs.Machine.{Call, next}
use Rattle.actor_ground.specs.CallEnds.{asked}
use Rattle.core_steps.specs.declared.change.CoreChange.{CoreChange}
use Rattle.core_steps.specs.declared.actor.Actor.{Actor}
use Rattle.core_steps.specs.declared.actor.Task.{Task}
use Rattle.core_steps.specs.declared.actor.Task.TheVariants.{Commit}
use Rattle.core_steps.specs.declared.actor.Member.{Member}
use Rattle.core_steps.specs.declared.actor.Past.{Past}
use Rattle.core_steps.specs.declared.actor.Past.TheVariants.{Wanted}
use Rattle.core_steps.specs.declared.actor.Doing.{Doing}
use Rattle.core_steps.specs.declared.actor.Doing.TheVariants.{Bracket, Nothing, Stopped}
use Rattle.core_steps.specs.declared.step.StepKind.{StepKind}
use Rattle.core_steps.specs.declared.step.StepKind.TheVariants as kind
use Rattle.core_steps.specs.Tasks.{job_of, may_want, state_of}
use Rattle.core_steps.specs.Turns as turns
use Rattle.core_steps.specs.Turns.{can_fail, doing_then, failing, may_commit, passed_at, shown, wanting, stopping, staying, turn_inside, turn_of, turn_outside}
use Rattle.core_steps.specs.Cores.{CoreDisk, seen_by, disk_then}
use Rattle.actor_bracket.specs.declared.going.Goes.{Goes}
use Rattle.actor_core.specs.declared.turning.Told.{Told}
use Rattle.actor_core.specs.declared.turning.Turn.{Turn}
use Rattle.actor_core.specs.declared.turning.Next.{Next}
use Rattle.actor_disk.specs.Seeing.{SameDisks, failed_as, may_fail}
use Rattle.actor_bracket.specs.Going.{doing_goes}
use Rattle.actor_core.specs.Turning.{Asks, Tells, Turns, TurnsTo, allowed, asked_turn, doing_next, ended_as, is_allowed, told_turn}
use Rattle.actor_disk.proofs.SeeLemmas.{asked_fails, asked_may, asked_own, carried_own, cut_own, failed_own, holder_back, stopped_own}

-- what stays as it was seen
pub same_seen : (k : ℕ) (d : CoreDisk) → SameDisks d (disk_then k d (seen_by k d))
same_seen k d = record { files = λ q. refl; locks = λ q. refl; holders = λ q. sym (holder_back k (d.holders q)) }

pub only_at : (k : ℕ) (d : CoreDisk) (old now : Doing) (doing : Next) → doing_next old doing ≡ now → Turns k d old (record { doing = doing; there = None; passed = None }) (staying (seen_by k d) now)
only_at k d old now doing e = record { doing = e; disk = same_seen k d; passed = refl; once = tt }

some_next : {A B : Type 0} (f : A → B) (o : Option A) (y : B) → Some y ≡ option_map f o → (x : A) × (o ≡ Some x) × (y ≡ f x)
some_next f None y e = absurd (cc)
some_next f (Some x) y e = (x, refl, (cc))

none_next : {A B : Type 0} (f : A → B) (o : Option A) → None ≡ option_map f o → o ≡ None
none_next f None e = refl
none_next f (Some x) e = absurd (cc)

-- a turn that is allowed only if this is so
if_not : {A : Type 0} (x : A) (b : Bool) → b ≡ false → (if b then Some x else None) ≡ None
if_not x b e = ap (λ (z : Bool). if z then Some x else None) e

if_so : {A : Type 0} (x : A) (b : Bool) → b ≡ true → (if b then Some x else None) ≡ Some x
if_so x b e = ap (λ (z : Bool). if z then Some x else None) e

module _ (d : Disk) (a : Actor) (t : Task) (past : List Past) (c : Call) (e : Event) (ask : e ≡ asked d c) where
  may_is : can_fail c ≡ may_fail e
  may_is = sym (ap may_fail ask ∙ asked_may d c)

  -- a step that isn't allowed
  pub turn_not : (step : StepKind) → is_allowed step (may_want (state_of a t past)) (may_fail e) ≡ false → turn_inside a t past step d c ≡ None
  turn_not (kind.Commit changes moment) h = refl
  turn_not kind.Recover h = refl
  turn_not kind.Call h = absurd (cc)
  turn_not kind.Refuse h = if_not (wanting a t past d) (may_want (state_of a t past)) h
  turn_not (kind.Fail part) h = if_not (shown a t past d (failing d c part)) (can_fail c) (may_is ∙ h)
  turn_not (kind.Stop part) h = absurd (cc)

  stop_is : (part : Part) → stopping a t d (asked d c) part ≡ told_turn a t past (kind.Stop part) d (cut_short d (asked d c) part)
  stop_is part = ap (λ (x : Disk). record { doing = Stopped; disk = x; passed = passed_at a t (cut_short d (asked d c) part) d }) (stopped_own d part (asked d c) (asked_own d c))

  -- a step that is
  pub turn_so : (step : StepKind) → is_allowed step (may_want (state_of a t past)) (may_fail e) ≡ true → turn_inside a t past step d c ≡ Some (asked_turn a t past step d e)
  turn_so (kind.Commit changes moment) h = absurd (cc)
  turn_so kind.Recover h = absurd (cc)
  turn_so kind.Call h = ap (λ (x : Event). Some (shown a t past d (carried_out d x))) (sym ask)
  turn_so kind.Refuse h = if_so (wanting a t past d) (may_want (state_of a t past)) h
  turn_so (kind.Fail part) h =
      if_so (shown a t past d (failing d c part)) (can_fail c) (may_is ∙ h)
      ∙ ap (λ (x : Event). Some (shown a t past d x)) (sym (asked_fails d part c) ∙ ap (λ (x : Event). failed_as d x part) (sym ask))
  turn_so (kind.Stop part) h = ap (λ (x : turns.Turn). Some x) (stop_is part ∙ ap (λ (x : Event). told_turn a t past (kind.Stop part) d (cut_short d x part)) (sym ask))

module _ (d : Disk) (a : Actor) (t : Task) (past : List Past) (step : StepKind) where
  abbrev call : Option Call
  call = next (job_of a t) (state_of a t past)

  asks_by : (e : Event) (c : Call) (b : Bool) → call ≡ Some c → e ≡ asked d c → is_allowed step (may_want (state_of a t past)) (may_fail e) ≡ b
      → Asks d a t past step (if b then Some e else None)
  asks_by e c true is ask so = (c, is, ask, so)
  asks_by e c false is ask other = ap (option_and_then (turn_inside a t past step d)) is ∙ turn_not d a t past c e ask step other

  asks_of : (o : Option Event) (want : Bool) → o ≡ option_map (asked d) call → want ≡ may_want (state_of a t past) → Asks d a t past step (allowed step want o)
  asks_of None want h w = ap (option_and_then (turn_inside a t past step d)) (none_next (asked d) call h)
  asks_of (Some e) want h w =
      let c = some_next (asked d) call e h in
      asks_by e c.0 (is_allowed step want (may_fail e)) c.1 c.2 (ap (λ (x : Bool). is_allowed step x (may_fail e)) (sym w))

  -- what is asked, if the step is allowed
  pub asks_is : (o result : Option Event) (want : Bool) → o ≡ option_map (asked d) call → want ≡ may_want (state_of a t past) → result ≡ allowed step want o → Asks d a t past step result
  asks_is o result want h w r = subst (Asks d a t past step) (sym r) (asks_of o want h w)

pub own_ask : (d : Disk) (a : Actor) (t : Task) (past : List Past) (step : StepKind) (e : Event) → Asks d a t past step (Some e) → is_foreign e ≡ false
own_ask d a t past step e h = ap is_foreign h.2 ∙ asked_own d h.0

pub ended_own : (d : Disk) (step : StepKind) (e : Event) → is_foreign e ≡ false → is_foreign (ended_as d step e) ≡ false
ended_own d (kind.Fail part) e own = failed_own d part e own
ended_own d (kind.Stop part) e own = cut_own d part e own
ended_own d (kind.Commit changes moment) e own = carried_own d e own
ended_own d kind.Recover e own = carried_own d e own
ended_own d kind.Call e own = carried_own d e own
ended_own d kind.Refuse e own = carried_own d e own

pub ended_rest : (d : Disk) (step : StepKind) (e : Event) → ((part : Part) → step ≡ kind.Fail part → ⊥) → ((part : Part) → step ≡ kind.Stop part → ⊥) → carried_out d e ≡ ended_as d step e
ended_rest d (kind.Fail part) e fail stop = absurd (fail part refl)
ended_rest d (kind.Stop part) e fail stop = absurd (stop part refl)
ended_rest d (kind.Commit changes moment) e fail stop = refl
ended_rest d kind.Recover e fail stop = refl
ended_rest d kind.Call e fail stop = refl
ended_rest d kind.Refuse e fail stop = refl

pub told_rest : (a : Actor) (t : Task) (past : List Past) (step : StepKind) (d : Disk) (e : Event) → ((part : Part) → step ≡ kind.Stop part → ⊥) → shown a t past d e ≡ told_turn a t past step d e
told_rest a t past (kind.Fail part) d e stop = refl
told_rest a t past (kind.Stop part) d e stop = absurd (stop part refl)
told_rest a t past (kind.Commit changes moment) d e stop = refl
told_rest a t past kind.Recover d e stop = refl
told_rest a t past kind.Call d e stop = refl
told_rest a t past kind.Refuse d e stop = refl

pub asked_rest : (a : Actor) (t : Task) (past : List Past) (step : StepKind) (d : Disk) (e : Event) → (step ≡ kind.Refuse → ⊥)
    → told_turn a t past step d (ended_as d step e) ≡ asked_turn a t past step d e
asked_rest a t past (kind.Fail part) d e other = refl
asked_rest a t past (kind.Stop part) d e other = refl
asked_rest a t past (kind.Commit changes moment) d e other = refl
asked_rest a t past kind.Recover d e other = refl
asked_rest a t past kind.Call d e other = refl
asked_rest a t past kind.Refuse d e other = absurd (other refl)

module _ (k : ℕ) (d : CoreDisk) (old : Doing) where
  pub tells_as : (p : Past) (h : Told) (x y : turns.Turn) → x ≡ y → Tells k d old p h x → Tells k d old p h y
  tells_as p h x y e w = subst (λ (z : turns.Turn). Tells k d old p h z) e w

  pub turns_as : (u : Turn) (x y : turns.Turn) → x ≡ y → Turns k d old u x → Turns k d old u y
  turns_as u x y e w = subst (λ (z : turns.Turn). Turns k d old u z) e w

  -- what is told of a call, as a turn
  pub told_at : (p : Past) (h : Told) (doing : Next) (x : turns.Turn) → Tells k d old p h x → ((o : Doing) → doing_next o doing ≡ doing_goes o p h.goes)
      → Turns k d old (record { doing = doing; there = Some h.there; passed = h.passed }) x
  told_at p h doing x w on = record { doing = on old ∙ w.doing; disk = w.disk; passed = w.passed; once = w.once }

-- a want of memory
pub want_at : (k : ℕ) (d : CoreDisk) (a : Actor) (t : Task) (past : List Past) (goes : Goes) (doing : Next) → doing_goes (Bracket t past) Wanted goes ≡ doing_then a t past Wanted
    → ((o : Doing) → doing_next o doing ≡ doing_goes o Wanted goes) → Turns k d (Bracket t past) (record { doing = doing; there = None; passed = None }) (wanting a t past (seen_by k d))
want_at k d a t past goes doing is on = record { doing = on (Bracket t past) ∙ is; disk = same_seen k d; passed = refl; once = tt }

module _ (k : ℕ) (d : CoreDisk) (a : Actor) (t : Task) (past : List Past) (step : StepKind) (disk : Disk) (seen : disk ≡ seen_by k d) where
  abbrev all : Disk → Option turns.Turn
  all x = option_and_then (turn_inside a t past step x) (next (job_of a t) (state_of a t past))

  pub none_at : Asks disk a t past step None → TurnsTo k d (Bracket t past) None (all (seen_by k d))
  none_at h = subst (λ (o : Option turns.Turn). TurnsTo k d (Bracket t past) None o) (sym (ap all (sym seen) ∙ h)) tt

  pub some_at : (e : Event) (u : Turn) → Asks disk a t past step (Some e) → Turns k d (Bracket t past) u (asked_turn a t past step (seen_by k d) e)
      → TurnsTo k d (Bracket t past) (Some u) (all (seen_by k d))
  some_at e u h w =
      let turn : turn_inside a t past step disk h.0 ≡ Some (asked_turn a t past step disk e) = turn_so disk a t past h.0 e h.2 step h.3 in
      let is : all (seen_by k d) ≡ Some (asked_turn a t past step (seen_by k d) e) =
      ap all (sym seen) ∙ ap (option_and_then (turn_inside a t past step disk)) h.1 ∙ turn ∙ ap (λ (x : Disk). Some (asked_turn a t past step x e)) seen in
      subst (λ (o : Option turns.Turn). TurnsTo k d (Bracket t past) (Some u) o) (sym is) w

-- the actor with this number, from 0
pub member_read : (ms : List Member) (at : ℕ) (x : Member) → at < length ms → x ≡ get_or ms at x → slice_get ms at ≡ Some x
member_read ms at x lt is = slice_get_read ms (length ms) at x refl lt is

pub of_member : (ms : List Member) (at : ℕ) (x m : Member) → at < length ms → x ≡ get_or ms at x → slice_get ms at ≡ Some m → x ≡ m
of_member ms at x m lt is e = same_Some x m (sym (member_read ms at x lt is) ∙ e)

module _ (k k' : ℕ) (d : CoreDisk) (number : k ≡ k') (actors : List Actor) (x m : Member) (same : x ≡ m) (step : StepKind) (u : Option Turn) where
  abbrev Goal : ℕ → Member → Type 0
  Goal n y = TurnsTo n d y.doing u (turn_of actors y.actor y.doing step (seen_by n d))

  carried : Goal k x → Goal k' m
  carried h = subst (λ (n : ℕ). Goal n m) number (subst (Goal k) same h)

  pub outside_turn : x.doing ≡ Nothing → TurnsTo k d Nothing u (turn_outside actors x.actor step (seen_by k d)) → Goal k' m
  outside_turn is h = carried (subst (λ (doing : Doing). TurnsTo k d doing u (turn_of actors x.actor doing step (seen_by k d))) (sym is) h)

  pub inside_turn : (t : Task) (past ps : List Past) → x.doing ≡ Bracket t past → ps ≡ past → TurnsTo k d (Bracket t ps) u (turn_of [] x.actor (Bracket t ps) step (seen_by k d)) → Goal k' m
  inside_turn t past ps is e h =
      let moved : TurnsTo k d (Bracket t past) u (turn_of [] x.actor (Bracket t past) step (seen_by k d)) =
      subst (λ (qs : List Past). TurnsTo k d (Bracket t qs) u (turn_of [] x.actor (Bracket t qs) step (seen_by k d))) e h in
      carried (subst (λ (doing : Doing). TurnsTo k d doing u (turn_of actors x.actor doing step (seen_by k d))) (sym is) moved)

pub stopped_turn : (k : ℕ) (d : CoreDisk) (actors : List Actor) (x m : Member) (step : StepKind) → x ≡ m → x.doing ≡ Stopped
    → TurnsTo k d m.doing None (turn_of actors m.actor m.doing step (seen_by k d))
stopped_turn k d actors x m step same is =
    subst (λ (y : Member). TurnsTo k d y.doing None (turn_of actors y.actor y.doing step (seen_by k d))) same
    (subst (λ (doing : Doing). TurnsTo k d doing None (turn_of actors x.actor doing step (seen_by k d))) (sym is) tt)

-- a step outside a bracket
module _ (k : ℕ) (d : CoreDisk) (actors : List Actor) (a : Actor) (changes : List CoreChange) (moment : ℤ) where
  pub begin_not : (b : Bool) → b ≡ may_commit actors a changes → b ≡ false → TurnsTo k d Nothing None (turn_outside actors a (kind.Commit changes moment) (seen_by k d))
  begin_not b is other =
      subst (λ (o : Option turns.Turn). TurnsTo k d Nothing None o)
      (sym (if_not (staying (seen_by k d) (Bracket (Commit changes moment) [])) (may_commit actors a changes) (sym is ∙ other))) tt

  pub begin_so : (u : Turn) (b : Bool) → b ≡ may_commit actors a changes → b ≡ true → Turns k d Nothing u (staying (seen_by k d) (Bracket (Commit changes moment) []))
      → TurnsTo k d Nothing (Some u) (turn_outside actors a (kind.Commit changes moment) (seen_by k d))
  begin_so u b is so h =
      subst (λ (o : Option turns.Turn). TurnsTo k d Nothing (Some u) o)
      (sym (if_so (staying (seen_by k d) (Bracket (Commit changes moment) [])) (may_commit actors a changes) (sym is ∙ so))) h

pub outside_as : (k : ℕ) (d : CoreDisk) (actors : List Actor) (a : Actor) (step other : StepKind) (u : Option Turn) → step ≡ other → TurnsTo k d Nothing u (turn_outside actors a other (seen_by k d))
    → TurnsTo k d Nothing u (turn_outside actors a step (seen_by k d))
outside_as k d actors a step other u is h = subst (λ (z : StepKind). TurnsTo k d Nothing u (turn_outside actors a z (seen_by k d))) (sym is) h

pub commit_as : (k : ℕ) (d : CoreDisk) (actors : List Actor) (a : Actor) (step : StepKind) (cs ds : List CoreChange) (moment there : ℤ)
    → there ≡ moment → (u : Option Turn) → step ≡ kind.Commit cs moment
    → ds ≡ cs → TurnsTo k d Nothing u (turn_outside actors a (kind.Commit ds there) (seen_by k d)) → TurnsTo k d Nothing u (turn_outside actors a step (seen_by k d))
commit_as k d actors a step cs ds moment there time u is same h =
    outside_as k d actors a step (kind.Commit cs moment) u is (subst (λ (z : List CoreChange). TurnsTo k d Nothing u (turn_outside actors a (kind.Commit z moment) (seen_by k d))) same
    (subst (λ (m : ℤ). TurnsTo k d Nothing u (turn_outside actors a (kind.Commit ds m) (seen_by k d))) time h))
