-- What a turn of an actor leaves, as it is told apart by what changes.
use Rattle.std.specs.Prelude.{◌≡◌, ℕ, Bool, true, false, List, [], ◌∷◌, Option, Some, None, if◌then◌else◌}
use Rattle.std.specs.Option.{option_and_then}
use Rattle.host_port.specs.declared.event.Event.{Event}
use Rattle.host_port.specs.Disk.{Disk, after}
use Rattle.host_port.specs.Ends.{carried_out, cut_short, ended}
use Rattle.memory_disk.specs.Lists.{NamesOnce}
use Rattle.core_steps.specs.declared.change.CoreChange.{CoreChange}
use Rattle.core_steps.specs.declared.actor.Past.{Past}
use Rattle.core_steps.specs.declared.actor.Doing.{Doing}
use Rattle.core_steps.specs.declared.actor.Doing.TheVariants.{Nothing, Bracket, Stopped}
use Rattle.core_steps.specs.declared.actor.Member.{Member}
use Rattle.core_steps.specs.Turns as turns
use Rattle.core_steps.specs.declared.actor.Actor.{Actor}
use Rattle.core_steps.specs.declared.actor.Task.{Task}
use Rattle.core_steps.specs.declared.step.StepKind.{StepKind}
use Rattle.core_steps.specs.declared.step.StepKind.TheVariants as kind
use Rattle.commit_machine.specs.Machine.{Call, next}
use Rattle.actor_ground.specs.CallEnds.{asked}
use Rattle.core_steps.specs.Tasks.{job_of, may_want, state_of}
use Rattle.core_steps.specs.Turns.{Passed, passed_at, shown, turn_inside, wanting}
use Rattle.core_steps.specs.Cores.{CoreDisk, disk_then}
use Rattle.actor_bracket.specs.Going.{doing_goes, with_past}
use Rattle.actor_disk.specs.declared.seeing.Lists.{Lists}
use Rattle.actor_core.specs.declared.turning.Next.{Next}
use Rattle.actor_core.specs.declared.turning.Next.TheVariants.{Begins, GoesOn, Through, Stops}
use Rattle.actor_core.specs.declared.turning.Told.{Told}
use Rattle.actor_core.specs.declared.turning.Turn.{Turn}
use Rattle.actor_disk.specs.Seeing.{SameDisks, failed_as, may_fail, shown_disk}
use Rattle.actor_core.specs.Shown.{Held}

-- what an actor does next that did this
abbrev pub doing_next : Doing → Next → Doing
doing_next old (Begins t) = Bracket t []
doing_next old (GoesOn p) = with_past old p
doing_next old Through = Nothing
doing_next old Stops = Stopped

-- what was asked, as it ends by a step
abbrev pub ended_as : Disk → StepKind → Event → Event
ended_as d (kind.Fail part) e = failed_as d e part
ended_as d (kind.Stop part) e = cut_short d e part
ended_as d (kind.Commit changes moment) e = carried_out d e
ended_as d kind.Recover e = carried_out d e
ended_as d kind.Call e = carried_out d e
ended_as d kind.Refuse e = carried_out d e

-- a step is allowed in a bracket, if memory may be wanted or not, and the call may fail or not
abbrev pub is_allowed : StepKind → Bool → Bool → Bool
is_allowed (kind.Commit changes moment) want fail = false
is_allowed kind.Recover want fail = false
is_allowed kind.Call want fail = true
is_allowed kind.Refuse want fail = want
is_allowed (kind.Fail part) want fail = fail
is_allowed (kind.Stop part) want fail = true

-- what is asked, if a step of this kind is allowed then
abbrev pub allowed : StepKind → Bool → Option Event → Option Event
allowed k want None = None
allowed k want (Some e) = if is_allowed k want (may_fail e) then Some e else None

-- the turn in which a call was this event
abbrev pub told_turn : Actor → Task → List Past → StepKind → Disk → Event → turns.Turn
told_turn a t past (kind.Stop part) d e = record { doing = Stopped; disk = ended (after d e); passed = passed_at a t e d }
told_turn a t past (kind.Commit changes moment) d e = shown a t past d e
told_turn a t past kind.Recover d e = shown a t past d e
told_turn a t past kind.Call d e = shown a t past d e
told_turn a t past kind.Refuse d e = shown a t past d e
told_turn a t past (kind.Fail part) d e = shown a t past d e

-- the turn in which this is asked
abbrev pub asked_turn : Actor → Task → List Past → StepKind → Disk → Event → turns.Turn
asked_turn a t past kind.Refuse d e = wanting a t past d
asked_turn a t past (kind.Commit changes moment) d e = told_turn a t past (kind.Commit changes moment) d (ended_as d (kind.Commit changes moment) e)
asked_turn a t past kind.Recover d e = told_turn a t past kind.Recover d (ended_as d kind.Recover e)
asked_turn a t past kind.Call d e = told_turn a t past kind.Call d (ended_as d kind.Call e)
asked_turn a t past (kind.Fail part) d e = told_turn a t past (kind.Fail part) d (ended_as d (kind.Fail part) e)
asked_turn a t past (kind.Stop part) d e = told_turn a t past (kind.Stop part) d (ended_as d (kind.Stop part) e)

-- the call in a bracket asks this, and the step is allowed; or it isn't
abbrev pub Asks : Disk → Actor → Task → List Past → StepKind → Option Event → Type 0
Asks d a t past k None = option_and_then (turn_inside a t past k d) (next (job_of a t) (state_of a t past)) ≡ None
Asks d a t past k (Some e) = (c : Call) × (next (job_of a t) (state_of a t past) ≡ Some c) × (e ≡ asked d c) × (is_allowed k (may_want (state_of a t past)) (may_fail e) ≡ true)

-- what stands then; nothing new, if there was no call
abbrev pub disk_there : CoreDisk → Option Lists → CoreDisk
disk_there d None = d
disk_there d (Some l) = shown_disk l

abbrev pub lists_there : Lists → Option Lists → Lists
lists_there old None = old
lists_there old (Some l) = l

abbrev pub OnceThere : Option Lists → Type 0
OnceThere None = Unit {0}
OnceThere (Some l) = NamesOnce l.files × NamesOnce l.locks

abbrev pub passed_there : Option (ℕ × List CoreChange) → List Passed
passed_there None = []
passed_there (Some p) = p ∷ []

-- the turn of the actor of this number, which did this on this disk, leaves the same
pub record Turns (k : ℕ) (d : CoreDisk) (old : Doing) (t : Turn) (turn : turns.Turn) : Type 0 where
  pub doing : doing_next old t.doing ≡ turn.doing
  pub disk : SameDisks (disk_there d t.there) (disk_then k d turn.disk)
  pub passed : passed_there t.passed ≡ turn.passed
  pub once : OnceThere t.there

-- so does what is told of the call, in which this happened
pub record Tells (k : ℕ) (d : CoreDisk) (old : Doing) (p : Past) (h : Told) (turn : turns.Turn) : Type 0 where
  pub doing : doing_goes old p h.goes ≡ turn.doing
  pub disk : SameDisks (shown_disk h.there) (disk_then k d turn.disk)
  pub passed : passed_there h.passed ≡ turn.passed
  pub once : NamesOnce h.there.files × NamesOnce h.there.locks

-- so it does if it is allowed
abbrev pub TurnsTo : ℕ → CoreDisk → Doing → Option Turn → Option turns.Turn → Type 0
TurnsTo k d old None None = Unit {0}
TurnsTo k d old None (Some turn) = ⊥
TurnsTo k d old (Some t) None = ⊥
TurnsTo k d old (Some t) (Some turn) = Turns k d old t turn

-- what a core holds that has these lists, actors and commit places
abbrev pub held_of : Lists → List Member → List Passed → Held
held_of l ms ps = record { files = l.files; locks = l.locks; holders = l.holders; members = ms; places = ps }
