-- A step of one actor, on the disk as it sees it.
use Rattle.std.specs.Prelude.{ℕ, Bool, true, false, not, ◌&&◌, nat_lt, nat_le, List, [], ◌∷◌, ◌++◌, length, if◌then◌else◌}
use Rattle.std.specs.List.{list_all, list_any}
use Rattle.std.specs.Option.{option_and_then}
use Rattle.std.specs.declared.option.Option.{Option}
use Rattle.std.specs.declared.option.Option.TheVariants.{Some, None}
use Rattle.host_port.specs.declared.event.Event.{Event}
use Rattle.host_port.specs.declared.event.Event.TheVariants as event
use Rattle.host_port.specs.declared.event.Seen.TheVariants as seen
use Rattle.host_port.specs.declared.event.Part.{Part}
use Rattle.host_port.specs.Disk.{Disk, after}
use Rattle.host_port.specs.Ends.{cut_short, stopped}
use Rattle.commit_record.specs.Format.{file_limit}
use Rattle.commit_machine.specs.Names.{is_record_name}
use Rattle.commit_machine.specs.Jobs.{Failed}
use Rattle.commit_machine.specs.Machine.{State, Ended, Call, ToAsk, ToLoad, ToStage, ToPublish, ToExtend, ToErase, ToLock, ToUnlock, ToSeize, ToRelease, next}
use Rattle.commit_machine.specs.Due.{is_decision}
use Rattle.actor_ground.specs.CallEnds.{asked, answered}
use Rattle.core_steps.specs.declared.change.CoreChange.{CoreChange}
use Rattle.core_steps.specs.declared.step.StepKind.{StepKind}
use Rattle.core_steps.specs.declared.step.StepKind.TheVariants as kind
use Rattle.core_steps.specs.declared.actor.Actor.{Actor}
use Rattle.core_steps.specs.declared.actor.Task.{Task}
use Rattle.core_steps.specs.declared.actor.Task.TheVariants as task
use Rattle.core_steps.specs.declared.actor.Past.{Past}
use Rattle.core_steps.specs.declared.actor.Past.TheVariants.{Shown, Wanted}
use Rattle.core_steps.specs.declared.actor.Doing.{Doing}
use Rattle.core_steps.specs.declared.actor.Doing.TheVariants.{Nothing, Bracket, Stopped}
use Rattle.core_steps.specs.Names.{is_file_name}
use Rattle.core_steps.specs.Changes.{files_named}
use Rattle.core_steps.specs.Tasks.{job_of, state_of, may_want}

-- the changes of a commit place, with the token of its actor
abbrev pub Passed : Type 0
Passed = ℕ × List CoreChange

-- what a step makes of what its actor is doing and of the disk that the actor sees, and the commit place that it passes, if any
pub record Turn : Type 0 where
  pub doing : Doing
  pub disk : Disk
  pub passed : List Passed

-- a record name of one of the actors
abbrev pub is_any_record_name : List Actor → List ℕ → Bool
is_any_record_name actors name = list_any (λ a. is_record_name a.name name) actors

-- a commit has 1 to 256 files, with names that they may have, none of which is a record name of an actor
abbrev pub may_commit : List Actor → Actor → List CoreChange → Bool
may_commit actors a changes =
    (nat_lt 0 (length changes) && nat_le (length (files_named changes)) file_limit)
    && list_all (λ n. is_file_name a.name n && not (is_any_record_name actors n)) (files_named changes)

-- the event of a call that fails with this part of it done; a load does nothing
abbrev pub failing : Disk → Call → Part → Event
failing d (ToLoad n) part = event.Load n seen.Failed
failing d c part = cut_short d (asked d c) part

-- a release never fails
abbrev pub can_fail : Call → Bool
can_fail (ToAsk time) = false
can_fail (ToLoad n) = true
can_fail (ToStage n c) = true
can_fail (ToPublish from to) = true
can_fail (ToExtend n at c) = true
can_fail (ToErase n) = true
can_fail (ToLock n t) = true
can_fail (ToUnlock n t) = true
can_fail (ToSeize n) = true
can_fail (ToRelease n) = false

-- once a bracket is through, the actor is in none; if a call had failed in it, the actor has stopped
abbrev pub doing_at : Task → List Past → State → Doing
doing_at t past (Ended (Failed passed)) = Stopped
doing_at t past (Ended end) = Nothing
doing_at t past s = Bracket t past

abbrev pub doing_then : Actor → Task → List Past → Past → Doing
doing_then a t past p = doing_at t (past ++ p ∷ []) (state_of a t (past ++ p ∷ []))

-- the commit place that an event is: the publication of the actor's own decided record
abbrev pub passed_at : Actor → Task → Event → Disk → List Passed
passed_at a (task.Commit changes moment) e d = if is_decision (job_of a (task.Commit changes moment)) e d then (a.token, changes) ∷ [] else []
passed_at a task.Recover e d = []

-- the turn of an actor whose call is this event
abbrev pub shown : Actor → Task → List Past → Disk → Event → Turn
shown a t past d e = record { doing = doing_then a t past (Shown e); disk = after d e; passed = passed_at a t e d }

abbrev pub wanting : Actor → Task → List Past → Disk → Turn
wanting a t past d = record { doing = doing_then a t past Wanted; disk = d; passed = [] }

-- it stops inside its call: its rights end, and it makes no further step
abbrev pub stopping : Actor → Task → Disk → Event → Part → Turn
stopping a t d e part = record { doing = Stopped; disk = stopped d e part; passed = passed_at a t (cut_short d e part) d }

-- a step in a bracket, in which this call is next; None: it isn't allowed
abbrev pub turn_inside : Actor → Task → List Past → StepKind → Disk → Call → Option Turn
turn_inside a t past (kind.Commit changes moment) d c = None
turn_inside a t past kind.Recover d c = None
turn_inside a t past kind.Call d c = Some (shown a t past d (answered d c))
turn_inside a t past kind.Refuse d c = if may_want (state_of a t past) then Some (wanting a t past d) else None
turn_inside a t past (kind.Fail part) d c = if can_fail c then Some (shown a t past d (failing d c part)) else None
turn_inside a t past (kind.Stop part) d c = Some (stopping a t d (asked d c) part)

-- the disk stays
abbrev pub staying : Disk → Doing → Turn
staying d doing = record { doing = doing; disk = d; passed = [] }

-- a step outside a bracket
abbrev pub turn_outside : List Actor → Actor → StepKind → Disk → Option Turn
turn_outside actors a (kind.Commit changes moment) d = if may_commit actors a changes then Some (staying d (Bracket (task.Commit changes moment) [])) else None
turn_outside actors a kind.Recover d = Some (staying d (Bracket task.Recover []))
turn_outside actors a kind.Call d = None
turn_outside actors a kind.Refuse d = None
turn_outside actors a (kind.Fail part) d = None
turn_outside actors a (kind.Stop part) d = Some (staying d Stopped)

abbrev pub turn_of : List Actor → Actor → Doing → StepKind → Disk → Option Turn
turn_of actors a Nothing k d = turn_outside actors a k d
turn_of actors a (Bracket t past) k d = option_and_then (turn_inside a t past k d) (next (job_of a t) (state_of a t past))
turn_of actors a Stopped k d = None
