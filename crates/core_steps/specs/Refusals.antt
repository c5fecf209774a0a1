-- Which steps aren't allowed, cause by cause.
use Rattle.std.specs.Prelude.{◌≡◌, ◌⊎◌, ◌<◌, ℕ, ℤ, Bool, true, false, not, ◌||◌, List, [], length}
use Rattle.std.specs.declared.option.Option.TheVariants.{Some, None}
use Rattle.commit_record.specs.Format.{file_limit}
use Rattle.commit_machine.specs.Settled.{Mem}
use Rattle.commit_machine.specs.Jobs.{Ending, Done, Recovered, Refused, Failed, NoMemory}
use Rattle.commit_machine.specs.Machine.{Then, GoOn, Answer, State, Undoing, Placing, Removing, Extending, Discarding, Unlocking, Erasing, Checking, Releasing, ToRelease}
use Rattle.core_steps.specs.declared.change.CoreChange.{CoreChange}
use Rattle.core_steps.specs.declared.step.CoreStep.{CoreStep}
use Rattle.core_steps.specs.declared.step.StepKind.{StepKind}
use Rattle.core_steps.specs.declared.step.StepKind.TheVariants.{Commit, Recover, Call, Refuse, Fail}
use Rattle.core_steps.specs.declared.actor.Actor.{Actor}
use Rattle.host_port.specs.declared.event.Part.{Part}
use Rattle.core_steps.specs.declared.actor.Task.{Task}
use Rattle.core_steps.specs.declared.actor.Past.{Past}
use Rattle.core_steps.specs.declared.actor.Doing.TheVariants.{Nothing, Bracket, Stopped}
use Rattle.core_steps.specs.Changes.{files_named}
use Rattle.core_steps.specs.Tasks.{state_of}
use Rattle.core_steps.specs.Names.{is_file_name}
use Rattle.core_steps.specs.Turns.{is_any_record_name}
use Rattle.core_steps.specs.Cores.{CoreState, actors_of, member_at, stepped}
use Rattle.core_steps.specs.Shown.{next_of}
use Rattle.core_steps.specs.Theorem.{IsReached}

abbrev pub is_done : Ending → Bool
is_done Done = true
is_done (Recovered found) = false
is_done (Refused why) = false
is_done (Failed passed) = false
is_done NoMemory = false

-- the own record is closed: after the decision, or to take it back
abbrev pub is_decided : Then → Bool
is_decided GoOn = false
is_decided (Answer e) = is_done e

abbrev pub is_taken_back : Then → Bool
is_taken_back GoOn = false
is_taken_back (Answer e) = not (is_done e)

-- the clean-up before a refusal; of one that has no record it is the release
abbrev pub is_cleaning_up : State → Bool
is_cleaning_up (Undoing r n ns ls th) = is_taken_back th
is_cleaning_up (Placing r x xs ls th) = is_taken_back th
is_cleaning_up (Removing r x xs ls th) = is_taken_back th
is_cleaning_up (Extending r x xs ls th) = is_taken_back th
is_cleaning_up (Discarding r x xs ls th) = is_taken_back th
is_cleaning_up (Unlocking r n ns th) = is_taken_back th
is_cleaning_up (Erasing r th) = is_taken_back th
is_cleaning_up (Releasing (Refused why)) = true
is_cleaning_up (Releasing NoMemory) = true
is_cleaning_up s = false

-- a call of the bracket has failed
abbrev pub has_failed : State → Bool
has_failed Checking = true
has_failed (Releasing (Failed passed)) = true
has_failed s = false

-- the own decision was passed
abbrev pub has_decided : State → Bool
has_decided (Undoing r n ns ls th) = is_decided th
has_decided (Placing r x xs ls th) = is_decided th
has_decided (Removing r x xs ls th) = is_decided th
has_decided (Extending r x xs ls th) = is_decided th
has_decided (Discarding r x xs ls th) = is_decided th
has_decided (Unlocking r n ns th) = is_decided th
has_decided (Erasing r th) = is_decided th
has_decided (Releasing Done) = true
has_decided s = false

-- the step begins a bracket
abbrev pub is_beginning : StepKind → Bool
is_beginning (Commit changes moment) = true
is_beginning Recover = true
is_beginning k = false

-- the step is of a bracket alone
abbrev pub is_inside : StepKind → Bool
is_inside Call = true
is_inside Refuse = true
is_inside (Fail part) = true
is_inside k = false

-- a file that a commit of this actor may not name
abbrev pub IsBadName : List Actor → Actor → List ℕ → Type 0
IsBadName actors a n = (is_file_name a.name n ≡ false) ⊎ (is_any_record_name actors n ≡ true)

-- changes that can't be committed: there are none, of too many files, or of a file that they may not name
abbrev pub AreBadChanges : List Actor → Actor → List CoreChange → Type 0
AreBadChanges actors a changes =
    (changes ≡ [])
    ⊎ ((file_limit < length (files_named changes))
    ⊎ ((n : List ℕ) × Mem n (files_named changes) × IsBadName actors a n))

-- the causes why a step is refused
pub data IsRefused (s : CoreState) (step : CoreStep) : Type 0 where
  -- the actor isn't in the list, or has stopped
  is_nobody : member_at s.members step.actor ≡ None → IsRefused s step
  has_stopped : (a : Actor) → member_at s.members step.actor ≡ Some (record { actor = a; doing = Stopped }) → IsRefused s step
  -- a bracket begins in a bracket, or what is of a bracket comes outside one
  is_in_bracket : (a : Actor) (t : Task) (past : List Past) → member_at s.members step.actor ≡ Some (record { actor = a; doing = Bracket t past }) → is_beginning step.kind ≡ true → IsRefused s step
  is_outside : (a : Actor) → member_at s.members step.actor ≡ Some (record { actor = a; doing = Nothing }) → is_inside step.kind ≡ true → IsRefused s step
  -- a release never fails
  never_fails : (a : Actor) (t : Task) (past : List Past) (part : Part) (n : List ℕ) → member_at s.members step.actor ≡ Some (record { actor = a; doing = Bracket t past }) → step.kind ≡ Fail part
      → next_of a t past ≡ Some (ToRelease n) → IsRefused s step
  -- want of memory in a clean-up, after a call has failed, or after the own decision
  may_not_want : (a : Actor) (t : Task) (past : List Past) → member_at s.members step.actor ≡ Some (record { actor = a; doing = Bracket t past }) → step.kind ≡ Refuse
      → (is_cleaning_up (state_of a t past) || (has_failed (state_of a t past) || has_decided (state_of a t past))) ≡ true → IsRefused s step
  -- the changes can't be committed
  may_not_commit : (a : Actor) (changes : List CoreChange) (moment : ℤ) → member_at s.members step.actor ≡ Some (record { actor = a; doing = Nothing }) → step.kind ≡ Commit changes moment
      → AreBadChanges (actors_of s) a changes → IsRefused s step

-- exactly these steps aren't allowed
abbrev pub RefusalsAreThese : Type 0
RefusalsAreThese = (s : CoreState) (step : CoreStep) → IsReached s → (stepped s step ≡ None → IsRefused s step) × (IsRefused s step → stepped s step ≡ None)
