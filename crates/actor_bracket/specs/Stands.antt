-- The machine's state that a stand is, in the bracket of such changes.
use Rattle.std.specs.Prelude.{◌≡◌, ℕ, true, false, Bool, List, [], map}
use Rattle.commit_record.specs.Format.{is_valid}
use Rattle.commit_record.specs.declared.record.Record.{Record}
use Rattle.commit_machine.specs.Items as items
use Rattle.commit_machine.specs.Jobs as jobs
use Rattle.commit_machine.specs.Machine as machine
use Rattle.core_steps.specs.declared.change.CoreChange.{CoreChange}
use Rattle.core_steps.specs.declared.actor.Task.{Task}
use Rattle.core_steps.specs.declared.actor.Task.TheVariants.{Commit, Recover}
use Rattle.core_steps.specs.Changes.{edit_of}
use Rattle.core_steps.specs.Tasks.{is_found}
use Rattle.actor_bracket.specs.declared.stand.Passed.{Passed}
use Rattle.actor_bracket.specs.declared.stand.Passed.TheVariants as passed
use Rattle.actor_bracket.specs.declared.stand.Found.{Found}
use Rattle.actor_bracket.specs.declared.stand.Found.TheVariants as found
use Rattle.actor_bracket.specs.declared.stand.Refusal.{Refusal}
use Rattle.actor_bracket.specs.declared.stand.Refusal.TheVariants as refusal
use Rattle.actor_bracket.specs.declared.stand.Ending.{Ending}
use Rattle.actor_bracket.specs.declared.stand.Ending.TheVariants as ending
use Rattle.actor_bracket.specs.declared.stand.Then.{Then}
use Rattle.actor_bracket.specs.declared.stand.Then.TheVariants as then
use Rattle.actor_bracket.specs.declared.stand.Item.{Item}
use Rattle.actor_bracket.specs.declared.stand.Made.{Made}
use Rattle.actor_bracket.specs.declared.stand.Closing.{Closing}
use Rattle.actor_bracket.specs.declared.stand.Closing.TheVariants as closing
use Rattle.actor_bracket.specs.declared.stand.Stand.{Stand}
use Rattle.actor_bracket.specs.declared.stand.Stand.TheVariants as stand
use Rattle.actor_bracket.specs.declared.stand.Reply.{Reply}
use Rattle.actor_bracket.specs.declared.stand.Reply.TheVariants as reply

-- the changes of a bracket; a recovery has none
abbrev pub changes_of : Task → List CoreChange
changes_of (Commit changes moment) = changes
changes_of Recover = []

abbrev pub passed_as : Passed → jobs.Passed
passed_as passed.Before = jobs.Before
passed_as passed.After = jobs.After
passed_as passed.Unknown = jobs.Unknown

abbrev pub found_as : Found → jobs.Found
found_as found.Nothing = jobs.Nothing
found_as (found.RolledBack moment) = jobs.RolledBack moment
found_as (found.Finished moment) = jobs.Finished moment

abbrev pub refusal_as : Refusal → jobs.Refusal
refusal_as (refusal.Busy name) = jobs.Busy name
refusal_as refusal.NotARecord = jobs.NotARecord
refusal_as (refusal.TooLarge name n) = jobs.TooLarge name n
refusal_as (refusal.Changed name at) = jobs.Changed name at

abbrev pub ending_as : Ending → jobs.Ending
ending_as ending.Done = jobs.Done
ending_as (ending.Recovered f) = jobs.Recovered (found_as f)
ending_as (ending.Refused why) = jobs.Refused (refusal_as why)
ending_as (ending.Failed p) = jobs.Failed (passed_as p)
ending_as ending.NoMemory = jobs.NoMemory

abbrev pub then_as : Then → machine.Then
then_as then.GoOn = machine.GoOn
then_as (then.Answer e) = machine.Answer (ending_as e)

abbrev pub item_as : Item → items.Item
item_as x = record { name = x.name; way = x.way; staged = x.staged }

abbrev pub items_as : List Item → List items.Item
items_as xs = map item_as xs

abbrev pub made_as : List CoreChange → Made → jobs.Made
made_as cs x = record { edit = edit_of cs x.name; seen = x.seen; way = x.way; content = x.content }

abbrev pub mades_as : List CoreChange → List Made → List jobs.Made
mades_as cs xs = map (made_as cs) xs

abbrev pub edits_as : List CoreChange → List (List ℕ) → List jobs.Edit
edits_as cs names = map (edit_of cs) names

abbrev pub closing_as : Record → Closing → machine.Then → machine.State
closing_as r (closing.Undoing n ns ls) th = machine.Undoing r n ns ls th
closing_as r (closing.Placing x xs ls) th = machine.Placing r (item_as x) (items_as xs) ls th
closing_as r (closing.Testing x xs ls) th = machine.Testing r (item_as x) (items_as xs) ls
closing_as r (closing.Removing x xs ls) th = machine.Removing r (item_as x) (items_as xs) ls th
closing_as r (closing.Extending x xs ls) th = machine.Extending r (item_as x) (items_as xs) ls th
closing_as r (closing.Discarding x xs ls) th = machine.Discarding r (item_as x) (items_as xs) ls th
closing_as r (closing.Unlocking n ns) th = machine.Unlocking r n ns th
closing_as r closing.Erasing th = machine.Erasing r th

abbrev pub state_as : List CoreChange → Stand → machine.State
state_as cs stand.Seizing = machine.Seizing
state_as cs (stand.Timing time) = machine.Timing time
state_as cs stand.Looking = machine.Looking
state_as cs (stand.Closing r c th) = closing_as r c (then_as th)
state_as cs (stand.Clearing f) = machine.Clearing (found_as f)
state_as cs stand.Preparing = machine.Preparing
state_as cs stand.Publishing = machine.Publishing
state_as cs (stand.Locking ls n left) = machine.Locking ls (edit_of cs n) (edits_as cs left)
state_as cs (stand.Loading made n left) = machine.Loading (mades_as cs made) (edit_of cs n) (edits_as cs left)
state_as cs (stand.Staging ns made x left) = machine.Staging ns (mades_as cs made) (made_as cs x) (mades_as cs left)
state_as cs (stand.Deciding made) = machine.Deciding (mades_as cs made)
state_as cs (stand.Committing made) = machine.Committing (mades_as cs made)
state_as cs stand.Checking = machine.Checking
state_as cs (stand.Releasing e) = machine.Releasing (ending_as e)
state_as cs (stand.Ended e) = machine.Ended (ending_as e)

abbrev pub reply_as : Reply → machine.Reply
reply_as (reply.Went b) = machine.Went b
reply_as (reply.Saw c) = machine.Saw c
reply_as (reply.Long n) = machine.Long n
reply_as reply.Short = machine.Short
reply_as reply.Fault = machine.Fault

-- what the machine writes next as a record can be written
abbrev pub Writes : jobs.Job → machine.State → Type 0
Writes j machine.Preparing = is_valid (jobs.prepare_of j) ≡ true
Writes j (machine.Deciding made) = is_valid (jobs.prepare_of j) ≡ true
Writes j s = Unit {0}

-- nothing has been locked or staged by a bracket in this state, which has its right or may have it; it only has to give it up
abbrev pub lets_go : machine.State → Bool
lets_go (machine.Timing time) = true
lets_go machine.Looking = true
lets_go (machine.Undoing r n ns ls th) = is_found th
lets_go (machine.Placing r x xs ls th) = is_found th
lets_go (machine.Testing r x xs ls) = true
lets_go (machine.Removing r x xs ls th) = is_found th
lets_go (machine.Extending r x xs ls th) = is_found th
lets_go (machine.Discarding r x xs ls th) = is_found th
lets_go (machine.Unlocking r n ns th) = is_found th
lets_go (machine.Erasing r th) = is_found th
lets_go (machine.Clearing f) = true
lets_go machine.Preparing = true
lets_go machine.Publishing = true
lets_go s = false
