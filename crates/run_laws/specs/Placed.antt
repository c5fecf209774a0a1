-- What was answered as done has its place among the changes that many programs at once leave.
use Rattle.std.specs.Prelude.{◌≡◌, ℕ, ℤ, List}
use Rattle.std.specs.declared.option.Option.TheVariants.{Some}
use Rattle.commit_machine.specs.Jobs.{Done}
use Rattle.commit_machine.specs.Settled.{Files, Locks, Mem}
use Rattle.core_steps.specs.declared.actor.Actor.{Actor}
use Rattle.core_steps.specs.declared.actor.Task.TheVariants as task
use Rattle.core_steps.specs.declared.change.CoreChange.{CoreChange}
use Rattle.core_steps.specs.Starts.{begun, MayBegin}
use Rattle.core_steps.specs.Programs.{Deed, done_of, Work, AreWorks, actor_at, Run, places_of}

-- However the calls of a program are told as commits and recoveries, one after another: the token and the changes of a commit among them that was
-- answered as done stand in the list of commit places, and so in what the programs leave. Two commits of one program with the same changes may be told
-- by one place.
abbrev pub DoneHavePlaces : Type 0
DoneHavePlaces = (files : Files) (locks : Locks) (actors : List Actor) (deeds : List Deed) → MayBegin files locks actors
    → Run actors (begun files locks actors).disk deeds
    → (k : ℕ) (a : Actor) (works : List Work) → actor_at actors k ≡ Some a → AreWorks actors a works (done_of k deeds)
    → (w : Work) (changes : List CoreChange) (moment : ℤ) → Mem w works → w.task ≡ task.Commit changes moment → w.end ≡ Done
    → Mem (a.token, changes) (places_of actors (begun files locks actors).disk deeds)
