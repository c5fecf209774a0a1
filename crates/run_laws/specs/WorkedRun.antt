-- A worked run: two commits at once, one of which is stopped for good inside the call that decides it.
use Rattle.std.specs.Prelude.{◌≡◌, ℕ, ℤ, pos, true, false, List, [], ◌∷◌, ◌++◌, codes}
use Rattle.std.specs.declared.option.Option.TheVariants.{Some, None}
use Rattle.commit_record.specs.Format.{written}
use Rattle.commit_record.specs.declared.record.Phase.{Phase}
use Rattle.commit_record.specs.declared.record.Phase.TheVariants.{Prepare, Go}
use Rattle.commit_record.specs.declared.way.Way.TheVariants.{Replace}
use Rattle.host_port.specs.declared.event.Event.{Event}
use Rattle.host_port.specs.declared.event.Event.TheVariants.{Load, Stage, Publish, Erase, Lock, Unlock, Seize, Release, Now}
use Rattle.host_port.specs.declared.event.Seen.TheVariants.{Bytes}
use Rattle.commit_machine.specs.Names.{record_name, new_name, right_name, staged_name}
use Rattle.commit_machine.specs.Jobs.{entries_for}
use Rattle.core_steps.specs.declared.actor.Actor.{Actor}
use Rattle.core_steps.specs.declared.actor.Task.{Task}
use Rattle.core_steps.specs.declared.actor.Task.TheVariants as task
use Rattle.core_steps.specs.declared.change.CoreChange.{CoreChange}
use Rattle.core_steps.specs.declared.change.CoreChange.TheVariants.{Add}
use Rattle.core_steps.specs.Worked.{session, delivery}
use Rattle.core_steps.specs.Cores.{CoreDisk}
use Rattle.core_steps.specs.Starts.{begun, MayBegin}
use Rattle.core_steps.specs.Programs.{Deed, disk_after, Run, places_of}
use Rattle.core_steps.specs.RunSteps.{left_by}

abbrev pub both : List Actor
both = session ∷ delivery ∷ []

abbrev pub empty : CoreDisk
empty = (begun (λ n. None) (λ n. None) both).disk

abbrev pub morning : ℤ
morning = pos 1_704_240_000

abbrev pub file : List ℕ
file = codes "/f"

abbrev pub other : List ℕ
other = codes "/g"

abbrev pub adds : List ℕ → List ℕ → List CoreChange
adds name text = Add name (text ∷ []) ∷ []

abbrev pub first_task : Task
first_task = task.Commit (adds file (codes "one")) morning

abbrev pub second_task : Task
second_task = task.Commit (adds other (codes "two")) morning

-- the record of a commit of one file
abbrev pub record_bytes : Phase → ℕ → List ℕ → List ℕ
record_bytes phase token name = written (record { phase = phase; token = token; moment = Some morning; entries = entries_for (λ n. Replace) (name ∷ []) })

-- the calls of such a commit, up to that which decides it
abbrev pub until_decision : Actor → List ℕ → List ℕ → List Event
until_decision a name bytes =
    Seize (right_name a.name) true false
    ∷ Now morning
    ∷ Load (record_name a.name) (Bytes None false)
    ∷ Stage (new_name a.name) (Some (record_bytes Prepare a.token name)) false
    ∷ Publish (new_name a.name) (record_name a.name) true false
    ∷ Lock name a.token true false
    ∷ Load name (Bytes None true)
    ∷ Stage (staged_name a.token name) (Some bytes) false
    ∷ Stage (new_name a.name) (Some (record_bytes Go a.token name)) false
    ∷ []

-- and from it on
abbrev pub from_decision : Actor → List ℕ → List Event
from_decision a name =
    Publish (new_name a.name) (record_name a.name) true false
    ∷ Publish (staged_name a.token name) name true false
    ∷ Unlock name a.token true false
    ∷ Erase (record_name a.name) true false
    ∷ Release (right_name a.name)
    ∷ []

abbrev pub first_does : List Event → List Deed
first_does [] = []
first_does (e ∷ es) = record { actor = 1; task = first_task; event = e; stops = false } ∷ first_does es

abbrev pub second_does : List Event → List Deed
second_does [] = []
second_does (e ∷ es) = record { actor = 2; task = second_task; event = e; stops = false } ∷ second_does es

-- the second is stopped inside its decision, which was done
abbrev pub stopped_deciding : Deed
stopped_deciding = record { actor = 2; task = second_task; event = Publish (new_name delivery.name) (record_name delivery.name) true true; stops = true }

abbrev pub deeds : List Deed
deeds = first_does (until_decision session file (codes "one\n\n")) ++ second_does (until_decision delivery other (codes "two\n\n")) ++ stopped_deciding ∷ first_does (from_decision session file)

-- Such a run there is. Its commit places are that of the second commit, which was stopped after it, and then that of the first, which was answered as
-- done; and recoveries leave what both add.
pub record WorkedRun : Type 0 where
  pub may : MayBegin (λ n. None) (λ n. None) both
  pub run : Run both empty deeds
  pub places : places_of both empty deeds ≡ (2, adds other (codes "two")) ∷ (1, adds file (codes "one")) ∷ []
  pub first : left_by both (disk_after empty deeds).files file ≡ Some (codes "one\n\n")
  pub second : left_by both (disk_after empty deeds).files other ≡ Some (codes "two\n\n")
