-- Worked runs of a commit of one file that meets trouble.
use Rattle.std.specs.Prelude.{true, false, List, [], ◌∷◌, ◌++◌, codes, take}
use Rattle.std.specs.declared.option.Option.TheVariants.{Some}
use Rattle.commit_record.specs.Format.{written}
use Rattle.commit_record.specs.declared.record.Phase.TheVariants.{Prepare, Go}
use Rattle.host_port.specs.declared.event.Event.{Event}
use Rattle.host_port.specs.declared.event.Event.TheVariants.{Load, Stage, Publish, Erase, Lock, Unlock, Seize, Release}
use Rattle.host_port.specs.declared.event.Seen.TheVariants as seen
use Rattle.commit_machine.specs.Names.{record_name, new_name, right_name, staged_name}
use Rattle.commit_machine.specs.Jobs.{Before, After, Unknown, TooLarge, Ending, Refused, Failed, NoMemory}
use Rattle.commit_machine.specs.Machine.{Seizing, Ended}
use Rattle.commit_machine.specs.Goes.{Goes}
use Rattle.commit_machine.specs.Worked.{home, out, one_file, record_for, commit_of_one}

-- the commit of one file may end so, if its events are these
abbrev pub MayEnd : List Event → Ending → Type 0
MayEnd es end = Goes one_file Seizing es (Ended end)

abbrev pub release : List Event
release = Release (right_name home) ∷ []

-- the clean-up once the file is locked
abbrev pub clean_up : List Event
clean_up = Unlock out 1 true false ∷ Erase (record_name home) true false ∷ release

abbrev pub record_too_long : List Event
record_too_long = take 2 commit_of_one ++ Load (record_name home) (seen.TooLarge 5) ∷ release

abbrev pub file_too_long : List Event
file_too_long = take 6 commit_of_one ++ Load out (seen.TooLarge 5) ∷ clean_up

abbrev pub no_memory : List Event
no_memory = take 6 commit_of_one ++ Load out seen.Memory ∷ clean_up

-- memory runs out where the file would be staged
abbrev pub no_memory_to_stage : List Event
no_memory_to_stage = take 7 commit_of_one ++ clean_up

-- the first call fails
abbrev pub failed_seizure : List Event
failed_seizure = Seize (right_name home) false true ∷ release

-- the lock fails
abbrev pub failed_before : List Event
failed_before = take 5 commit_of_one ++ Lock out 1 false true ∷ release

-- the staging fails, and leaves a part of the file
abbrev pub failed_staging : List Event
failed_staging = take 7 commit_of_one ++ Stage (staged_name 1 out) (Some (codes "")) true ∷ release

-- the decision fails, and so does the look at the record
abbrev pub failed_unknown : List Event
failed_unknown = take 9 commit_of_one ++ Publish (new_name home) (record_name home) true true ∷ Load (record_name home) seen.Failed ∷ release

-- the decision fails, and the look at the record runs out of memory
abbrev pub no_memory_to_look : List Event
no_memory_to_look = take 9 commit_of_one ++ Publish (new_name home) (record_name home) true true ∷ Load (record_name home) seen.Memory ∷ release

-- the decision fails; the record before it stands
abbrev pub looked_before : List Event
looked_before =
    take 9 commit_of_one
    ++ Publish (new_name home) (record_name home) false true
    ∷ Load (record_name home) (seen.Bytes (Some (written (record_for Prepare (out ∷ [])))) false)
    ∷ release

-- the decision fails; its own record stands
abbrev pub looked_after : List Event
looked_after =
    take 9 commit_of_one
    ++ Publish (new_name home) (record_name home) true true
    ∷ Load (record_name home) (seen.Bytes (Some (written (record_for Go (out ∷ [])))) false)
    ∷ release

-- what follows the decision fails
abbrev pub failed_after : List Event
failed_after = take 10 commit_of_one ++ Publish (staged_name 1 out) out false true ∷ release

-- what was put in place stays locked
abbrev pub failed_unlock : List Event
failed_unlock = take 11 commit_of_one ++ Unlock out 1 false true ∷ release

-- the record stays
abbrev pub failed_erasure : List Event
failed_erasure = take 12 commit_of_one ++ Erase (record_name home) false true ∷ release

pub record TroubledRuns : Type 0 where
  pub record_too_long : MayEnd record_too_long (Refused (TooLarge (record_name home) 5))
  pub file_too_long : MayEnd file_too_long (Refused (TooLarge out 5))
  pub no_memory : MayEnd no_memory NoMemory
  pub no_memory_to_stage : MayEnd no_memory_to_stage NoMemory
  pub failed_seizure : MayEnd failed_seizure (Failed Before)
  pub failed_before : MayEnd failed_before (Failed Before)
  pub failed_staging : MayEnd failed_staging (Failed Before)
  pub failed_unknown : MayEnd failed_unknown (Failed Unknown)
  pub no_memory_to_look : MayEnd no_memory_to_look (Failed Unknown)
  pub looked_before : MayEnd looked_before (Failed Before)
  pub looked_after : MayEnd looked_after (Failed After)
  pub failed_after : MayEnd failed_after (Failed After)
  pub failed_unlock : MayEnd failed_unlock (Failed After)
  pub failed_erasure : MayEnd failed_erasure (Failed After)
