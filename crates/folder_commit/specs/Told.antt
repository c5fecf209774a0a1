-- The answer of a commit as its own events give it.
use Rattle.std.specs.Prelude.{◌≡◌, ◌≤◌, ℕ, Bool, true, false, List, [], ◌∷◌, length, if◌then◌else◌}
use Rattle.std.specs.Str.{bytes_eq}
use Rattle.std.specs.List.{list_any}
use Rattle.std.specs.Option.{option_map}
use Rattle.std.specs.declared.option.Option.{Option}
use Rattle.std.specs.declared.option.Option.TheVariants.{Some, None}
use Rattle.std.specs.declared.result.Result.{Result}
use Rattle.std.specs.declared.result.Result.TheVariants.{Ok, Err}
use Rattle.host_port.specs.declared.event.Event.{Event}
use Rattle.host_port.specs.declared.event.Event.TheVariants.{Load, Publish, Lock, Seize, Now}
use Rattle.host_port.specs.declared.event.Seen.TheVariants as seen
use Rattle.commit_record.specs.Format.{file_limit}
use Rattle.commit_record.specs.declared.record.Record.{Record}
use Rattle.folder_change.specs.declared.change.Change.{Change}
use Rattle.commit_machine.specs.Refusals.{first_refusal}
use Rattle.commit_machine.specs.Names.{new_name}
use Rattle.commit_machine.specs.Records.{record_of}
use Rattle.commit_machine.specs.Settled.{Files}
use Rattle.commit_machine.specs.Jobs.{Refusal, Busy, NotARecord, TooLarge, Changed, Ending, Done, Refused, NoMemory}
use Rattle.commit_machine.specs.Edits.{first_names, cause_of}
use Rattle.commit_machine.specs.Restraints.{is_failed}
use Rattle.commit_driver.specs.declared.step.Passed.TheVariants.{Unknown}
use Rattle.folder_commit.specs.declared.error.CommitError.{CommitError}
use Rattle.folder_commit.specs.declared.error.CommitError.TheVariants as error
use Rattle.commit_driver.specs.Places.{WantedAs}

-- what the first load of a file saw of it
abbrev pub seen_in : List Event → Files
seen_in [] name = None
seen_in (Load n (seen.Bytes c held) ∷ es) name = if bytes_eq name n then c else seen_in es name
seen_in (e ∷ es) name = seen_in es name

-- from the decision's record on: it is published
abbrev pub by_decision : List ℕ → List Event → Ending
by_decision actor [] = NoMemory
by_decision actor (Publish from to done failed ∷ es) = if bytes_eq from (new_name actor) then (if done then Done else Refused NotARecord) else by_decision actor es
by_decision actor (e ∷ es) = by_decision actor es

-- why the changes can't be made
abbrev pub by_changes : Option Refusal → Ending → Ending
by_changes (Some why) end = Refused why
by_changes None end = end

-- from the loads on, one for each name that is left
abbrev pub by_load : List ℕ → Option Refusal → List (List ℕ) → List Event → Ending
by_load actor why [] es = by_changes why (by_decision actor es)
by_load actor why (name ∷ left) (Load n (seen.Bytes c held) ∷ es) = by_load actor why left es
by_load actor why (name ∷ left) (Load n (seen.TooLarge length) ∷ es) = Refused (TooLarge n length)
by_load actor why (name ∷ left) es = NoMemory

-- Once the record that stands is read: it is done with, while a staged file may be too long to load, or its load run out of memory; then the
-- first record is published, there is a lock for each name that is left, and then all are loaded.
abbrev pub by_lock : List ℕ → Option Refusal → List (List ℕ) → List (List ℕ) → List Event → Ending
by_lock actor why names [] es = by_load actor why names es
by_lock actor why names (name ∷ left) [] = NoMemory
by_lock actor why names (name ∷ left) (Lock n t true failed ∷ es) = by_lock actor why names left es
by_lock actor why names (name ∷ left) (Lock n t false failed ∷ es) = Refused (Busy n)
by_lock actor why names (name ∷ left) (Publish from to false failed ∷ es) = if bytes_eq from (new_name actor) then Refused NotARecord else by_lock actor why names (name ∷ left) es
by_lock actor why names (name ∷ left) (Load n (seen.TooLarge length) ∷ es) = Refused (TooLarge n length)
by_lock actor why names (name ∷ left) (Load n seen.Memory ∷ es) = NoMemory
by_lock actor why names (name ∷ left) (e ∷ es) = by_lock actor why names (name ∷ left) es

-- what stands as the record is none, or is done with
abbrev pub by_standing : Option Record → Ending → Ending
by_standing None end = Refused NotARecord
by_standing (Some r) end = end

-- from the load of the record on
abbrev pub by_record : List ℕ → Option Refusal → List (List ℕ) → List Event → Ending
by_record actor why names (Load n (seen.Bytes None held) ∷ es) = by_lock actor why names names es
by_record actor why names (Load n (seen.Bytes (Some bytes) held) ∷ es) = by_standing (record_of bytes) (by_lock actor why names names es)
by_record actor why names (Load n (seen.TooLarge length) ∷ es) = Refused (TooLarge n length)
by_record actor why names es = NoMemory

-- from the question for the time on
abbrev pub by_time : List ℕ → Option Refusal → List (List ℕ) → List Event → Ending
by_time actor why names (Now seconds ∷ es) = by_record actor why names es
by_time actor why names es = NoMemory

-- from the seizure on
abbrev pub by_right : List ℕ → Option Refusal → List (List ℕ) → List Event → Ending
by_right actor why names (Seize n false failed ∷ es) = Refused (Busy n)
by_right actor why names (Seize n true failed ∷ es) = by_time actor why names es
by_right actor why names es = NoMemory

-- why changes can't be made of what was loaded
abbrev pub refusal_told : List Change → List (List ℕ) → List Event → Option Refusal
refusal_told changes base es = option_map cause_of (first_refusal changes base (seen_in es))

-- the end of a commit of changes by its own events
abbrev pub end_told : List ℕ → List Change → List (List ℕ) → List Event → Ending
end_told actor changes base es = by_right actor (refusal_told changes base es) (first_names changes) es

-- the answer tells of a failed call
abbrev pub is_fault : Result Unit CommitError → Bool
is_fault (Err (error.Disk passed)) = true
is_fault result = false

-- a call failed exactly if the answer says so
abbrev pub TellsFaults : List Event → Result Unit CommitError → Type 0
TellsFaults es result = list_any is_failed es ≡ is_fault result

-- what follows at once is a load that didn't see what stands: it failed, wanted memory, or met too many bytes
abbrev pub load_failed : List Event → Bool
load_failed (Load n (seen.Bytes c held) ∷ es) = false
load_failed (Load n s ∷ es) = true
load_failed es = false

-- a publication failed, and so did the load that followed; no publication but the decision's is followed by a load if it fails
abbrev pub look_failed : List Event → Bool
look_failed [] = false
look_failed (Publish from to done true ∷ es) = load_failed es
look_failed (e ∷ es) = look_failed es

-- the answer says that it isn't known whether the decision was passed
abbrev pub is_unknown : Result Unit CommitError → Bool
is_unknown (Err (error.Disk Unknown)) = true
is_unknown result = false

-- it says so exactly if the publication of the decision failed, and so did the load that followed
abbrev pub TellsUnknown : List Event → Result Unit CommitError → Type 0
TellsUnknown es result = look_failed es ≡ is_unknown result

-- Without a fault the answer is this end of a commit of files of these names, unless memory ran out, which may hide that the record is none and
-- that the changes can't be made.
abbrev pub TellsEnd : List (List ℕ) → Ending → Result Unit CommitError → Type 0
TellsEnd files end (Ok u) = end ≡ Done
TellsEnd files end (Err (error.Busy name)) = end ≡ Refused (Busy name)
TellsEnd files end (Err error.Record) = end ≡ Refused NotARecord
TellsEnd files end (Err (error.Changed name at)) = end ≡ Refused (Changed name at)
TellsEnd files end (Err (error.TooLarge name length)) = end ≡ Refused (TooLarge name length)
TellsEnd files end (Err (error.Disk passed)) = Unit {0}
TellsEnd files end (Err error.Memory) = WantedAs files end
TellsEnd files end (Err (error.TooManyNames count)) = ⊥

-- The answer of a commit of changes of 256 files at most is as the own events give it, in this order: a call failed, where it says too whether
-- anything is known of the decision; the right or the record that stands refused it; the lock of a file did, in order of first naming; the load of
-- one did; the changes, in order, can't be made of what was loaded; or it was decided.
abbrev pub IsTold : List ℕ → List Change → List (List ℕ) → List Event → Result Unit CommitError → Type 0
IsTold actor [] base es result = TellsFaults es result × TellsUnknown es result
IsTold actor (c ∷ cs) base es result = TellsFaults es result × TellsUnknown es result
    × (length (first_names (c ∷ cs)) ≤ file_limit → TellsEnd (first_names (c ∷ cs)) (end_told actor (c ∷ cs) base es) result)
