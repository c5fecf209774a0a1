-- What is made before a commit changes anything.
use Rattle.std.specs.Prelude.{◌≡◌, ◌<◌, ◌≤◌, ℕ, ℤ, true, Option, Some, None, List, [], ◌∷◌, ◌++◌, map, length, All, if◌then◌else◌}
use Rattle.std.specs.List.{list_any}
use Rattle.std.specs.Str.{bytes_eq}
use Rattle.std.specs.declared.result.Result.{Result}
use Rattle.std.specs.declared.result.Result.TheVariants.{Ok, Err}
use Rattle.folder_change.specs.declared.change.Change.{Change}
use Rattle.folder_change.specs.Changes.{name_of}
use Rattle.commit_record.specs.Format.{file_limit, nearest_moment, written}
use Rattle.commit_record.specs.Ways.{entry_for}
use Rattle.commit_record.specs.declared.record.Phase.{Phase}
use Rattle.commit_record.specs.declared.record.Phase.TheVariants.{Prepare, Go}
use Rattle.commit_record.specs.declared.record.Entry.{Entry}
use Rattle.commit_record.specs.declared.record.Record.{Record}
use Rattle.commit_record.specs.declared.way.Way.TheVariants.{Replace}
use Rattle.commit_machine.specs.Names.{record_name, new_name, right_name, staged_name}
use Rattle.commit_machine.specs.Jobs.{entries_for}
use Rattle.commit_machine.specs.Edits.{first_names}
use Rattle.commit_driver.specs.declared.place.Plan.{Plan}
use Rattle.folder_commit.specs.declared.error.CommitError.{CommitError}
use Rattle.folder_commit.specs.declared.error.CommitError.TheVariants as error
use Rattle.folder_commit.specs.Names.{is_file_name}

-- each file may be changed by a commit of the actor
abbrev pub AreFiles : List ℕ → List Change → Type 0
AreFiles actor changes = All (λ c. is_file_name actor (name_of c) ≡ true) changes

-- entries of these names
abbrev pub replaced : List (List ℕ) → List Entry
replaced names = entries_for (λ n. Replace) names

-- entries with one of this name at the end, unless it is there
abbrev pub with_entry : List Entry → List ℕ → List Entry
with_entry es name = if list_any (λ e. bytes_eq name e.name) es then es else es ++ entry_for Replace name ∷ []

abbrev pub record_for : Phase → ℕ → Option ℤ → List (List ℕ) → Record
record_for phase token moment names = record { phase = phase; token = token; moment = moment; entries = replaced names }

-- the plan of a commit of files of these names, before it has a moment
abbrev pub named_plan : List ℕ → ℕ → List (List ℕ) → Plan
named_plan actor token names = record {
  «record» = record_name actor;
  new = new_name actor;
  right = right_name actor;
  commits = true;
  value = record_for Go token None names;
  staged = map (λ e. staged_name token e.name) (replaced names);
  prepare = [];
}

-- a plan once it has this moment
abbrev pub dated_plan : ℤ → Plan → Plan
dated_plan moment plan = record plan {
  value = record { phase = Go; token = plan.value.token; moment = Some moment; entries = plan.value.entries };
  prepare = written (record { phase = Prepare; token = plan.value.token; moment = Some moment; entries = plan.value.entries });
}

-- the plan of a commit that was told this time
abbrev pub commit_plan : List ℕ → ℕ → ℤ → List (List ℕ) → Plan
commit_plan actor token time names = dated_plan (nearest_moment time) (named_plan actor token names)

-- the names of a commit of changes, of as many files at most as a record may have
abbrev pub Plans : List ℕ → ℕ → List Change → Result Plan CommitError → Type 0
Plans actor token changes (Ok plan) = (length (first_names changes) ≤ file_limit) × (plan ≡ named_plan actor token (first_names changes))
Plans actor token changes (Err (error.TooManyNames count)) = (file_limit < length (first_names changes)) × (count ≡ length (first_names changes))
Plans actor token changes (Err error.Memory) = Unit {0}
Plans actor token changes (Err why) = ⊥
