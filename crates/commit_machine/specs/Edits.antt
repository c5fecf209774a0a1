-- The edits that changes ask for.
use Rattle.std.specs.Prelude.{◌≡◌, ℕ, ℤ, Bool, true, false, not, ◌||◌, nat_le, List, [], ◌∷◌, map, drop, length, Option, Some, None, if◌then◌else◌}
use Rattle.std.specs.List.{list_all}
use Rattle.std.specs.Option.{option_map}
use Rattle.std.specs.Str.{bytes_eq}
use Rattle.commit_record.specs.declared.way.Way.TheVariants.{Replace, Remove, Extend}
use Rattle.folder_change.specs.declared.change.Change.{Change}
use Rattle.folder_change.specs.declared.change.Change.TheVariants.{Rewrite, Add, Front, AddRaw}
use Rattle.folder_change.specs.Changes.{name_of}
use Rattle.folder_change.specs.Apply.{apply}
use Rattle.host_port.specs.Calls.{load_limit}
use Rattle.commit_machine.specs.Refusals.{ChangeRefusal, ChangedAt, TooLong, first_refusal}
use Rattle.commit_machine.specs.Settled.{Files}
use Rattle.commit_machine.specs.Jobs.{Refusal, TooLarge, Changed, Outcome, Puts, Edit, Job, at_time}
use Rattle.commit_machine.specs.Due.{applied}

abbrev pub without : List ℕ → List (List ℕ) → List (List ℕ)
without name [] = []
without name (n ∷ ns) = if bytes_eq n name then without name ns else n ∷ without name ns

-- the names of changes, each once, in order of first naming
abbrev pub first_names : List Change → List (List ℕ)
first_names [] = []
first_names (c ∷ cs) = name_of c ∷ without (name_of c) (first_names cs)

-- the change puts its bytes behind those of the file
abbrev pub is_added : Change → Bool
is_added (Rewrite name list keep) = false
is_added (Add name texts) = true
is_added (Front name texts) = false
is_added (AddRaw name bytes) = true

-- all changes of this name do
abbrev pub only_adds : List Change → List ℕ → Bool
only_adds changes name = list_all (λ c. not (bytes_eq name (name_of c)) || is_added c) changes

-- what comes behind a file that stands; a file that was loaded is within the limit
abbrev pub tail_for : List ℕ → List ℕ → Outcome
tail_for old bytes = if nat_le (length old) load_limit then Puts (Extend (length old)) (drop (length old) bytes) else Puts Replace bytes

-- What is staged for a file that is to be so. For one that is to be absent it is the empty file; for one that stands and is only added to,
-- what comes behind it.
abbrev pub outcome_for : Bool → Option (List ℕ) → Option (List ℕ) → Outcome
outcome_for adds seen None = Puts Remove []
outcome_for true (Some old) (Some bytes) = tail_for old bytes
outcome_for true None (Some bytes) = Puts Replace bytes
outcome_for false seen (Some bytes) = Puts Replace bytes

-- all changes of this name as one edit
abbrev pub edit_for : List Change → List (List ℕ) → List ℕ → Edit
edit_for changes base name = record { name = name; by = λ seen. outcome_for (only_adds changes name) seen (apply changes base (λ n. seen) name) }

abbrev pub edits_for : List Change → List (List ℕ) → List Edit
edits_for changes base = map (edit_for changes base) (first_names changes)

abbrev pub cause_of : ChangeRefusal → Refusal
cause_of (ChangedAt name at) = Changed name at
cause_of (TooLong name length) = TooLarge name length

-- The commit of changes, without a time. It is refused if a change, in order, can't be made on the files that were loaded.
abbrev pub job_for : List ℕ → ℕ → List Change → List (List ℕ) → Job
job_for actor token changes base = record {
  actor = actor;
  token = token;
  time = None;
  edits = Some (edits_for changes base);
  refusal = λ files. option_map cause_of (first_refusal changes base files);
}

-- the commit that asks for the time and is told this
abbrev pub timed_for : List ℕ → ℕ → ℤ → List Change → List (List ℕ) → Job
timed_for actor token time changes base = at_time (Some time) (job_for actor token changes base)

-- the recovery of an actor
abbrev pub recovery_for : List ℕ → ℕ → Job
recovery_for actor token = record { actor = actor; token = token; time = None; edits = None; refusal = λ files. None }

-- the edits of changes make of files what the changes make of them
abbrev pub EditsAreChanges : Type 0
EditsAreChanges = (changes : List Change) (base : List (List ℕ)) (files : Files) (n : List ℕ) → applied (edits_for changes base) files n ≡ apply changes base files n
