-- What holds of the lists of files before and after a change.
use Rattle.std.specs.Prelude.{◌≡◌, ◌≢◌, ℕ, ◌+◌, ◌<◌, Bool, List, ◌++◌, Option, Some, None, Result, Ok, Err, length, take, slice_get, MatchResult, All}
use Rattle.mbox_scan.specs.Mailbox.{list_of, join, IsProper}
use Rattle.folder_change.specs.declared.change.Change.{Change}
use Rattle.folder_change.specs.declared.change.Change.TheVariants.{Rewrite, Add, Front}
use Rattle.folder_change.specs.Outcomes.{bytes_of, file_of, outcome_of}
use Rattle.folder_change.specs.Changes.{name_of}
use Rattle.folder_change.specs.Apply.{Files, apply}

-- the list of a file
abbrev pub list_of_file : Option (List ℕ) → Option (List (List ℕ))
list_of_file file = list_of (bytes_of file)

-- the list of the file that an outcome leaves
abbrev pub list_after : Result (Option (List ℕ)) ℕ → Option (List (List ℕ))
list_after (Ok file) = list_of_file file
list_after (Err at) = None

-- the texts that are added follow those that were there
abbrev pub AddAppends : Type 0
AddAppends = (current : Option (List ℕ)) (name : List ℕ) (old texts base : List (List ℕ))
    → list_of_file current ≡ Some old → All IsProper texts
    → list_after (outcome_of current (Add name texts) base) ≡ Some (old ++ texts)

-- the texts that are put in front stand before those that were there
abbrev pub FrontPrepends : Type 0
FrontPrepends = (current : Option (List ℕ)) (name : List ℕ) (old texts base : List (List ℕ))
    → list_of_file current ≡ Some old → All IsProper texts
    → list_after (outcome_of current (Front name texts) base) ≡ Some (texts ++ old)

-- what others added after the base stays, after the new texts
abbrev pub RewriteKeepsTheRest : Type 0
RewriteKeepsTheRest = (current : Option (List ℕ)) (name : List ℕ) (list base rest : List (List ℕ)) (keep : Bool)
    → list_of_file current ≡ Some (base ++ rest) → All IsProper list
    → list_after (outcome_of current (Rewrite name list keep) base) ≡ Some (list ++ rest)

-- the first k texts of the base stand at the front, and the next one doesn't follow them
pub record IsFirstDifference (base now : List (List ℕ)) (k : ℕ) : Type 0 where
  pub within : k < length base
  pub same : take k now ≡ take k base
  pub other : slice_get now k ≢ slice_get base k

-- a Rewrite of a mailbox has a file if the list begins with the base, and then it is this one;
-- else it has changed, at the number of the first text of the base that differs, from 1
abbrev pub RewriteByTheBase : Type 0
RewriteByTheBase = (current : Option (List ℕ)) (name : List ℕ) (now list base : List (List ℕ)) (keep : Bool)
    → list_of_file current ≡ Some now
    → MatchResult (outcome_of current (Rewrite name list keep) base)
    (λ file. (rest : List (List ℕ)) × (now ≡ base ++ rest) × (file ≡ file_of (join list ++ join rest) keep))
    (λ at. (k : ℕ) × (at ≡ k + 1) × IsFirstDifference base now k)

-- changes are applied in order
abbrev pub AppliedInOrder : Type 0
AppliedInOrder = (changes later : List Change) (base : List (List ℕ)) (files : Files)
    → apply (changes ++ later) base files ≡ apply later base (apply changes base files)

-- what changes make of a file depends on no other file
abbrev pub EachFileAlone : Type 0
EachFileAlone = (changes : List Change) (base : List (List ℕ)) (files others : Files) (name : List ℕ)
    → files name ≡ others name → apply changes base files name ≡ apply changes base others name

-- a file that no change names stays
abbrev pub OthersStay : Type 0
OthersStay = (changes : List Change) (base : List (List ℕ)) (files : Files) (name : List ℕ)
    → All (λ change. name ≢ name_of change) changes
    → apply changes base files name ≡ files name
