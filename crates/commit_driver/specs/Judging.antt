-- What changes make of files, in order.
use Rattle.std.specs.Prelude.{◌≡◌, ◌+◌, ◌<◌, ℕ, true, List, [], ◌∷◌, map, get_or, slice_set, nat_le, length, is_some, IsTrue, if◌then◌else◌}
use Rattle.std.specs.declared.option.Option.{Option}
use Rattle.std.specs.declared.option.Option.TheVariants.{Some, None}
use Rattle.std.specs.declared.result.Result.{Result}
use Rattle.std.specs.declared.result.Result.TheVariants.{Ok, Err}
use Rattle.std.specs.Str.{bytes_eq}
use Rattle.folder_change.specs.declared.change.Change.{Change}
use Rattle.folder_change.specs.Changes.{name_of}
use Rattle.folder_change.specs.Outcomes.{outcome_of}
use Rattle.folder_change.specs.Apply.{Files, apply}
use Rattle.host_port.specs.Calls.{load_limit}
use Rattle.commit_machine.specs.Refusals.{ChangedAt, TooLong, first_refusal}
use Rattle.commit_machine.specs.Records.{AreDistinct}
use Rattle.commit_machine.specs.Edits.{is_added}
use Rattle.commit_driver.specs.Holding.{IsHeldOf, AreHeldOf}
use Rattle.commit_driver.specs.declared.judge.Trouble.{Trouble}
use Rattle.commit_driver.specs.declared.judge.Trouble.TheVariants as trouble

-- how many bytes a file has that has too many
abbrev pub excess_of : Option (List ℕ) → Option ℕ
excess_of None = None
excess_of (Some bytes) = if nat_le (length bytes) load_limit then None else Some (length bytes)

-- the number of a name among names; how many there are if it isn't among them
abbrev pub number_in : List (List ℕ) → List ℕ → ℕ
number_in [] n = 0
number_in (m ∷ ms) n = if bytes_eq n m then 0 else number_in ms n + 1

-- what a change makes of the file with this number, or why it can't be made
abbrev pub JudgesOne : Change → List (List ℕ) → ℕ → List (Option (List ℕ)) → Result Unit Trouble → List (Option (List ℕ)) → Type 0
JudgesOne change base at files (Ok u) now =
    (file : Option (List ℕ)) × (outcome_of (get_or files at None) change base ≡ Ok file) × (excess_of file ≡ None) × (now ≡ slice_set files at file)
JudgesOne change base at files (Err (trouble.Changed k message)) now = (length now ≡ length files) × (k ≡ at) × (outcome_of (get_or files at None) change base ≡ Err message)
JudgesOne change base at files (Err (trouble.TooLarge k n)) now =
    (length now ≡ length files) × (k ≡ at) × ((file : Option (List ℕ)) × (outcome_of (get_or files at None) change base ≡ Ok file) × (excess_of file ≡ Some n))
JudgesOne change base at files (Err trouble.Memory) now = length now ≡ length files

-- the files of these names after all changes, or why they can't be made, which running out of memory may hide
abbrev pub JudgesSo : List Change → List (List ℕ) → List (List ℕ) → Files → Result Unit Trouble → List (Option (List ℕ)) → Type 0
JudgesSo changes base names files (Ok u) now = (first_refusal changes base files ≡ None) × (now ≡ map (apply changes base files) names)
JudgesSo changes base names files (Err (trouble.Changed k message)) now = first_refusal changes base files ≡ Some (ChangedAt (get_or names k []) message)
JudgesSo changes base names files (Err (trouble.TooLarge k n)) now = first_refusal changes base files ≡ Some (TooLong (get_or names k []) n)
JudgesSo changes base names files (Err trouble.Memory) now = Unit {0}

abbrev pub Judges : List Change → List (List ℕ) → List (List ℕ) → List (Option (List ℕ)) → Result Unit Trouble → List (Option (List ℕ)) → Type 0
Judges changes base names seen result now = (files : Files) → AreDistinct names → seen ≡ map files names → JudgesSo changes base names files result now

-- the number of a file in a trouble is one of n, from 0, and too many bytes are past the limit
abbrev pub TroubleFits : ℕ → Result Unit Trouble → Type 0
TroubleFits n (Err (trouble.Changed k message)) = k < n
TroubleFits n (Err (trouble.TooLarge k long)) = (k < n) × (load_limit < long)
TroubleFits n result = Unit {0}

-- what is held of the file with this number after a change, or why it can't be made
abbrev pub JudgesHeld : Change → List (List ℕ) → Option ℕ → List ℕ → ℕ → List (Option (List ℕ)) → List (Option (List ℕ)) → Result Unit Trouble → List (Option (List ℕ)) → Type 0
JudgesHeld change base stay end at wholes held (Ok u) now =
    (file part : Option (List ℕ)) × (outcome_of (get_or wholes at None) change base ≡ Ok file) × (excess_of file ≡ None) × IsHeldOf stay end file part × (now ≡ slice_set held at part)
JudgesHeld change base stay end at wholes held (Err t) now = JudgesOne change base at wholes (Err t) wholes

-- a change of a file of which bytes stay is an added one
abbrev pub AddsTo : List (List ℕ) → List (Option ℕ) → Change → Type 0
AddsTo names stays change = IsTrue (is_some (get_or stays (number_in names (name_of change)) None)) → is_added change ≡ true

-- what the changes make of whole files is judged so, and this is held of them then
pub record JudgesParts (changes : List Change) (base names : List (List ℕ)) (stays : List (Option ℕ)) (ends : List (List ℕ)) (wholes : List (Option (List ℕ)))
    (result : Result Unit Trouble) (now : List (Option (List ℕ))) : Type 0 where
  pub made : List (Option (List ℕ))
  pub judged : Judges changes base names wholes result made
  pub long : length made ≡ length wholes
  pub fits : TroubleFits (length names) result
  pub held : result ≡ Ok tt → AreHeldOf stays ends made now
