-- Why changes can't be made: a file has changed meanwhile, or would have more bytes than a load takes.
use Rattle.std.specs.Prelude.{ℕ, nat_le, List, [], ◌∷◌, Option, Some, None, Result, Ok, Err, length, if◌then◌else◌}
use Rattle.host_port.specs.Calls.{load_limit}
use Rattle.folder_change.specs.declared.change.Change.{Change}
use Rattle.folder_change.specs.Changes.{name_of}
use Rattle.folder_change.specs.Apply.{Files, outcome_on, after}

-- why a change can't be made; the text is the name of its file
pub data ChangeRefusal : Type 0 where
  -- the file has changed at the message of this number
  ChangedAt : List ℕ → ℕ → ChangeRefusal
  -- the file would have this number of bytes
  TooLong : List ℕ → ℕ → ChangeRefusal

-- why this outcome can't be had for the file of this name; None: it can
abbrev pub refusal_of : List ℕ → Result (Option (List ℕ)) ℕ → Option ChangeRefusal
refusal_of name (Ok None) = None
refusal_of name (Ok (Some b)) = if nat_le (length b) load_limit then None else Some (TooLong name (length b))
refusal_of name (Err at) = Some (ChangedAt name at)

-- the first of two refusals, if there is any
abbrev pub or_else : Option ChangeRefusal → Option ChangeRefusal → Option ChangeRefusal
or_else None later = later
or_else (Some refusal) later = Some refusal

-- the first change, in order, that can't be made
unfoldable pub first_refusal : List Change → List (List ℕ) → Files → Option ChangeRefusal
first_refusal [] base files = None
first_refusal (change ∷ later) base files =
    or_else (refusal_of (name_of change) (outcome_on files change base)) (first_refusal later base (after files change base))
