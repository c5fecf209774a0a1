-- The files that words name, and those that are named after an author.
use Rattle.std.specs.Prelude.{ℕ, Bool, not, ◌&&◌, ◌==◌, ◌-◌, List, [], ◌∷◌, length, slice_get, if◌then◌else◌}
use Rattle.std.specs.List.{list_any}
use Rattle.std.specs.Option.{option_map_or}
use Rattle.std.specs.declared.result.Result.{Result}
use Rattle.std.specs.declared.result.Result.TheVariants.{Ok, Err}
use Rattle.message_list.specs.LocalParts.{local_part}
use Rattle.mailx_vars.specs.Expansion.{expansion}
use Rattle.mailx_vars.specs.declared.error.NameError.{NameError}
use Rattle.mailx_vars.specs.declared.error.NameError.TheVariants.{NoPrevious, NoFolder, Memory}
use Rattle.command_desk.specs.declared.desk.Desk.{Desk}
use Rattle.command_desk.specs.Answers.{OrFault}
use Rattle.command_desk.specs.Faults.{bad_name, no_author, no_previous, no_folder}

-- why a word stands for no file
abbrev pub name_fault : NameError → List ℕ
name_fault NoPrevious = no_previous
name_fault NoFolder = no_folder
name_fault Memory = []

abbrev pub name_or_fault : Result (List ℕ) NameError → OrFault (List ℕ)
name_or_fault (Ok name) = Ok name
name_or_fault (Err e) = Err (name_fault e)

-- the name of the file that a word stands for
abbrev pub expanded : Desk → List ℕ → OrFault (List ℕ)
expanded desk word = name_or_fault (expansion desk.places desk.vars desk.previous word)

-- the bare address of the author of message n, numbered from 1; empty if there is none
abbrev pub author_of : Desk → ℕ → List ℕ
author_of desk n = option_map_or (λ row. row.texts.author) (slice_get desk.shown.rows (n - 1)) []

-- the name isn't empty and holds no `/`
abbrev pub is_plain : List ℕ → Bool
is_plain name = not (length name == 0) && not (list_any (λ b. b == 47) name)

abbrev pub named_plainly : List ℕ → OrFault (List ℕ)
named_plainly name = if is_plain name then Ok name else Err (bad_name name)

-- the file that is named after an author: the local part, as it stands
abbrev pub named_after : List ℕ → OrFault (List ℕ)
named_after [] = Err no_author
named_after (b ∷ bs) = named_plainly (local_part (b ∷ bs))
