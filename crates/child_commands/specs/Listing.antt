-- The files of the folder that the variable `folder` names.
use Rattle.std.specs.Prelude.{ℕ, List, [], ◌∷◌, ◌++◌, ◌==◌, length, codes, if◌then◌else◌}
use Rattle.std.specs.List.{flat_map}
use Rattle.std.specs.declared.result.Result.TheVariants.{Err}
use Rattle.mailx_vars.specs.Expansion.{folder_at, folder_value}
use Rattle.command_desk.specs.declared.desk.Desk.{Desk}
use Rattle.command_desk.specs.declared.steps.Steps.{Steps}
use Rattle.command_desk.specs.Answers.{OrFault}
use Rattle.command_desk.specs.Effects.{unchanged}
use Rattle.command_desk.specs.Faults.{no_folder}
use Rattle.child_commands.specs.Running.{runs}

-- a byte as it stands between quotes: a quote ends them, stands after a backslash, and begins them anew
abbrev pub quoted_byte : ℕ → List ℕ
quoted_byte b = if b == 39 then codes "'\\''" else b ∷ []

-- bytes as one word of the shell
abbrev pub quoted : List ℕ → List ℕ
quoted bytes = codes "'" ++ flat_map quoted_byte bytes ++ codes "'"

-- the command that lists the folder of a value
abbrev pub listing : Desk → List ℕ → List ℕ
listing desk value = desk.places.lister ++ codes " " ++ quoted (folder_at desk.places.home value)

-- `folders`: the folder of the variable `folder` is listed, if that is set, and not to nothing
abbrev pub folders : Desk → OrFault Steps
folders desk =
    if length (folder_value desk.vars) == 0 then Err no_folder
    else runs (listing desk (folder_value desk.vars)) [] unchanged
