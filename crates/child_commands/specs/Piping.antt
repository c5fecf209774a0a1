-- Messages that a command is given.
use Rattle.std.specs.Prelude.{ℕ, List, [], ◌==◌, length, codes, Option, if◌then◌else◌}
use Rattle.std.specs.List.{flat_map}
use Rattle.std.specs.declared.option.Option.TheVariants.{Some, None}
use Rattle.std.specs.declared.result.Result.TheVariants.{Err}
use Rattle.mail_text.specs.Lines.{with_feed}
use Rattle.mailx_vars.specs.Settings.{value_of}
use Rattle.message_state.specs.declared.mark.Act.TheVariants.{Look}
use Rattle.message_list.specs.declared.list.Purpose.TheVariants.{Live}
use Rattle.command_desk.specs.declared.desk.Desk.{Desk}
use Rattle.command_desk.specs.declared.steps.Steps.{Steps}
use Rattle.command_desk.specs.Answers.{OrFault, next}
use Rattle.command_desk.specs.Desks.{message_text}
use Rattle.command_desk.specs.Effects.{marked}
use Rattle.command_desk.specs.Faults.{bad_arguments}
use Rattle.command_desk.specs.Selecting.{chosen, list_words, last_word}
use Rattle.child_commands.specs.Running.{runs}

-- the text of a message and a line feed
abbrev pub text_line : Desk → ℕ → List ℕ
text_line desk n = with_feed (message_text desk n)

-- a command is given the texts of the selected messages, each with a line feed, and then they are looked at
abbrev pub into_command : Desk → List (List ℕ) → List ℕ → OrFault Steps
into_command desk list command =
    next (chosen Live desk list) (λ ns. runs command (flat_map (text_line desk) ns) (marked desk Look ns))

-- the command is the value of a variable, if that is set; it is given the current message
abbrev pub into_value : List ℕ → Desk → Option (List ℕ) → OrFault Steps
into_value name desk (Some command) = into_command desk [] command
into_value name desk None = Err (bad_arguments name)

-- the variable `cmd` is the command
abbrev pub into_variable : List ℕ → Desk → OrFault Steps
into_variable name desk = into_value name desk (value_of desk.vars (codes "cmd"))

-- `pipe` and `|`, by their names: a list and a command after it; without a word the variable `cmd` is the command
abbrev pub pipe : List ℕ → Desk → List (List ℕ) → OrFault Steps
pipe name desk words =
    if length words == 0 then into_variable name desk
    else into_command desk (list_words words) (last_word words)
