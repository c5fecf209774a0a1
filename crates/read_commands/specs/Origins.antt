-- Where a line comes from, and the commands that may stand there.
-- After the faults of a line's form come those of its message list, and then those of variables. Which message is current then the manual page tells,
-- command by command.
use Rattle.std.specs.Prelude.{◌≡◌, ℕ, Bool, true, false, not, ◌&&◌, List, Option, IfOk, is_some, if◌then◌else◌}
use Rattle.std.specs.List.{list_all}
use Rattle.std.specs.declared.option.Option.TheVariants.{Some, None}
use Rattle.std.specs.declared.result.Result.{Result}
use Rattle.std.specs.declared.result.Result.TheVariants.{Ok, Err}
use Rattle.line_words.specs.declared.line.CommandLine.{CommandLine}
use Rattle.line_words.specs.declared.command.Command.{Command}
use Rattle.line_words.specs.declared.command.Command.TheVariants as command
use Rattle.line_words.specs.declared.line.LineError.{LineError}
use Rattle.line_words.specs.Line.{command_in, reading}
use Rattle.rc_conditionals.specs.Turns.{is_live}
use Rattle.command_desk.specs.declared.desk.Desk.{Desk}
use Rattle.command_desk.specs.declared.steps.Ask as asked_of
use Rattle.command_desk.specs.declared.steps.Ask.TheVariants as asks
use Rattle.command_desk.specs.declared.steps.Steps.{Steps}
use Rattle.command_desk.specs.Answers.{OrFault, next, unless, effects_alone}
use Rattle.command_desk.specs.Effects.{unchanged}
use Rattle.command_desk.specs.Faults.{not_in_startup, not_composing}
use Rattle.desk_commands.specs.Defining.{definition_line}
use Rattle.read_commands.specs.declared.origin.Origin.{Origin}
use Rattle.read_commands.specs.declared.origin.Origin.TheVariants as origin
use Rattle.read_commands.specs.Commands.{name_of, meaning, read_or_fault}

-- a start-up file may hold the command
abbrev pub is_of_startup : Command → Bool
is_of_startup command.Alias = true
is_of_startup command.Alternates = true
is_of_startup command.Call = true
is_of_startup command.Define = true
is_of_startup command.Defines = true
is_of_startup command.Undef = true
is_of_startup command.Ignore = true
is_of_startup command.Retain = true
is_of_startup command.Echo = true
is_of_startup command.Condition = true
is_of_startup command.Set = true
is_of_startup command.Unset = true
is_of_startup command.Source = true
is_of_startup command.Unalias = true
is_of_startup command.Comment = true
is_of_startup other = false

-- a line of a start-up file may ask this: that bytes are printed, or for the lines of a file or of a macro
abbrev pub is_startup_ask : asked_of.Ask → Bool
is_startup_ask (asks.Say bytes) = true
is_startup_ask (asks.Source name) = true
is_startup_ask (asks.Lines text) = true
is_startup_ask ask = false

-- the command begins a draft, leaves the folder or changes it, or brings lines of its own, so a draft can't give it
abbrev pub leaves_draft : Command → Bool
leaves_draft command.Mail = true
leaves_draft command.Reply = true
leaves_draft command.ReplyAuthors = true
leaves_draft command.Followup = true
leaves_draft command.FollowupAuthors = true
leaves_draft command.File = true
leaves_draft command.Newmail = true
leaves_draft command.Quit = true
leaves_draft command.Exit = true
leaves_draft command.Define = true
leaves_draft command.Call = true
leaves_draft command.Source = true
leaves_draft command.Edit = true
leaves_draft command.Visual = true
leaves_draft other = false

-- the line that refuses a command where it comes from
abbrev pub line_of_origin : Origin → CommandLine → Option (List ℕ)
line_of_origin origin.Input line = None
line_of_origin origin.Startup line =
    if is_of_startup line.command then None else Some (not_in_startup (name_of line.word))
line_of_origin origin.Draft line =
    if leaves_draft line.command then Some (not_composing (name_of line.word)) else None

-- a command that may stand where it comes from, or the line that refuses it
abbrev pub allowed : Origin → CommandLine → OrFault CommandLine
allowed from line = unless (line_of_origin from line) (λ said. said) (Ok line)

-- a line as it is read: its form is looked at first, and then whether its command may stand where the line comes from
abbrev pub read_from : Origin → List ℕ → OrFault CommandLine
read_from from line = next (read_or_fault (reading line)) (allowed from)

-- the command is `if`, `else` or `endif`
abbrev pub is_condition : Option Command → Bool
is_condition (Some command.Condition) = true
is_condition other = false

-- a line's word names such a command, whatever stands behind it
abbrev pub turns_lines : List ℕ → Bool
turns_lines line = is_condition (command_in line)

-- a line is passed over: a condition that is open doesn't hold, and the line is none of `if`, `else` and `endif`
abbrev pub passes_over : Desk → List ℕ → Bool
passes_over desk line = not (is_live desk.conditions) && not (turns_lines line)

-- a definition is under way
abbrev pub is_defining : Desk → Bool
is_defining desk = is_some desk.macros.unfinished

-- what a line from somewhere comes to outside of definitions, unless it is passed over: it is read first, then its
-- command is carried out
abbrev pub commanded_outside : Origin → Desk → List ℕ → OrFault Steps
commanded_outside from desk line =
    if passes_over desk line then effects_alone unchanged
    else next (read_from from line) (λ command. meaning command desk)

-- what a line from somewhere comes to: where a definition is under way it is one of it, whatever it is
abbrev pub commanded : Origin → Desk → List ℕ → OrFault Steps
commanded from desk line =
    if is_defining desk then definition_line desk line
    else commanded_outside from desk line

-- what is carried out asks nothing else than a line of a start-up file may
abbrev pub AsksLittle : OrFault Steps → Type 0
AsksLittle meant = IfOk meant (λ steps. list_all is_startup_ask steps.asks ≡ true)
