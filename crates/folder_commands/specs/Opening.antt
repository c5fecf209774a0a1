-- The command that opens another file.
use Rattle.std.specs.Prelude.{ℕ, Bool, ◌==◌, List, [], ◌∷◌, ◌++◌, length, codes}
use Rattle.std.specs.List.{count_by}
use Rattle.std.specs.Fmt.{decimal}
use Rattle.std.specs.declared.result.Result.TheVariants.{Ok, Err}
use Rattle.mail_text.specs.Lines.{with_feed}
use Rattle.message_state.specs.declared.mark.State.{State}
use Rattle.message_state.specs.declared.mark.State.TheVariants.{New, Unread}
use Rattle.message_state.specs.declared.row.Row.{Row}
use Rattle.message_state.specs.States.{place}
use Rattle.command_desk.specs.declared.desk.Desk.{Desk}
use Rattle.command_desk.specs.declared.steps.Ask.TheVariants as asks
use Rattle.command_desk.specs.declared.steps.Steps.{Steps}
use Rattle.command_desk.specs.Answers.{OrFault, next, says}
use Rattle.command_desk.specs.Effects.{unchanged}
use Rattle.command_desk.specs.Faults.{bad_arguments}
use Rattle.command_desk.specs.FileNames.{expanded}
use Rattle.folder_commands.specs.Leaving.{changes_of, left_reply}

-- the row's message is in this state
abbrev pub is_in : State → Row → Bool
is_in state row = place row.mark.state == place state

-- the opening line: the folder's name, how many messages it has, and how many are new and unread
abbrev pub opening_line : Desk → List ℕ
opening_line desk = with_feed (codes "\"" ++ desk.folder.name ++ codes "\": " ++ decimal (length desk.shown.rows) ++ codes " messages, "
    ++ decimal (count_by (is_in New) desk.shown.rows) ++ codes " new, " ++ decimal (count_by (is_in Unread) desk.shown.rows) ++ codes " unread")

-- the file of this name is opened once the changes of a quit were committed, of which is printed what a quit prints
abbrev pub opens : Desk → List ℕ → Steps
opens desk name = record {
  asks = asks.Open name (changes_of desk) (left_reply desk) ∷ [];
  effects = unchanged;
}

-- `file`, `folder`, of which one was given: the opening line; or the file that its one word stands for is opened
abbrev pub file : List ℕ → Desk → List (List ℕ) → OrFault Steps
file command desk [] = says (opening_line desk) unchanged
file command desk (word ∷ []) = next (expanded desk word) (λ name. Ok (opens desk name))
file command desk words = Err (bad_arguments command)
