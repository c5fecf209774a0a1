-- A message as it is printed.
use Rattle.std.specs.Prelude.{ℕ, List, ◌++◌, codes}
use Rattle.std.specs.Fmt.{decimal}
use Rattle.mail_text.specs.Lines.{with_feed}
use Rattle.message_show.specs.declared.text.How.{How}
use Rattle.message_show.specs.ShownText.{shown_text}
use Rattle.command_desk.specs.declared.desk.Desk.{Desk}
use Rattle.command_desk.specs.Desks.{message_text}

-- the line above a printed message
abbrev pub heading : ℕ → List ℕ
heading n = with_feed (codes "Message " ++ decimal n ++ codes ":")

-- a message as it is printed: its number, its shown text and a line feed
abbrev pub printed : Desk → How → ℕ → List ℕ
printed desk how n = heading n ++ with_feed (shown_text (message_text desk n) desk.sets how)
