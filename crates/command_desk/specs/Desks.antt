-- The state of a session between two commands.
use Rattle.std.specs.Prelude.{◌≡◌, ◌≤◌, ℕ, List, map, length, IfOk, IfSome}
use Rattle.std.specs.List.{AllZip}
use Rattle.std.specs.declared.result.Result.{Result}
use Rattle.mbox_scan.specs.Mailbox.{texts_of}
use Rattle.message_state.specs.declared.row.Row.{Row}
use Rattle.message_state.specs.ShownRows.{IsShown}
use Rattle.message_state.specs.Rows.{IsRow}
use Rattle.message_state.specs.Status.{mark_of}
use Rattle.message_state.specs.declared.shown.Shown.{Shown}
use Rattle.message_list.specs.Naming.{text_at}
use Rattle.command_desk.specs.declared.desk.Desk.{Desk}
use Rattle.command_desk.specs.declared.steps.Steps.{Steps}

-- each row is that of its text, its mark aside
abbrev pub AreRowsButMarks : List (List ℕ) → List Row → Type 0
AreRowsButMarks texts rows = AllZip (λ t row. IsRow t (record row { mark = mark_of t })) texts rows

-- The desk is valid: so is what it shows, whose rows are those of the folder's texts, marks aside; the marks of the
-- folder are those of the rows; and a line has room for two bytes
pub record IsDesk (desk : Desk) : Type 0 where
  pub shown : IsShown desk.shown
  pub rows : AreRowsButMarks (texts_of desk.folder.folder) desk.shown.rows
  pub marks : desk.folder.marks ≡ map (λ row. row.mark) desk.shown.rows
  pub width : 2 ≤ desk.places.width

-- the text of message n, numbered from 1
abbrev pub message_text : Desk → ℕ → List ℕ
message_text desk n = text_at (texts_of desk.folder.folder) n

-- n is the number of a message
abbrev pub IsMessageOf : Shown → ℕ → Type 0
IsMessageOf shown n = (1 ≤ n) × (n ≤ length shown.rows)

-- if a command's steps make a message current, it is one, or none
abbrev pub IsWithin : {E : Type 0} → Desk → Result Steps E → Type 0
IsWithin desk result = IfOk result (λ steps. IfSome steps.effects.current (λ n. n ≤ length desk.shown.rows))
