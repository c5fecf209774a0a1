-- The lines of a page.
use Rattle.std.specs.Prelude.{◌≡◌, ℕ, List, map, take, drop, Some}
use Rattle.std.specs.List.{Contains}
use Rattle.mail_text.specs.Lines.{HasNoFeed, lines_of}
use Rattle.message_state.specs.declared.row.Row.{Row}
use Rattle.message_state.specs.declared.shown.Shown.{Shown}
use Rattle.message_state.specs.Rows.{IsRow}
use Rattle.message_show.specs.Summary.{page_text, summary, summary_of}

-- the summary line of what is known of a text has no line feed
abbrev pub SummaryIsALine : Type 0
SummaryIsALine = (t : List ℕ) (row : Row) (current number depth width : ℕ) → IsRow t row
    → HasNoFeed (summary_of current number depth (Some row) width)

-- each row is that of some text
abbrev pub AreRows : Shown → Type 0
AreRows shown = (row : Row) → Contains shown.rows row → (t : List ℕ) × IsRow t row

-- the lines of a page are the summary lines of its messages, one each
abbrev pub PageIsLines : Type 0
PageIsLines = (shown : Shown) (start count width : ℕ) → AreRows shown
    → lines_of (page_text shown start count width) ≡ map (λ k. summary shown k width) (take count (drop start shown.order))
