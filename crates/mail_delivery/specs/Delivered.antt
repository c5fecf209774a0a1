-- The text that a delivery puts into each mailbox.
use Rattle.std.specs.Prelude.{ℕ, List, ◌++◌}
use Rattle.std.specs.List.{flat_map}
use Rattle.mail_text.specs.Lines.{with_feed}
use Rattle.mail_dates.specs.declared.moment.Moment.{Moment}
use Rattle.mbox_scan.specs.Mailbox.{trimmed}
use Rattle.draft_text.specs.Texts.{quoted_line, opening_line}

-- lines as a mailbox has them: with `>` before each that begins with `From `
abbrev pub quoted_lines : List (List ℕ) → List ℕ
quoted_lines lines = flat_map (λ line. with_feed (quoted_line line)) lines

-- the From line of the sender and the moment, and then lines, without line feeds at the end
unfoldable pub delivered : List ℕ → List (List ℕ) → Moment → List ℕ
delivered sender lines m = trimmed (with_feed (opening_line sender m) ++ quoted_lines lines)
