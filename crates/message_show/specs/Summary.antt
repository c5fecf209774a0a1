-- Summary lines: what a list of messages shows of each.
use Rattle.std.specs.Prelude.{ℕ, ◌-◌, ◌*◌, min, ◌==◌, List, [], ◌++◌, length, take, drop, replicate, slice_get, slice_index, Option, Some, None, codes, if◌then◌else◌}
use Rattle.std.specs.Fmt.{decimal}
use Rattle.std.specs.List.{flat_map, position_or_len}
use Rattle.mail_text.specs.Lines.{with_feed}
use Rattle.mail_dates.specs.declared.moment.Moment.{Moment}
use Rattle.mail_dates.specs.Printed.{short_date_text}
use Rattle.message_state.specs.declared.mark.Flags.{Flags}
use Rattle.message_state.specs.declared.mark.Mark.{Mark}
use Rattle.message_state.specs.declared.mark.State.{State}
use Rattle.message_state.specs.declared.mark.State.TheVariants.{New, Unread, Read, Deleted, Preserved, Saved, Mboxed}
use Rattle.message_state.specs.declared.row.Row.{Row}
use Rattle.message_state.specs.declared.shown.Shown.{Shown}

-- `n` spaces
unfoldable pub spaces : ℕ → List ℕ
spaces n = replicate n 32

-- a text at the left of a given number of places; a longer one as it is
abbrev pub left_in : ℕ → List ℕ → List ℕ
left_in places text = text ++ spaces (places - length text)

-- a text at the right of a given number of places; a longer one as it is
abbrev pub right_in : ℕ → List ℕ → List ℕ
right_in places text = spaces (places - length text) ++ text

-- the letter of flags, the first of flagged, answered and draft; without a flag this one
abbrev pub flag_letter_or : List ℕ → Flags → List ℕ
flag_letter_or letter flags = if flags.flagged then codes "F" else (if flags.answered then codes "A" else (if flags.draft then codes "T" else letter))

-- the letter of a state; that of a flag goes before it if the message is new, unread or read
abbrev pub letter_by : State → Flags → List ℕ
letter_by New flags = flag_letter_or (codes "N") flags
letter_by Unread flags = flag_letter_or (codes "U") flags
letter_by Read flags = flag_letter_or (codes "R") flags
letter_by Deleted flags = codes "D"
letter_by Preserved flags = codes "P"
letter_by Saved flags = codes "S"
letter_by Mboxed flags = codes "M"

-- the letter of a mark
abbrev pub mark_letter : Mark → List ℕ
mark_letter mark = letter_by mark.state mark.flags

-- the date, or as many spaces
abbrev pub date_column : Option Moment → List ℕ
date_column (Some moment) = short_date_text moment
date_column None = spaces 16

-- two spaces for each step of depth, at most ten steps
abbrev pub steps_column : ℕ → List ℕ
steps_column depth = spaces (2 * min depth 10)

-- the columns before the subject: whether the message is current, the letter of its mark, the number, the author, the date,
-- the size and the steps of depth
unfoldable pub columns : ℕ → ℕ → ℕ → Row → List ℕ
columns current number depth row =
    (if number == current then codes ">" else codes " ")
    ++ mark_letter row.mark
    ++ right_in 4 (decimal number) ++ codes " "
    ++ left_in 18 (take 18 row.texts.shown_author) ++ codes " "
    ++ date_column row.moment ++ codes " "
    ++ right_in 6 (decimal row.size) ++ codes " "
    ++ steps_column depth

-- the columns of a row and its subject, cut to the width less one; nothing if there is no row
abbrev pub summary_of : ℕ → ℕ → ℕ → Option Row → ℕ → List ℕ
summary_of current number depth (Some row) width = take (width - 1) (columns current number depth row ++ row.texts.subject)
summary_of current number depth None width = []

-- the shown messages with another current one, or with none
abbrev pub with_current : Shown → ℕ → Shown
with_current shown current = record shown { current = current }

-- the place of a message in the view, from 0
abbrev pub place_in : List ℕ → ℕ → ℕ
place_in order k = position_or_len (λ n. n == k) order

-- the depth of a message, that of its place
abbrev pub depth_of : Shown → ℕ → ℕ
depth_of shown k = slice_index shown.depth (place_in shown.order k)

-- the summary line of message k, numbered from 1
unfoldable pub summary : Shown → ℕ → ℕ → List ℕ
summary shown k width = summary_of shown.current k (depth_of shown k) (slice_get shown.rows (k - 1)) width

-- the summary lines of these messages in this order, each ended by a line feed
abbrev pub summaries : Shown → List ℕ → ℕ → List ℕ
summaries shown numbers width = flat_map (λ k. with_feed (summary shown k width)) numbers

-- the summary lines of `lines` places of the view from a place on, as far as there are any
abbrev pub page_text : Shown → ℕ → ℕ → ℕ → List ℕ
page_text shown start lines width = summaries shown (take lines (drop start shown.order)) width
