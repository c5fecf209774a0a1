-- The messages of a folder as a session shows them.
use Rattle.std.specs.Prelude.{◌≡◌, ◌≤◌, length, All, IfSome}
use Rattle.std.specs.List.{range_with_len}
use Rattle.std.specs.List.Sorted.{IsPermutation}
use Rattle.mbox_scan.specs.Mailbox.{message_limit}
use Rattle.mail_dates.specs.Clock.{IsInYears}
use Rattle.message_state.specs.declared.shown.Shown.{Shown}

-- The value is valid: it has at most 1,000,000 rows; the order holds each number from 1 to their count once, and each place
-- of it has a depth; the current message, if there is one, is among them; each moment lies in the years 0 to 9999
pub record IsShown (shown : Shown) : Type 0 where
  pub few : length shown.rows ≤ message_limit
  pub order : IsPermutation (range_with_len 1 (length shown.rows)) shown.order
  pub depths : length shown.depth ≡ length shown.order
  pub current : shown.current ≤ length shown.rows
  pub years : All (λ row. IfSome row.moment IsInYears) shown.rows
