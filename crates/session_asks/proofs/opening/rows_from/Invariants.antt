use Rattle.std.proofs.Common.{◌≤◌, take, drop}
use Rattle.std.specs.Prelude.{All, IfSome}
use Rattle.mail_dates.specs.Clock.{IsInYears}
use Rattle.mbox_scan.specs.Mailbox.{texts_of}
use Rattle.message_state.specs.declared.row.Row.{Row}
use Rattle.session_play.specs.Knowing.{AreRows}
use Rattle.session_asks.proofs.opening.rows_from.Given as goal

abbrev pub invariant-loop-k : goal.invariant-loop-k
invariant-loop-k l = record {
  rows : AreRows (drop l.first (take l.k (texts_of l.folder))) l.rows;
  years : All (λ (row : Row). IfSome row.moment IsInYears) l.rows;
  behind : l.first ≤ l.k;
}
