use Rattle.std.proofs.Common.{◌≡◌, ℕ, false, ◌<◌}
use Rattle.desk_commands.specs.Deleting.{is_left}
use Rattle.desk_commands.proofs.deleting.left_by_number.Given as goal

abbrev pub invariant-loop-row : goal.invariant-loop-row
invariant-loop-row l = (l.end < l.last) × ((m : ℕ) → l.end < m → m < l.last → is_left l.shown l.among m ≡ false)

abbrev pub decreases-loop-row : goal.decreases-loop-row
decreases-loop-row l = l.end
