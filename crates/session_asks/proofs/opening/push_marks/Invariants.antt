use Rattle.std.proofs.Common.{◌≡◌, ◌++◌, take, map}
use Rattle.message_state.specs.declared.row.Row.{Row}
use Rattle.session_asks.proofs.opening.push_marks.Given as goal

abbrev pub invariant-loop-row : goal.invariant-loop-row
invariant-loop-row l = l.marks ≡ l.fn.marks ++ map (λ (row : Row). row.mark) (take l.row-index l.rows)
