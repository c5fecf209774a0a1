use Rattle.std.proofs.Common.{refl}
use Rattle.session_asks.proofs.editing.row_with.Goals as goal

pub returns-clause-row : goal.returns-clause-row
returns-clause-row c = record { made = c.in_ok-row.row; is_row = c.in_ok-row.ensures.row; old = c.row_at.result.now; there = c.row_at.ensures; is = refl }
