use Rattle.std.proofs.Common.{◌≡◌, ◌++◌}
use Rattle.message_state.specs.declared.mark.Standing.TheVariants.{Live, Dead}
use Rattle.message_state.specs.LiveRows.{AreWithout}
use Rattle.message_state.proofs.row_list.RowList.add.Given as goal

abbrev pub invariant-loop-row : goal.invariant-loop-row
invariant-loop-row l = (l.self-inside.rows ++ l.row-iterator.rest.items ≡ l.fn.self ++ l.fn.more)
    × AreWithout Live l.self-inside.dead.items l.self-inside.rows × AreWithout Dead l.self-inside.live.items l.self-inside.rows
