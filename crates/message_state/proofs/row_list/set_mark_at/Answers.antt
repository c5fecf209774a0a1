use Rattle.std.proofs.Common.{List, subst}
use Rattle.message_state.specs.declared.row.Row.{Row}
use Rattle.message_state.specs.declared.mark.Standing.TheVariants.{Live, Dead}
use Rattle.message_state.specs.LiveRows.{IsLookedAt}
use Rattle.message_state.proofs.LiveLemmas.{without-again}
use Rattle.message_state.proofs.row_list.set_mark_at.Goals as goal

pub returns-then-k-items-clause-dead : goal.returns-then-k-items-clause-dead
returns-then-k-items-clause-dead c =
    let flags = c.look_again.new.flags.items in
    without-again Live c.args.rows.now c.args.dead.now.items flags c.args.k (record c.get_mut.result.now { mark = c.args.mark }) c.requires.dead
    (subst (λ (rows : List Row). IsLookedAt Live rows c.args.k c.args.dead.now.items flags) c.items-then-k-items.ensures c.look_again.ensures)

pub returns-then-k-items-clause-live : goal.returns-then-k-items-clause-live
returns-then-k-items-clause-live c =
    let flags = c.look_again-then-k-items.new.flags.items in
    without-again Dead c.args.rows.now c.args.live.now.items flags c.args.k (record c.get_mut.result.now { mark = c.args.mark }) c.requires.live
    (subst (λ (rows : List Row). IsLookedAt Dead rows c.args.k c.args.live.now.items flags) c.items-then-k-items-2.ensures c.look_again-then-k-items.ensures)
