use Rattle.std.proofs.Common.{List, subst}
use Rattle.message_state.specs.declared.row.Row.{Row}
use Rattle.message_state.specs.declared.mark.Standing.TheVariants.{Live, Dead}
use Rattle.message_state.specs.LiveRows.{IsLookedAt}
use Rattle.message_state.proofs.LiveLemmas.{without-again}
use Rattle.message_state.proofs.row_list.put_at.Goals as goal

pub returns-clause-dead : goal.returns-clause-dead
returns-clause-dead c =
    let flags = c.look_again.new.flags.items in
    without-again Live c.args.rows.now c.args.dead.now.items flags c.args.k c.replace-was.new.dest c.requires.dead
    (subst (λ (rows : List Row). IsLookedAt Live rows c.args.k c.args.dead.now.items flags) c.items.ensures c.look_again.ensures)

pub returns-clause-live : goal.returns-clause-live
returns-clause-live c =
    let flags = c.look_again-2.new.flags.items in
    without-again Dead c.args.rows.now c.args.live.now.items flags c.args.k c.replace-was.new.dest c.requires.live
    (subst (λ (rows : List Row). IsLookedAt Dead rows c.args.k c.args.live.now.items flags) c.items-2.ensures c.look_again-2.ensures)
