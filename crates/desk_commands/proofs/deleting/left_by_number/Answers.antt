use Rattle.std.proofs.Common.{sym}
use Rattle.desk_commands.proofs.deleting.left_by_number.Goals as goal
use Rattle.desk_commands.proofs.LeftLemmas.{left-found, left-none}

pub returns-then-not-has : goal.returns-then-not-has
returns-then-not-has c =
    let before = c.loop-row.invariant in
    left-found c.args.shown.now c.requires.shown c.requires.by_number c.args.among.now c.args.last c.loop-row.end c.in-Some.row c.requires.message.1
    before.0 before.1 c.in-Some.ensures (sym c.if-not-has.ensures)

pub returns : goal.returns
returns c =
    let before = c.loop-row.invariant in
    left-none c.args.shown.now c.requires.shown c.requires.by_number c.args.among.now c.args.last c.loop-row.end c.requires.message.1 before.0 before.1 c.in_default.ensures
