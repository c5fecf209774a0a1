use Rattle.std.proofs.Common.{◌-◌, arith, length, refl}
use Rattle.std.proofs.lemmas.Option.{slice_get_read}
use Rattle.session_asks.proofs.editing.row_at.Goals as goal

pub overflow_sub-result : goal.overflow_sub-result
overflow_sub-result c = c.requires.0

pub bounds-items-n : goal.bounds-items-n
bounds-items-n c = rw c.items.ensures (let message = c.requires in omega (arith, message.0, message.1))

pub returns : goal.returns
returns c =
    let message = c.requires in
    slice_get_read c.args.desk.now.shown.rows (length c.args.desk.now.shown.rows) (c.args.n - 1) c.index-items-n.result refl
    (omega (arith, message.0, message.1)) (rw c.items.ensures at c.index-items-n.is)
