use Rattle.std.proofs.Common.{◌*◌, length, ap, arith}
use Rattle.message_list.proofs.ViewLemmas.{order_length}
use Rattle.show_commands.proofs.paging.turned.Goals.{in_default-via-in-Some+else-start-items, in_default-via-in_default}
use Rattle.show_commands.proofs.paging.turned.Goals as goal
use Rattle.show_commands.proofs.PageLemmas.{turned-past, far}

pub returns-in_default-clause-means : goal.returns-in_default-clause-means
returns-in_default-clause-means c = elim c.in_default.branch [
  | in_default-via-in-Some+else-start-items w ↦
      let is = w.in-Some.ensures.1 in
      let seen = ap length w.items.ensures in
      turned-past c.args.desk.now c.args.page c.args.size c.fault.result (omega (arith, is, seen, w.if-start-items.false)) c.fault.ensures
  | in_default-via-in_default w ↦
      let long = order_length c.args.desk.now.shown c.requires.shown in
      let few = c.requires.shown.few in
      let not_small = far (c.args.page * c.args.size) w.in_default.ensures in
      turned-past c.args.desk.now c.args.page c.args.size c.fault.result (omega arith) c.fault.ensures
]
