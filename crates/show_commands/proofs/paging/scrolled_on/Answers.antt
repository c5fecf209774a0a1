use Rattle.std.proofs.Common.{◌+◌, arith}
use Rattle.message_list.proofs.ViewLemmas.{order_length}
use Rattle.std.proofs.Math.Nat.{le-mul_of_pos_right}
use Rattle.show_commands.proofs.paging.scrolled_on.Goals as goal
use Rattle.show_commands.proofs.PageLemmas.{turned-past, far}

pub returns-in-None-clause-means : goal.returns-in-None-clause-means
returns-in-None-clause-means c =
    let long = order_length c.args.desk.now.shown c.requires.desk.shown in
    let few = c.requires.desk.shown.few in
    let page = c.args.desk.now.page + 1 in
    let great = far page c.in-None.ensures in
    let more = le-mul_of_pos_right page c.requires.some in
    turned-past c.args.desk.now page c.args.size c.fault.result (omega arith) c.fault.ensures
