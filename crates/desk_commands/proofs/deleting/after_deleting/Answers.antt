use Rattle.std.specs.declared.option.Option.TheVariants.{Some}
use Rattle.message_list.proofs.ViewLemmas.{in_base-message}
use Rattle.message_list.specs.declared.list.Purpose.TheVariants.{Live}
use Rattle.message_list.specs.Places.{in_base, after_message, before_message}
use Rattle.desk_commands.specs.Deleting.{is_left}
use Rattle.command_desk.proofs.DeskLemmas.{found-message, if-ok}
use Rattle.desk_commands.proofs.deleting.after_deleting.Goals as goal
use Rattle.desk_commands.proofs.LeftLemmas.{left-message}

pub returns-in-Some-clause-message : goal.returns-in-Some-clause-message
returns-in-Some-clause-message c =
    let shown = c.args.shown.now in
    found-message shown (in_base shown Live) (after_message shown c.last_message-last.result) (Some c.in-Some.n) (in_base-message shown Live) c.in-Some.ensures

pub returns-in-None-clause-message : goal.returns-in-None-clause-message
returns-in-None-clause-message c =
    let shown = c.args.shown.now in
    if-ok c.last_left.result (λ n is. found-message shown (is_left shown c.args.numbers.now) (before_message shown c.last_message-last.result) n
    (left-message shown c.args.numbers.now) is) c.last_left.ensures
