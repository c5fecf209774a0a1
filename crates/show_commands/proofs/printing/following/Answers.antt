use Rattle.message_list.proofs.ViewLemmas.{in_base-message}
use Rattle.message_list.specs.declared.list.Purpose.TheVariants.{Live}
use Rattle.message_list.specs.Places.{in_base, after_message}
use Rattle.command_desk.proofs.DeskLemmas.{found-message}
use Rattle.show_commands.proofs.printing.following.Goals as goal

pub returns-clause-message : goal.returns-clause-message
returns-clause-message c =
    let shown = c.args.desk.now.shown in
    found-message shown (in_base shown Live) (after_message shown shown.current) c.next_live.result (in_base-message shown Live) c.next_live.ensures
