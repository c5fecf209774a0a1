use Rattle.std.specs.Prelude.{All}
use Rattle.message_list.specs.Places.{after_message}
use Rattle.command_desk.specs.Desks.{IsMessageOf}
use Rattle.command_desk.specs.Selecting.{is_among}
use Rattle.command_desk.proofs.DeskLemmas.{found-message, among-message}
use Rattle.show_commands.proofs.printing.print_following.Goals as goal

pub print_next-requires-2-clause-message : goal.print_next-requires-2-clause-message
print_next-requires-2-clause-message c =
    let shown = c.args.desk.now.shown in
    let ns = c.items.result.now in
    let all : All (IsMessageOf shown) ns = rw c.items.ensures c.in_ok-numbers.ensures.messages in
    found-message shown (is_among ns) (after_message shown shown.current) c.in_ok-n.n (λ n is. among-message shown ns n all is) c.in_ok-n.ensures
