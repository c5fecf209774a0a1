use Rattle.command_desk.proofs.DeskLemmas.{placed}
use Rattle.show_commands.proofs.paging.start_of_page.Goals as goal

pub returns-in-None-clause-within : goal.returns-in-None-clause-within
returns-in-None-clause-within c = λ message.
    let p = placed c.args.desk.now.shown c.args.n c.requires.desk.shown message in
    absurd (cc (c.in-None.ensures, p.2))
