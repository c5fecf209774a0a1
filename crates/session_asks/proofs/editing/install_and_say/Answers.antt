use Rattle.host_port.proofs.RanLemmas.{Ran-none}
use Rattle.session_play.specs.Steps.{On}
use Rattle.command_desk.specs.Effects.{effect}
use Rattle.session_state.specs.States.{with_desk}
use Rattle.session_state.proofs.MemoryLemmas.{out-of-memory}
use Rattle.session_asks.specs.Edited.{laid_as}
use Rattle.session_asks.specs.Editing.{told}
use Rattle.session_asks.proofs.SourcingLemmas.{brings-desk}
use Rattle.session_asks.proofs.editing.install_and_say.Goals as goal

pub returns-clause-ran : goal.returns-clause-ran
returns-clause-ran g c =
    let s = c.args.state.now in
    let desk = effect (laid_as s.desk c.args.n c.args.edited) c.args.edited.effects in
    rw c.in_ok-install_text.ensures.ok (c.say_last.ensures.ran (with_desk s desk))

pub returns-clause-brings : goal.returns-clause-brings
returns-clause-brings g c = brings-desk c.args.state.now c.install_text.new.desk

pub returns-clause-desk : goal.returns-clause-desk
returns-clause-desk g c = c.say_last.ensures.desk c.args.state.now (with_desk c.args.state.now c.install_text.new.desk)

pub returns-in_err-install_text-clause-ran : goal.returns-in_err-install_text-clause-ran
returns-in_err-install_text-clause-ran g c =
    let s = c.args.state.now in
    let desk = effect (laid_as s.desk c.args.n c.args.edited) c.args.edited.effects in
    Ran-none (out-of-memory (told c.args.reply.now desk (On s)) _ c.from_residual.result c.from_residual.ensures.1)

pub returns-in_err-install_text-clause-brings : goal.returns-in_err-install_text-clause-brings
returns-in_err-install_text-clause-brings g c = brings-desk c.args.state.now c.install_text.new.desk
