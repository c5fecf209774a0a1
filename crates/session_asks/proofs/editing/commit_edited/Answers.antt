use Rattle.std.proofs.Common.{refl}
use Rattle.host_port.proofs.RanLemmas.{Ran-then, Ran-map}
use Rattle.session_play.specs.Steps.{On}
use Rattle.session_play.proofs.PlayLemmas.{goes-then}
use Rattle.command_desk.specs.Effects.{effect}
use Rattle.session_state.specs.Saving.{saved}
use Rattle.session_asks.specs.Edited.{laid_as}
use Rattle.session_asks.specs.Editing.{told}
use Rattle.session_asks.proofs.AskLemmas.{done-on}
use Rattle.session_asks.proofs.EditingLemmas.{told-off}
use Rattle.session_asks.proofs.SourcingLemmas.{same-desk}
use Rattle.session_asks.proofs.editing.commit_edited.Goals as goal

pub returns-then-all_done-clause-ran : goal.returns-then-all_done-clause-ran
returns-then-all_done-clause-ran g c =
    let s = c.args.state.now in
    let desk = effect (laid_as s.desk c.args.n c.args.edited) c.args.edited.effects in
    let on = done-on c.commit-asked.result (cc (c.all_done.ensures, c.if-all_done.true)) in
    Ran-then (goes-then (saved s c.args.changes) (told c.args.reply.now desk) (On s) _) (rw on at c.commit-asked.ensures.ran) c.install_and_say.ensures.ran

pub returns-else-all_done-clause-ran : goal.returns-else-all_done-clause-ran
returns-else-all_done-clause-ran g c =
    let s = c.args.state.now in
    let desk = effect (laid_as s.desk c.args.n c.args.edited) c.args.edited.effects in
    Ran-map (told-off s c.args.changes c.args.reply.now desk c.commit-asked.result (cc (c.all_done.ensures, c.if-all_done.false))) c.commit-asked.ensures.ran

pub returns-else-all_done-clause-desk : goal.returns-else-all_done-clause-desk
returns-else-all_done-clause-desk g c = same-desk c.args.state.now c.args.state.now c.commit-asked.result refl
