use Rattle.std.proofs.Common.{refl}
use Rattle.host_port.proofs.RanLemmas.{Ran-then, Ran-map}
use Rattle.session_play.specs.Steps.{On}
use Rattle.session_play.proofs.PlayLemmas.{goes-then}
use Rattle.session_state.specs.Saving.{saved}
use Rattle.session_asks.specs.Switching.{laid_as, announced}
use Rattle.session_asks.proofs.AskLemmas.{done-on}
use Rattle.session_asks.proofs.SourcingLemmas.{same-desk}
use Rattle.session_asks.proofs.SwitchingLemmas.{announced-off}
use Rattle.session_asks.proofs.switching.commit_and_switch.Goals as goal

pub returns-then-all_done-clause-ran : goal.returns-then-all_done-clause-ran
returns-then-all_done-clause-ran g c =
    let s = c.args.state.now in
    let desk = laid_as s.desk c.args.opening c.args.previous in
    let on = done-on c.commit-asked.result (cc (c.all_done.ensures, c.if-all_done.true)) in
    Ran-then (goes-then (saved s c.args.changes) (announced c.args.reply.now desk) (On s) _) (rw on at c.commit-asked.ensures.ran) c.install_and_announce.ensures.ran

pub returns-else-all_done-clause-ran : goal.returns-else-all_done-clause-ran
returns-else-all_done-clause-ran g c =
    let s = c.args.state.now in
    let desk = laid_as s.desk c.args.opening c.args.previous in
    Ran-map (announced-off s c.args.changes c.args.reply.now desk c.commit-asked.result (cc (c.all_done.ensures, c.if-all_done.false))) c.commit-asked.ensures.ran

pub returns-else-all_done-clause-desk : goal.returns-else-all_done-clause-desk
returns-else-all_done-clause-desk g c = same-desk c.args.state.now c.args.state.now c.commit-asked.result refl
