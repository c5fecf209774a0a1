use Rattle.std.proofs.Common.{Ok}
use Rattle.host_port.proofs.RanLemmas.{Ran-none, Ran-map}
use Rattle.session_asks.specs.Switching.{switched_to}
use Rattle.session_state.proofs.MemoryLemmas.{out-of-memory}
use Rattle.session_asks.proofs.SwitchingLemmas.{know-switched}
use Rattle.session_asks.proofs.switching.switch_to.Goals as goal

pub commit_and_switch-requires-clause-size : goal.commit_and_switch-requires-clause-size
commit_and_switch-requires-clause-size g c = c.in_ok-opening.ensures.0.size

pub commit_and_switch-requires-clause-some : goal.commit_and_switch-requires-clause-some
commit_and_switch-requires-clause-some g c = c.in_ok-opening.ensures.0.some

pub commit_and_switch-requires-clause-desk : goal.commit_and_switch-requires-clause-desk
commit_and_switch-requires-clause-desk g c = c.in_ok-opening.ensures.0.valid

pub returns-clause-ran : goal.returns-clause-ran
returns-clause-ran g c =
    Ran-map (know-switched c.args.state.now c.args.name.now c.args.folder c.args.changes c.args.reply.now _ _ _ c.in_ok-opening.ensures.0 c.in_ok-opening.ensures.1) c.commit_and_switch.ensures.ran

pub returns-in_err-opening-clause-ran : goal.returns-in_err-opening-clause-ran
returns-in_err-opening-clause-ran g c = Ran-none
    (out-of-memory (switched_to c.args.state.now c.args.name.now c.args.changes c.args.reply.now (Ok c.args.folder)) _ c.from_residual.result c.from_residual.ensures.1)
