use Rattle.std.proofs.lemmas.Result.{err_from_is_err_and}
use Rattle.host_port.proofs.RanLemmas.{Ran-then, Ran-map}
use Rattle.session_play.specs.Steps.{in_order}
use Rattle.session_play.proofs.PlayLemmas.{goes-then, goes-cut}
use Rattle.session_asks.specs.Asks.{asked}
use Rattle.session_state.specs.Answers.{after_asks}
use Rattle.mailx_session.specs.Leaving.{left_by}
use Rattle.mailx_session.proofs.leaving.leave_by.Goals as goal

pub returns-in_err-asked-clause-ran : goal.returns-in_err-asked-clause-ran
returns-in_err-asked-clause-ran g c =
    let p = err_from_is_err_and c.from_residual.result c.from_residual.ensures.1 in
    rw (p.1, p.2) (Ran-map (goes-cut (in_order asked c.args.state.now c.args.asks) left_by _) c.in_err-asked.ensures.ran)

pub returns-clause-ran : goal.returns-clause-ran
returns-clause-ran g c =
    let s = c.args.state.now in
    let t = c.do_asks.new.state in
    Ran-then (goes-then (in_order asked s c.args.asks) left_by (after_asks t c.in_ok-asked.asked) _) c.in_ok-asked.ensures.ran c.end_by.ensures.ran
