use Rattle.host_port.proofs.RanLemmas.{Ran-none}
use Rattle.session_state.proofs.MemoryLemmas.{out-of-memory}
use Rattle.mailx_session.specs.Leaving.{leaving}
use Rattle.mailx_session.proofs.LeavingLemmas.{quit-brings-none}
use Rattle.mailx_session.proofs.leaving.leave.Goals as goal

pub returns-clause-ran : goal.returns-clause-ran
returns-clause-ran g c = rw c.in_ok-steps.ensures.steps at c.leave_by.ensures.ran

pub returns-clause-stays : goal.returns-clause-stays
returns-clause-stays g c = (rw c.in_ok-steps.ensures.steps at c.leave_by.ensures.quiet) (quit-brings-none c.args.state.now.desk)

pub returns-in_err-steps-clause-ran : goal.returns-in_err-steps-clause-ran
returns-in_err-steps-clause-ran g c = Ran-none (out-of-memory (leaving c.args.state.now) _ c.from_residual.result c.from_residual.ensures.1)
