use Rattle.host_port.proofs.RanLemmas.{Ran-none}
use Rattle.session_state.proofs.MemoryLemmas.{out-of-memory}
use Rattle.mailx_session.specs.Startup.{startup_play}
use Rattle.mailx_session.proofs.startup.load_startup.Goals as goal

pub returns-in_err-first-clause-ran : goal.returns-in_err-first-clause-ran
returns-in_err-first-clause-ran g c = Ran-none (out-of-memory (startup_play c.args.state.now c.args.name.now) _ c.from_residual.result c.from_residual.ensures.1)
