use Rattle.host_port.proofs.RanLemmas.{Ran-none}
use Rattle.session_state.proofs.MemoryLemmas.{out-of-memory}
use Rattle.mailx_session.specs.Drafting.{needed}
use Rattle.mailx_session.proofs.drafting.do_need.Goals as goal

pub returns-in-Put-clause-ran : goal.returns-in-Put-clause-ran
returns-in-Put-clause-ran g c = rw c.in-Put.is (rw c.bytes-in-Put.ensures at c.add_to_file.ensures.ran)

pub returns-in_err-first-in_default-clause-ran : goal.returns-in_err-first-in_default-clause-ran
returns-in_err-first-in_default-clause-ran g c = Ran-none (out-of-memory (needed c.args.state.now c.args.need) _ c.from_residual.result c.from_residual.ensures.1)
