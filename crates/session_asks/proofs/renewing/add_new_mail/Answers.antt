use Rattle.host_port.proofs.RanLemmas.{Ran-none}
use Rattle.session_asks.specs.Renewing.{folder_fault, renews}
use Rattle.session_state.proofs.MemoryLemmas.{out-of-memory}
use Rattle.session_asks.proofs.renewing.add_new_mail.Goals as goal

pub returns-in_err-line-clause-ran : goal.returns-in_err-line-clause-ran
returns-in_err-line-clause-ran g c = Ran-none (out-of-memory (renews c.args.state.now (folder_fault c.args.state.now)) _ c.from_residual.result c.from_residual.ensures.1)
