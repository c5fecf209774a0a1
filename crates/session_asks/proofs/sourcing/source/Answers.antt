use Rattle.host_port.proofs.RanLemmas.{Ran-none}
use Rattle.session_asks.specs.Sourcing.{source_fault, sourced}
use Rattle.session_state.proofs.MemoryLemmas.{out-of-memory}
use Rattle.session_asks.proofs.sourcing.source.Goals as goal

pub returns-in_err-line-clause-ran : goal.returns-in_err-line-clause-ran
returns-in_err-line-clause-ran g c = Ran-none
    (out-of-memory (sourced c.args.state.now c.args.name.now (source_fault c.args.state.now c.args.name.now)) _ c.from_residual.result c.from_residual.ensures.1)
