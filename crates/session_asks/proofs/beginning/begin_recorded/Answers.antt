use Rattle.host_port.proofs.RanLemmas.{Ran-none}
use Rattle.session_asks.specs.Beginning.{beginning, file_fault}
use Rattle.session_state.proofs.MemoryLemmas.{out-of-memory}
use Rattle.session_asks.proofs.beginning.begin_recorded.Goals as goal

pub returns-in_err-line-clause-ran : goal.returns-in_err-line-clause-ran
returns-in_err-line-clause-ran g c =
    let s = c.args.state.now in
    Ran-none (out-of-memory (beginning s c.args.draft.now c.args.file.now c.args.current (file_fault s c.args.file.now)) _ c.from_residual.result c.from_residual.ensures.1)
