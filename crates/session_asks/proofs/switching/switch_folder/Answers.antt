use Rattle.host_port.proofs.RanLemmas.{Ran-none}
use Rattle.session_asks.specs.Switching.{open_fault, switches}
use Rattle.session_state.proofs.MemoryLemmas.{out-of-memory}
use Rattle.session_asks.proofs.switching.switch_folder.Goals as goal

pub returns-in_err-line-clause-ran : goal.returns-in_err-line-clause-ran
returns-in_err-line-clause-ran g c = Ran-none
    (out-of-memory (switches c.args.state.now c.args.name.now c.args.changes c.args.reply.now
    (open_fault c.args.state.now c.args.name.now c.args.changes)) _ c.from_residual.result c.from_residual.ensures.1)
