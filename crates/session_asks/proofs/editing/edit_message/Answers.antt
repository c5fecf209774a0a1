use Rattle.host_port.proofs.RanLemmas.{Ran-none}
use Rattle.session_state.proofs.MemoryLemmas.{out-of-memory}
use Rattle.session_asks.specs.Editing.{editing}
use Rattle.session_asks.proofs.editing.edit_message.Goals as goal

pub returns-clause-ran : goal.returns-clause-ran
returns-clause-ran g c = rw (c.bytes-2.ensures, c.in_ok-name.ensures, c.bytes.ensures, c.bytes-3.ensures, c.in_ok-text.ensures) at c.run_on.ensures.ran

pub returns-in_err-name-clause-ran : goal.returns-in_err-name-clause-ran
returns-in_err-name-clause-ran g c = Ran-none (out-of-memory (editing c.args.state.now c.args.n c.args.command.now) _ c.from_residual.result c.from_residual.ensures.1)

pub returns-in_err-text-clause-ran : goal.returns-in_err-text-clause-ran
returns-in_err-text-clause-ran g c = Ran-none (out-of-memory (editing c.args.state.now c.args.n c.args.command.now) _ c.from_residual-in_err-text.result c.from_residual-in_err-text.ensures.1)
