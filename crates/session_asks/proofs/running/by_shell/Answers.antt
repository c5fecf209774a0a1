use Rattle.host_port.proofs.RanLemmas.{Ran-none}
use Rattle.session_play.specs.Play.{Ask, Ret}
use Rattle.session_state.proofs.MemoryLemmas.{out-of-memory}
use Rattle.session_asks.specs.Running.{by_shell}
use Rattle.session_asks.proofs.running.by_shell.Goals as goal

pub returns-in-Ok-clause-ran : goal.returns-in-Ok-clause-ran
returns-in-Ok-clause-ran g c = rw (c.bytes.ensures, c.items.ensures, c.in_ok-args.ensures) at c.in-Ok.ensures.ran

pub returns-clause-ran : goal.returns-clause-ran
returns-clause-ran g c = rw (c.bytes.ensures, c.items.ensures, c.in_ok-args.ensures, c.in-Err.ensures.only_memory) at c.in-Err.ensures.ran

pub returns-in_err-args-clause-ran : goal.returns-in_err-args-clause-ran
returns-in_err-args-clause-ran g c = Ran-none (out-of-memory (Ask (by_shell c.args.desk.now c.args.command.now c.args.input.now) Ret) _ c.from_residual.result c.from_residual.ensures.1)
