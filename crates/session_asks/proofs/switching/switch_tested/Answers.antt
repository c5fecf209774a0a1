use Rattle.host_port.proofs.RanLemmas.{Ran-none}
use Rattle.std.specs.declared.option.Option.TheVariants.{None}
use Rattle.session_asks.specs.Switching.{switches}
use Rattle.session_state.proofs.MemoryLemmas.{out-of-memory}
use Rattle.session_asks.proofs.SwitchingLemmas.{open-fault-none}
use Rattle.session_asks.proofs.switching.switch_tested.Goals as goal

pub switch_loading-requires-clause-file : goal.switch_loading-requires-clause-file
switch_loading-requires-clause-file g c =
    rw (c.bytes-2.ensures, c.in_ok-file.ensures, c.bytes.ensures) (open-fault-none c.args.state.now c.args.name.now c.args.changes c.requires.names)

pub returns-clause-ran : goal.returns-clause-ran
returns-clause-ran g c = rw (c.bytes-2.ensures, c.in_ok-file.ensures, c.bytes.ensures) at c.switch_loading.ensures.ran

pub returns-in_err-file-clause-ran : goal.returns-in_err-file-clause-ran
returns-in_err-file-clause-ran g c = Ran-none (out-of-memory (switches c.args.state.now c.args.name.now c.args.changes c.args.reply.now None) _ c.from_residual.result c.from_residual.ensures.1)
