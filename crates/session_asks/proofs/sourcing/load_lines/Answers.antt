use Rattle.host_port.proofs.RanLemmas.{Ran-none}
use Rattle.std.specs.declared.option.Option.TheVariants.{None}
use Rattle.session_asks.specs.Sourcing.{sourced}
use Rattle.session_state.proofs.MemoryLemmas.{out-of-memory}
use Rattle.session_asks.proofs.SourcingLemmas.{source-name, source-few}
use Rattle.session_asks.proofs.sourcing.load_lines.Goals as goal

pub load_source-requires-clause-file : goal.load_source-requires-clause-file
load_source-requires-clause-file g c = rw (c.bytes-2.ensures, c.in_ok-file.ensures, c.bytes.ensures) (source-name c.args.state.now c.args.name.now c.requires)

pub load_source-requires-clause-few : goal.load_source-requires-clause-few
load_source-requires-clause-few g c = source-few c.args.state.now c.args.name.now c.requires

pub returns-clause-ran : goal.returns-clause-ran
returns-clause-ran g c = rw (c.bytes-2.ensures, c.in_ok-file.ensures, c.bytes.ensures) at c.load_source.ensures.ran

pub returns-in_err-file-clause-ran : goal.returns-in_err-file-clause-ran
returns-in_err-file-clause-ran g c = Ran-none (out-of-memory (sourced c.args.state.now c.args.name.now None) _ c.from_residual.result c.from_residual.ensures.1)
