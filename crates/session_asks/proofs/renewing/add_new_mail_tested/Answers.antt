use Rattle.host_port.proofs.RanLemmas.{Ran-none}
use Rattle.std.specs.declared.option.Option.TheVariants.{None}
use Rattle.session_asks.specs.Renewing.{renews}
use Rattle.session_state.proofs.MemoryLemmas.{out-of-memory}
use Rattle.session_asks.proofs.RenewingLemmas.{folder-name}
use Rattle.session_asks.proofs.renewing.add_new_mail_tested.Goals as goal

pub load_again-requires-clause-file : goal.load_again-requires-clause-file
load_again-requires-clause-file g c =
    rw (c.bytes-3.ensures, c.in_ok-file.ensures, c.bytes.ensures, c.bytes-2.ensures) (folder-name c.args.state.now c.requires.name)

pub returns-clause-ran : goal.returns-clause-ran
returns-clause-ran g c = rw (c.bytes-3.ensures, c.in_ok-file.ensures, c.bytes.ensures, c.bytes-2.ensures) at c.load_again.ensures.ran

pub returns-in_err-file-clause-ran : goal.returns-in_err-file-clause-ran
returns-in_err-file-clause-ran g c = Ran-none (out-of-memory (renews c.args.state.now None) _ c.from_residual.result c.from_residual.ensures.1)
