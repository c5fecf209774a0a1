use Rattle.std.proofs.Common.{refl}
use Rattle.host_port.proofs.RanLemmas.{Ran-none}
use Rattle.session_play.proofs.PlayLemmas.{at-memory}
use Rattle.mailx_top.specs.Meaning.{with_name}
use Rattle.mailx_top.proofs.open.open_name.Goals as goal

pub open_placed-requires : goal.open_placed-requires
open_placed-requires g c = rw (c.bytes-in-Ok.ensures, c.in-Ok.ensures, c.bytes.ensures, c.state.ensures.state) refl

pub returns-in-Err-clause-ran : goal.returns-in-Err-clause-ran
returns-in-Err-clause-ran g c = Ran-none (at-memory (with_name c.args.session.now c.args.options.now c.args.name.now))
