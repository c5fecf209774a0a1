use Rattle.host_port.proofs.RanLemmas.{Ran-map}
use Rattle.mailx_top.proofs.EndLemmas.{caused-line}
use Rattle.mailx_top.proofs.WaitingLemmas.{file-goes}
use Rattle.mailx_top.proofs.startup.read_file.Goals as goal

pub returns-in-Ok-clause-ran : goal.returns-in-Ok-clause-ran
returns-in-Ok-clause-ran g c = λ env start names. Ran-map (λ es goes. file-goes env start c.args.session.now c.args.name.now names c.startup.ensures.before goes) c.in-Ok.ensures.ran

pub returns-in-Err-clause-ran : goal.returns-in-Err-clause-ran
returns-in-Err-clause-ran g c = λ env start names.
    rw c.stop_of.ensures (Ran-map (λ es goes. file-goes env start c.args.session.now c.args.name.now names c.startup.ensures.before goes) c.in-Err.ensures.ran)

pub returns-in-Err-clause-cause : goal.returns-in-Err-clause-cause
returns-in-Err-clause-cause g c = rw c.stop_of.ensures
    (caused-line (Unit {0}) (Unit {0}) (g.H.Host.world.counts c.args.host.now) (g.H.Host.world.counts c.startup.new.host) c.in-Err.error c.in-Err.ensures.cause)
