use Rattle.host_port.proofs.RanLemmas.{Ran-map}
use Rattle.session_play.proofs.RecoveryLemmas.{ran-both, recovery-goes, recovery-caused, recovery-cut}
use Rattle.session_play.proofs.recovering.recovery.Goals as goal

pub returns-clause-ran : goal.returns-clause-ran
returns-clause-ran g c = λ token.
    let both = ran-both c.recover.ensures.within (c.recover.ensures.ran token) in
    rw c.recovered.ensures (Ran-map (λ es h. recovery-goes c.args.actor.now token c.recover.result es h) both)

pub returns-clause-cause : goal.returns-clause-cause
returns-clause-cause g c = rw c.recovered.ensures (recovery-caused (g.H.Host.world.counts c.args.host.now) (g.H.Host.world.counts c.recover.new.host) c.recover.result c.recover.ensures.cause)

pub returns-clause-only_disk : goal.returns-clause-only_disk
returns-clause-only_disk g c = rw c.recovered.ensures (recovery-cut c.recover.result)
