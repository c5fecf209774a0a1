use Rattle.host_port.proofs.RanLemmas.{Ran-then}
use Rattle.mailx_top.specs.Wants.{start_from}
use Rattle.mailx_top.proofs.EndLemmas.{any-env, caused-since}
use Rattle.mailx_top.proofs.top.read_session.Goals as goal

pub returns-in-Ok-clause-ran : goal.returns-in-Ok-clause-ran
returns-in-Ok-clause-ran g c = λ env.
    Ran-then (λ es fs leads loop. leads fs _ loop) (rw c.options.ensures at (c.in-Ok.ensures.ran env (start_from c.args.start))) (c.open_session.ensures.ran env)

pub returns-in-Err-clause-ran : goal.returns-in-Err-clause-ran
returns-in-Err-clause-ran g c = λ env. rw c.options.ensures at (c.in-Err.ensures.ran env (start_from c.args.start))

pub returns-in-Ok-clause-cause : goal.returns-in-Ok-clause-cause
returns-in-Ok-clause-cause g c =
    caused-since (g.H.Host.world.counts c.args.host.now) (g.H.Host.world.counts c.read_files.new.host) (g.H.Host.world.counts c.open_session.new.host) c.open_session.result
    (c.in-Ok.ensures.ran any-env (start_from c.args.start)).never_fall c.open_session.ensures.cause
