use Rattle.std.proofs.Common.{refl}
use Rattle.host_port.proofs.RanLemmas.{Ran-then, Ran-map}
use Rattle.session_play.specs.Play.{again, last, cut}
use Rattle.mailx_top.proofs.EndLemmas.{caused-since, opens-none, start-unopened, start-end}
use Rattle.mailx_top.proofs.top.play_session.Goals as goal

pub returns-in-Ok-None-clause-ran : goal.returns-in-Ok-None-clause-ran
returns-in-Ok-None-clause-ran g c =
    Ran-then (λ es fs goes loop. again es fs refl goes loop)
    (rw c.in-Ok-None.field-0-is at (c.in-Ok-None.ensures.ran c.args.env.now c.requires)) c.prepare_session.ensures.ran

pub returns-in-Ok-Some-clause-ran : goal.returns-in-Ok-Some-clause-ran
returns-in-Ok-Some-clause-ran g c = Ran-map (λ es x. last x) (rw c.in-Ok-Some.field-0-is at (c.in-Ok-Some.ensures.ran c.args.env.now c.requires))

pub returns-in-Err-clause-ran : goal.returns-in-Err-clause-ran
returns-in-Err-clause-ran g c = Ran-map (λ es x. cut x) (c.in-Err.ensures.ran c.args.env.now c.requires)

pub returns-in-Ok-None-clause-bad_name : goal.returns-in-Ok-None-clause-bad_name
returns-in-Ok-None-clause-bad_name g c = λ bad. opens-none _ (c.prepare_session.ensures.bad_name bad)

pub returns-in-Ok-Some-clause-bad_name : goal.returns-in-Ok-Some-clause-bad_name
returns-in-Ok-Some-clause-bad_name g c = λ bad. start-unopened _ (rw c.in-Ok-Some.field-0-is at c.in-Ok-Some.ensures.stops)

pub returns-in-Ok-Some-clause-plain : goal.returns-in-Ok-Some-clause-plain
returns-in-Ok-Some-clause-plain g c = start-end _ (rw c.in-Ok-Some.field-0-is at c.in-Ok-Some.ensures.stops)

pub returns-in-Ok-None-clause-cause : goal.returns-in-Ok-None-clause-cause
returns-in-Ok-None-clause-cause g c =
    caused-since (g.H.Host.world.counts c.args.host.now) (g.H.Host.world.counts c.recover_unless_sending.new.host) (g.H.Host.world.counts c.prepare_session.new.host) c.prepare_session.result
    (c.in-Ok-None.ensures.ran c.args.env.now c.requires).never_fall c.prepare_session.ensures.cause
