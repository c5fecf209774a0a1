use Rattle.host_port.proofs.RanLemmas.{Ran-then}
use Rattle.mail_delivery.proofs.StepLemmas.{carried, caused-since}
use Rattle.mail_delivery.proofs.delivery.do_request.Goals as goal

pub returns-in-Ok-clause-ran : goal.returns-in-Ok-clause-ran
returns-in-Ok-clause-ran g c =
    let request = c.args.request.now in
    let env = c.args.env.now in
    Ran-then (carried request env c.in-Ok.body c.put.result) (c.in-Ok.ensures.ran request env) c.put.ensures.ran

pub returns-in-Err-clause-ran : goal.returns-in-Err-clause-ran
returns-in-Err-clause-ran g c = c.in-Err.ensures.ran c.args.request.now c.args.env.now

pub returns-in-Ok-clause-cause : goal.returns-in-Ok-clause-cause
returns-in-Ok-clause-cause g c =
    caused-since (g.H.Host.world.counts c.args.host.now) (g.H.Host.world.counts c.take_body.new.host) (g.H.Host.world.counts c.put.new.host) c.put.result
    (c.in-Ok.ensures.ran c.args.request.now c.args.env.now).never_fall c.put.ensures.cause
