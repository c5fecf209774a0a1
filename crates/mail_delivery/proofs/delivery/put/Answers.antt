use Rattle.std.proofs.Common.{refl, codes}
use Rattle.host_port.proofs.RanLemmas.{Ran-then, Ran-map}
use Rattle.mailx_vars.specs.Environment.{variable}
use Rattle.mail_delivery.proofs.StepLemmas.{timed, untimed, caused-since}
use Rattle.mail_delivery.proofs.delivery.put.Goals as goal

pub returns-in-Ok-clause-ran : goal.returns-in-Ok-clause-ran
returns-in-Ok-clause-ran g c =
    let request = c.args.request.now in
    let env = c.args.env.now in
    Ran-then (λ es fs goes more. timed request env c.in-Ok.m c.args.body c.put_at.result (variable env.pairs (codes "TZ")) es fs (λ lines. refl) goes more)
    (rw (c.variable.ensures, c.items.ensures) at c.in-Ok.ensures.ran) c.put_at.ensures.ran

pub returns-in-Err-clause-ran : goal.returns-in-Err-clause-ran
returns-in-Err-clause-ran g c =
    let request = c.args.request.now in
    let env = c.args.env.now in
    Ran-map (λ es goes. untimed request env c.in-Err.cause c.args.body (variable env.pairs (codes "TZ")) es (λ lines. refl) goes)
    (rw (c.variable.ensures, c.items.ensures) at c.in-Err.ensures.ran)

pub returns-in-Ok-clause-cause : goal.returns-in-Ok-clause-cause
returns-in-Ok-clause-cause g c =
    caused-since (g.H.Host.world.counts c.args.host.now) (g.H.Host.world.counts c.now.new.host) (g.H.Host.world.counts c.put_at.new.host) c.put_at.result
    c.in-Ok.ensures.ran.never_fall c.put_at.ensures.cause
