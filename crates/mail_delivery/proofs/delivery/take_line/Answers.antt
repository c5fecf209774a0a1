use Rattle.host_port.proofs.RanLemmas.{Ran-map}
use Rattle.mail_delivery.proofs.StepLemmas.{line-put, line-over, line-cut, put-caused, put-progress}
use Rattle.mail_delivery.proofs.delivery.take_line.Goals as goal

pub returns-in-Ok-Some-clause-ran : goal.returns-in-Ok-Some-clause-ran
returns-in-Ok-Some-clause-ran g c = λ request env.
    Ran-map (λ es goes. line-put request env c.args.reader.now c.line.new.self c.in-Ok-Some.line c.args.body.now.items _ c.put_line.result es (rw c.bytes.ensures at c.put_line.ensures) goes)
    (rw c.in-Ok-Some.field-0-is at c.in-Ok-Some.ensures.ran)

pub returns-in-Ok-None-clause-ran : goal.returns-in-Ok-None-clause-ran
returns-in-Ok-None-clause-ran g c = λ request env.
    Ran-map (λ es goes. line-over request env c.args.reader.now c.line.new.self c.args.body.now.items es goes) (rw c.in-Ok-None.field-0-is at c.in-Ok-None.ensures.ran)

pub returns-in-Err-clause-ran : goal.returns-in-Err-clause-ran
returns-in-Err-clause-ran g c = λ request env.
    Ran-map (λ es goes. line-cut request env c.args.reader.now c.line.new.self c.in-Err.cause c.args.body.now.items c.args.body.now.items es goes) c.in-Err.ensures.ran

pub returns-in-Ok-Some-clause-cause : goal.returns-in-Ok-Some-clause-cause
returns-in-Ok-Some-clause-cause g c = put-caused (g.H.Host.world.counts c.args.host.now)
    (g.H.Host.world.counts c.line.new.host) c.put_line.result c.args.body.now.items c.bytes.result.now c.put_line.new.body.items c.put_line.ensures

pub returns-in-Ok-Some-clause-progress : goal.returns-in-Ok-Some-clause-progress
returns-in-Ok-Some-clause-progress g c = put-progress c.put_line.result _ (rw c.in-Ok-Some.field-0-is at c.in-Ok-Some.ensures.progress)
