use Rattle.std.proofs.Common.{◌≡◌, ◌<◌, ◌^◌, arith, sym, ◌∙◌}
use Rattle.std.specs.declared.option.Option.TheVariants.{Some, None}
use Rattle.host_port.proofs.RanLemmas.{Ran-none, Ran-map, Ran-since}
use Rattle.mail_delivery.specs.declared.status.DeliverStatus.TheVariants as status
use Rattle.mail_delivery.specs.Words.{reading}
use Rattle.mail_delivery.proofs.RunLemmas.{run-some, run-none, run-short, at-input, at-disk, never-usage}
use Rattle.mail_delivery.proofs.FreeLemmas.{run-completes}
use Rattle.mail_delivery.proofs.SafeLemmas.{run-safely}
use Rattle.mail_delivery.proofs.delivery.deliver.Goals as goal

pub returns-in-Ok-Some-clause-run : goal.returns-in-Ok-Some-clause-run
returns-in-Ok-Some-clause-run g c =
    let env = c.args.env.now in
    let fits : env.token < 2 ^ 64 = omega arith in
    let is : Some c.in-Ok-Some.request ≡ reading c.args.words.now env.pairs = cc (c.in-Ok-Some.ensures, c.in-Ok-Some.field-0-is, c.items.ensures) in
    Ran-map (λ es loop. run-some c.args.words.now env c.in-Ok-Some.request c.status_at.result c.do_request.result es fits is c.status_at.ensures loop) c.do_request.ensures.ran

pub returns-in-Ok-None-clause-run : goal.returns-in-Ok-None-clause-run
returns-in-Ok-None-clause-run g c =
    let is : None ≡ reading c.args.words.now c.args.env.now.pairs = cc (c.in-Ok-None.ensures, c.in-Ok-None.field-0-is, c.items.ensures) in
    Ran-none (run-none _ c.args.env.now is)

pub returns-in-Err-clause-run : goal.returns-in-Err-clause-run
returns-in-Err-clause-run g c =
    let env = c.args.env.now in
    let fits : env.token < 2 ^ 64 = omega arith in
    Ran-none (run-short c.args.words.now env fits)

pub returns-in-Ok-Some-clause-input_fault : goal.returns-in-Ok-Some-clause-input_fault
returns-in-Ok-Some-clause-input_fault g c =
    λ is. at-input c.do_request.result (g.H.Host.world.counts c.args.host.now)
    (g.H.Host.world.counts c.do_request.new.host) c.do_request.ensures.plain c.do_request.ensures.cause (sym c.status_at.ensures ∙ is)

pub returns-in-Ok-Some-clause-disk_fault : goal.returns-in-Ok-Some-clause-disk_fault
returns-in-Ok-Some-clause-disk_fault g c =
    λ is. at-disk c.do_request.result (g.H.Host.world.counts c.args.host.now)
    (g.H.Host.world.counts c.do_request.new.host) c.do_request.ensures.plain c.do_request.ensures.cause (sym c.status_at.ensures ∙ is)

pub returns-in-Ok-Some-clause-usage_only : goal.returns-in-Ok-Some-clause-usage_only
returns-in-Ok-Some-clause-usage_only g c = λ is. absurd (never-usage c.do_request.result c.do_request.ensures.plain (sym c.status_at.ensures ∙ is))

pub returns-in-Ok-Some-clause-safe : goal.returns-in-Ok-Some-clause-safe
returns-in-Ok-Some-clause-safe g c = λ before es at to may.
    let env = c.args.env.now in
    let fits : env.token < 2 ^ 64 = omega arith in
    let r = Ran-since before es (returns-in-Ok-Some-clause-run g c) at to in
    run-safely c.args.words.now env c.status_at.result _ es fits r.0 may r.1

pub returns-in-Ok-Some-clause-complete : goal.returns-in-Ok-Some-clause-complete
returns-in-Ok-Some-clause-complete g c = λ before es at to may still.
    let env = c.args.env.now in
    let fits : env.token < 2 ^ 64 = omega arith in
    let r = Ran-since before es (returns-in-Ok-Some-clause-run g c) at to in
    run-completes c.args.words.now env c.status_at.result _ _ _ es fits r.0 may (returns-in-Ok-Some-clause-input_fault g c) (returns-in-Ok-Some-clause-disk_fault g c) still

pub returns-in-Ok-None-clause-safe : goal.returns-in-Ok-None-clause-safe
returns-in-Ok-None-clause-safe g c = λ before es at to may.
    let env = c.args.env.now in
    let fits : env.token < 2 ^ 64 = omega arith in
    let r = Ran-since before es (returns-in-Ok-None-clause-run g c) at to in
    run-safely c.args.words.now env status.Usage _ es fits r.0 may r.1

pub returns-in-Err-clause-safe : goal.returns-in-Err-clause-safe
returns-in-Err-clause-safe g c = λ before es at to may.
    let env = c.args.env.now in
    let fits : env.token < 2 ^ 64 = omega arith in
    let r = Ran-since before es (returns-in-Err-clause-run g c) at to in
    run-safely c.args.words.now env status.Memory _ es fits r.0 may r.1
