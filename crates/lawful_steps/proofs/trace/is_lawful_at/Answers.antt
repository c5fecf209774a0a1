use Rattle.std.proofs.Common.{◌<◌, ◌+◌, Some, ap, drop, length, refl, ◌∙◌}
use Rattle.host_memory.specs.MemHosts.{host_start}
use Rattle.host_memory.proofs.TapeLemmas.{if-ok}
use Rattle.lawful_steps.proofs.TraceLemmas.{split-at, lawful-at, lawful-past}
use Rattle.lawful_steps.proofs.trace.is_lawful_at.Goals as goal

pub returns-in-Some : goal.returns-in-Some
returns-in-Some c =
    let es = c.args.events.now in
    let x = c.in-Some.event.now in
    let got = c.in-Some.ensures.lookup.3.1 x in
    let within : c.args.at < length es = c.in-Some.ensures.lookup.3.0 in
    if-ok c.is_lawful_event.result
    (λ b decides told.
    lawful-at c.args.actor.now c.args.token (host_start c.args.host.now) es c.args.at x b within got
    (decides (drop (c.args.at + 1) es) (told ∙ ap Some (split-at es c.args.at x within got))))
    c.is_lawful_event.ensures

pub returns-in-None : goal.returns-in-None
returns-in-None c = λ told. (
  λ t. lawful-past c.args.actor.now c.args.token (host_start c.args.host.now) c.args.events.now c.args.at c.in-None.ensures.lookup.3,
  λ all. refl,
)
