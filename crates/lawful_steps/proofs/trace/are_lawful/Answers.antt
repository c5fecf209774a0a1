use Rattle.std.proofs.Common.{◌≡◌, List, Some, true, false, refl, sym, ap, subst, ◌∙◌, arith, length}
use Rattle.host_port.specs.declared.event.Event.{Event}
use Rattle.host_memory.specs.MemHosts.{host_start}
use Rattle.lawful_steps.specs.Steps.{IsLawfulAt}
use Rattle.lawful_steps.proofs.TraceLemmas.{one-more, all-lawful, lawful-here}
use Rattle.lawful_steps.proofs.trace.are_lawful.Goals as goal

pub loop-k-init : goal.loop-k-init
loop-k-init c = λ trace told j lt. absurd (omega arith)

pub loop-k-preserved : goal.loop-k-preserved
loop-k-preserved c = λ trace told.
    let es : c.trace-events.result.now ≡ trace = c.trace-events.ensures trace told in
    let at = λ (xs : List Event). IsLawfulAt c.args.actor.now c.args.token (host_start c.args.host.now) xs c.loop-k.k in
    let here : at trace = subst at es ((c.in_ok-good.ensures (told ∙ ap Some (sym es))).0 c.if-not-good.false) in
    one-more (λ j. IsLawfulAt c.args.actor.now c.args.token (host_start c.args.host.now) trace j) c.loop-k.k (c.loop-k.invariant trace told) here

pub returns-then-not-good : goal.returns-then-not-good
returns-then-not-good c = λ trace told. (
  λ t. absurd (cc),
  λ all.
      let es : c.trace-events.result.now ≡ trace = c.trace-events.ensures trace told in
      let at = λ (xs : List Event). IsLawfulAt c.args.actor.now c.args.token (host_start c.args.host.now) xs c.loop-k.k in
      let here : at trace = lawful-here c.args.actor.now c.args.token (host_start c.args.host.now) trace all c.loop-k.k in
      let good : c.in_ok-good.good ≡ true = (c.in_ok-good.ensures (told ∙ ap Some (sym es))).1 (subst at (sym es) here) in
      sym c.if-not-good.true ∙ good,
)

pub returns : goal.returns
returns c = λ trace told. (
  λ t.
      let es : c.trace-events.result.now ≡ trace = c.trace-events.ensures trace told in
      all-lawful c.args.actor.now c.args.token (host_start c.args.host.now) trace (λ j lt. c.loop-k.invariant trace told j (omega (arith, ap length es))),
  λ all. refl,
)
