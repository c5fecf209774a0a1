use Rattle.std.proofs.Common.{rules, ◌≡◌, List, [], refl, sym, ◌∙◌, subst}
use Rattle.std.proofs.lemmas.List.{append-nil}
use Rattle.std.specs.declared.result.Result.TheVariants.{Ok, Err}
use Rattle.host_port.specs.declared.event.Event.{Event}
use Rattle.host_port.proofs.RanLemmas.{Ran-then, Ran-map}
use Rattle.session_play.specs.declared.stop.Stop.TheVariants as stop
use Rattle.session_play.specs.Play.{Play, Goes, Go, Last, bind}
use Rattle.session_play.specs.Steps.{On, Over, Refused, Ended, in_order, refused, concluded}
use Rattle.session_play.proofs.PlayLemmas.{goes-then, goes-as, goes-cut, at-memory}
use Rattle.session_state.specs.declared.state.SessionState.{SessionState}
use Rattle.command_desk.specs.declared.desk.Desk.{Desk}
use Rattle.command_desk.specs.Desks.{IsDesk}
use Rattle.command_desk.specs.Effects.{effect}
use Rattle.session_state.specs.States.{settled, OnlyFrames}
use Rattle.session_asks.specs.Asks.{asked}
use Rattle.session_state.specs.Answers.{in_play, next_of}
use Rattle.session_asks.proofs.SourcingLemmas.{only-desk, brings_none, brings-then, brings-desk, cut-back}
use Rattle.mailx_session.proofs.StartupLemmas.{memory-only}
use Rattle.mailx_session.proofs.lines.do_steps.Goals as goal

-- memory may be wanted after a play
goes-short : {A B : Type 0} (p : Play A) (k : A → Play B) (a : A) (es : List Event) → Goes p es (Ok a) → Goes (bind p k) es (Err stop.Memory)
goes-short p k a es x =
    let G : List Event → Type 0 = λ fs. Goes (bind p k) fs (Err stop.Memory) in
    subst G (append-nil es) (goes-then p k a (Err stop.Memory) es [] x (at-memory (k a)))

pub apply_effects-requires-clause-after : goal.apply_effects-requires-clause-after
apply_effects-requires-clause-after g c =
    let same : c.do_asks.new.state.desk ≡ c.args.state.now.desk = only-desk c.args.state.now c.do_asks.new.state (rw c.in-Ok-On.field-0-is at c.in-Ok-On.ensures.desk) in
    subst (λ (d : Desk). IsDesk (effect d c.args.steps.effects)) (sym same) c.requires.desk

pub returns-in-Ok-clause-ran : goal.returns-in-Ok-clause-ran
returns-in-Ok-clause-ran g c =
    let s = c.args.state.now in
    let t = c.do_asks.new.state in
    let effects = c.args.steps.effects in
    rw c.in-Ok.ensures.ok
    (Ran-map (λ es went. goes-as (in_order asked s c.args.steps.asks) (concluded s (λ (t : SessionState). settled t effects)) (On t) (Go (settled t effects)) es refl went)
    (rw c.in-Ok-On.field-0-is at c.in-Ok-On.ensures.ran))

pub returns-in-Err-apply_effects-clause-ran : goal.returns-in-Err-apply_effects-clause-ran
returns-in-Err-apply_effects-clause-ran g c =
    let s = c.args.state.now in
    let t = c.do_asks.new.state in
    rw c.in-Err-apply_effects.ensures.err
    (Ran-map (λ es went. goes-short (in_order asked s c.args.steps.asks) (concluded s (λ (t : SessionState). settled t c.args.steps.effects)) (On t) es went)
    (rw c.in-Ok-On.field-0-is at c.in-Ok-On.ensures.ran))

pub returns-in-Ok-Over-clause-ran : goal.returns-in-Ok-Over-clause-ran
returns-in-Ok-Over-clause-ran g c =
    let s = c.args.state.now in
    let t = c.do_asks.new.state in
    Ran-map (λ es went. goes-as (in_order asked s c.args.steps.asks) (concluded s (λ (t : SessionState). settled t c.args.steps.effects)) (Over t) (Go t) es refl went)
    (rw c.in-Ok-Over.field-0-is at c.in-Ok-Over.ensures.ran)

pub returns-in-Ok-Refused-clause-ran : goal.returns-in-Ok-Refused-clause-ran
returns-in-Ok-Refused-clause-ran g c =
    let s = c.args.state.now in
    let t = c.do_asks.new.state in
    let line = c.in-Ok-Refused.line in
    let out = in_play (next_of t) c.go_on.result in
    let same : t ≡ s = rw c.in-Ok-Refused.field-0-is at c.in-Ok-Refused.ensures.stays in
    Ran-then
    (λ es fs went says.
    goes-then (in_order asked s c.args.steps.asks) (concluded s (λ (t : SessionState). settled t c.args.steps.effects)) (Refused line) out es fs went
    (subst (λ (u : SessionState). Goes (refused u line) fs out) same says))
    (rw c.in-Ok-Refused.field-0-is at c.in-Ok-Refused.ensures.ran) (rw (c.go_on.ensures.means t) c.say_text.ensures.ran)

pub returns-in-Ok-Refused-clause-cause : goal.returns-in-Ok-Refused-clause-cause
returns-in-Ok-Refused-clause-cause g c = c.go_on.ensures.cause (g.H.Host.world.counts c.args.host.now) (g.H.Host.world.counts c.say_text.new.host) (search rules)

pub returns-in-Ok-Ended-clause-ran : goal.returns-in-Ok-Ended-clause-ran
returns-in-Ok-Ended-clause-ran g c =
    let s = c.args.state.now in
    Ran-map (λ es went. goes-as (in_order asked s c.args.steps.asks) (concluded s (λ (t : SessionState). settled t c.args.steps.effects))
    (Ended c.in-Ok-Ended.status) (Last c.in-Ok-Ended.status) es refl went)
    (rw c.in-Ok-Ended.field-0-is at c.in-Ok-Ended.ensures.ran)

pub returns-in-Err-clause-ran : goal.returns-in-Err-clause-ran
returns-in-Err-clause-ran g c =
    let s = c.args.state.now in
    Ran-map (goes-cut (in_order asked s c.args.steps.asks) (concluded s (λ (t : SessionState). settled t c.args.steps.effects)) _)
    c.in-Err.ensures.ran

-- settled, a state has what was brought
pub returns-in-Ok-clause-brings : goal.returns-in-Ok-clause-brings
returns-in-Ok-clause-brings g c =
    let t = c.do_asks.new.state in
    let effects = c.args.steps.effects in
    rw c.in-Ok.ensures.ok (brings-then c.args.state.now t (settled t effects) c.do_asks.ensures.brings (brings-desk t (effect t.desk effects)))

-- where it can't be settled nothing was brought
pub returns-in-Err-apply_effects-clause-brings : goal.returns-in-Err-apply_effects-clause-brings
returns-in-Err-apply_effects-clause-brings g c =
    let s = c.args.state.now in
    let t = c.do_asks.new.state in
    let only : OnlyFrames s t = rw c.in-Ok-On.field-0-is at c.in-Ok-On.ensures.desk in
    brings_none s c.apply_effects.new.state (c.in-Err-apply_effects.ensures.back ∙ cut-back s t c.depth-depth.result c.do_asks.ensures.brings only c.depth-depth.ensures)

pub returns-in-Err-apply_effects-clause-goes_on : goal.returns-in-Err-apply_effects-clause-goes_on
returns-in-Err-apply_effects-clause-goes_on g c = λ little. memory-only c.in-Err-apply_effects.error c.in-Err-apply_effects.ensures.err

pub returns-in-Ok-Refused-clause-goes_on : goal.returns-in-Ok-Refused-clause-goes_on
returns-in-Ok-Refused-clause-goes_on g c = λ little. c.go_on.ensures.goes_on c.say_text.ensures.no_disk

pub returns-in-Ok-Ended-clause-goes_on : goal.returns-in-Ok-Ended-clause-goes_on
returns-in-Ok-Ended-clause-goes_on g c = λ little. absurd (rw c.in-Ok-Ended.field-0-is at (c.in-Ok-Ended.ensures.goes_on little))
