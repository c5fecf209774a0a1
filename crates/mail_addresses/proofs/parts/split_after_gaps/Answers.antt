use Rattle.std.proofs.Common.{sym, ◌∙◌}
use Rattle.mail_addresses.specs.Forms.{is_gap}
use Rattle.mail_addresses.proofs.TokenLemmas.{token_less}
use Rattle.mail_addresses.proofs.Walks.{walked_none, walked_more, walked_within, walked_front, walked_cut, begins_none, begins_with}
use Rattle.mail_addresses.proofs.parts.split_after_gaps.Goals as goal

pub loop-token-init : goal.loop-token-init
loop-token-init c = walked_none is_gap c.args.bytes.now

pub loop-token-smaller : goal.loop-token-smaller
loop-token-smaller c = token_less c.in-Some.token c.loop-token.rest.now c.in-Some.after.now c.in-Some.ensures.0 c.in-Some.ensures.1

pub loop-token-preserved : goal.loop-token-preserved
loop-token-preserved c = walked_more is_gap c.args.bytes.now c.loop-token.rest.now c.in-Some.after.now c.in-Some.token c.loop-token.invariant
    c.in-Some.ensures.0 c.in-Some.ensures.1 (sym c.is_gap.ensures ∙ c.if-not-is_gap.false)

pub before-requires : goal.before-requires
before-requires c = walked_within is_gap c.args.bytes.now c.loop-token.rest.now c.loop-token.invariant

pub before-requires-2 : goal.before-requires-2
before-requires-2 c = walked_within is_gap c.args.bytes.now c.loop-token.rest.now c.loop-token.invariant

pub returns-then-not-is_gap-clause-cut : goal.returns-then-not-is_gap-clause-cut
returns-then-not-is_gap-clause-cut c = walked_cut is_gap c.args.bytes.now c.loop-token.rest.now c.before-then-not-is_gap.result.now c.loop-token.invariant c.before-then-not-is_gap.ensures

pub returns-then-not-is_gap-clause-gaps : goal.returns-then-not-is_gap-clause-gaps
returns-then-not-is_gap-clause-gaps c = walked_front is_gap c.args.bytes.now c.loop-token.rest.now c.before-then-not-is_gap.result.now c.loop-token.invariant c.before-then-not-is_gap.ensures

pub returns-then-not-is_gap-clause-ends : goal.returns-then-not-is_gap-clause-ends
returns-then-not-is_gap-clause-ends c = begins_with is_gap c.loop-token.rest.now c.in-Some.after.now c.in-Some.token c.in-Some.ensures.0
    c.in-Some.ensures.1 (sym c.is_gap.ensures ∙ c.if-not-is_gap.true)

pub returns-clause-cut : goal.returns-clause-cut
returns-clause-cut c = walked_cut is_gap c.args.bytes.now c.loop-token.rest.now c.before-2.result.now c.loop-token.invariant c.before-2.ensures

pub returns-clause-gaps : goal.returns-clause-gaps
returns-clause-gaps c = walked_front is_gap c.args.bytes.now c.loop-token.rest.now c.before-2.result.now c.loop-token.invariant c.before-2.ensures

pub returns-clause-ends : goal.returns-clause-ends
returns-clause-ends c = begins_none is_gap c.loop-token.rest.now c.in_default.ensures
