use Rattle.std.proofs.Common.{sym, ◌∙◌}
use Rattle.std.proofs.lemmas.Bool.{not_from_true, not_from_false}
use Rattle.mail_addresses.specs.Forms.{is_solid}
use Rattle.mail_addresses.proofs.TokenLemmas.{token_less}
use Rattle.mail_addresses.proofs.Walks.{walked_none, walked_more, walked_within, walked_front, walked_cut, begins_none, begins_with}
use Rattle.mail_addresses.proofs.parts.split_at_gap.Goals as goal

pub loop-token-init : goal.loop-token-init
loop-token-init c = walked_none is_solid c.args.bytes.now

pub loop-token-smaller : goal.loop-token-smaller
loop-token-smaller c = token_less c.in-Some.token c.loop-token.rest.now c.in-Some.after.now c.in-Some.ensures.0 c.in-Some.ensures.1

pub loop-token-preserved : goal.loop-token-preserved
loop-token-preserved c = walked_more is_solid c.args.bytes.now c.loop-token.rest.now c.in-Some.after.now c.in-Some.token c.loop-token.invariant
    c.in-Some.ensures.0 c.in-Some.ensures.1 (not_from_false _ (sym c.is_gap.ensures ∙ c.if-is_gap.false))

pub before-requires : goal.before-requires
before-requires c = walked_within is_solid c.args.bytes.now c.loop-token.rest.now c.loop-token.invariant

pub before-requires-2 : goal.before-requires-2
before-requires-2 c = walked_within is_solid c.args.bytes.now c.loop-token.rest.now c.loop-token.invariant

pub returns-then-is_gap-clause-cut : goal.returns-then-is_gap-clause-cut
returns-then-is_gap-clause-cut c = walked_cut is_solid c.args.bytes.now c.loop-token.rest.now c.before-then-is_gap.result.now c.loop-token.invariant c.before-then-is_gap.ensures

pub returns-then-is_gap-clause-solid : goal.returns-then-is_gap-clause-solid
returns-then-is_gap-clause-solid c = walked_front is_solid c.args.bytes.now c.loop-token.rest.now c.before-then-is_gap.result.now c.loop-token.invariant c.before-then-is_gap.ensures

pub returns-then-is_gap-clause-ends : goal.returns-then-is_gap-clause-ends
returns-then-is_gap-clause-ends c = begins_with is_solid c.loop-token.rest.now c.in-Some.after.now c.in-Some.token c.in-Some.ensures.0
    c.in-Some.ensures.1 (not_from_true _ (sym c.is_gap.ensures ∙ c.if-is_gap.true))

pub returns-clause-cut : goal.returns-clause-cut
returns-clause-cut c = walked_cut is_solid c.args.bytes.now c.loop-token.rest.now c.before-2.result.now c.loop-token.invariant c.before-2.ensures

pub returns-clause-solid : goal.returns-clause-solid
returns-clause-solid c = walked_front is_solid c.args.bytes.now c.loop-token.rest.now c.before-2.result.now c.loop-token.invariant c.before-2.ensures

pub returns-clause-ends : goal.returns-clause-ends
returns-clause-ends c = begins_none is_solid c.loop-token.rest.now c.in_default.ensures
