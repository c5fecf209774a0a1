use Rattle.std.proofs.Common.{sym, ◌∙◌}
use Rattle.mail_addresses.specs.Forms.{is_gap}
use Rattle.mail_addresses.proofs.TokenLemmas.{token_less}
use Rattle.mail_addresses.proofs.Walks.{walked_none, walked_more, walked_fails, walked_all}
use Rattle.mail_addresses.proofs.parts.are_gaps.Goals as goal

pub loop-token-init : goal.loop-token-init
loop-token-init c = walked_none is_gap c.args.bytes.now

pub loop-token-smaller : goal.loop-token-smaller
loop-token-smaller c = token_less c.in-Some.token c.loop-token.rest.now c.in-Some.after.now c.in-Some.ensures.0 c.in-Some.ensures.1

pub loop-token-preserved : goal.loop-token-preserved
loop-token-preserved c = walked_more is_gap c.args.bytes.now c.loop-token.rest.now c.in-Some.after.now c.in-Some.token c.loop-token.invariant
    c.in-Some.ensures.0 c.in-Some.ensures.1 (sym c.is_gap.ensures ∙ c.if-not-is_gap.false)

pub returns-then-not-is_gap : goal.returns-then-not-is_gap
returns-then-not-is_gap c = sym (walked_fails is_gap c.args.bytes.now c.loop-token.rest.now c.in-Some.after.now c.in-Some.token c.loop-token.invariant
    c.in-Some.ensures.0 c.in-Some.ensures.1 (sym c.is_gap.ensures ∙ c.if-not-is_gap.true))

pub returns : goal.returns
returns c = sym (walked_all is_gap c.args.bytes.now c.loop-token.rest.now c.loop-token.invariant c.in_default.ensures)
