use Rattle.std.proofs.Common.{sym, ◌∙◌}
use Rattle.std.proofs.lemmas.Bool.{not_from_false}
use Rattle.mail_addresses.specs.Tokens.{tokens_in}
use Rattle.mail_addresses.proofs.TokenLemmas.{token_less}
use Rattle.mail_addresses.proofs.Walks.{is_other, walked_none, walked_more, walked_within, walked_all, lacks_from, mark_cut}
use Rattle.mail_addresses.proofs.parts.split_at_mark.Goals as goal

pub loop-token-init : goal.loop-token-init
loop-token-init c = walked_none (is_other c.args.byte) c.args.bytes.now

pub loop-token-smaller : goal.loop-token-smaller
loop-token-smaller c = token_less c.in-Some.token c.loop-token.rest.now c.in-Some.after.now c.in-Some.ensures.0 c.in-Some.ensures.1

pub loop-token-preserved : goal.loop-token-preserved
loop-token-preserved c = walked_more (is_other c.args.byte) c.args.bytes.now c.loop-token.rest.now c.in-Some.after.now c.in-Some.token
    c.loop-token.invariant c.in-Some.ensures.0 c.in-Some.ensures.1 (not_from_false _ (sym c.is_mark.ensures ∙ c.if-is_mark.false))

pub before-requires : goal.before-requires
before-requires c = walked_within (is_other c.args.byte) c.args.bytes.now c.loop-token.rest.now c.loop-token.invariant

pub returns-then-is_mark : goal.returns-then-is_mark
returns-then-is_mark c = mark_cut c.args.byte c.args.bytes.now c.loop-token.rest.now c.in-Some.after.now c.before-then-is_mark.result.now
    c.in-Some.token c.loop-token.invariant c.in-Some.ensures.0 c.in-Some.ensures.1 (sym c.is_mark.ensures ∙ c.if-is_mark.true) c.before-then-is_mark.ensures

pub returns : goal.returns
returns c = lacks_from c.args.byte (tokens_in c.args.bytes.now) (walked_all (is_other c.args.byte) c.args.bytes.now c.loop-token.rest.now c.loop-token.invariant c.in_default.ensures)
