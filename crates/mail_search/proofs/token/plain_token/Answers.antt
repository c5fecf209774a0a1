use Rattle.std.proofs.Common.{◌+◌, take, drop, sym, ap, ◌∙◌}
use Rattle.mail_search.specs.Tokens.{outside, tokens_from}
use Rattle.mail_search.proofs.TokenLemmas.{run_token, gap_token, bad_token}
use Rattle.mail_search.proofs.token.plain_token.Goals as goal

pub returns-then-is_run_byte-clause-tokens : goal.returns-then-is_run_byte-clause-tokens
returns-then-is_run_byte-clause-tokens c =
    ap (tokens_from outside) c.requires.whole
    ∙ run_token c.args.first c.args.after.now c.split_at.result.0.now c.split_at.result.1.now c.run_len.result (sym c.is_run_byte.ensures ∙ c.if-is_run_byte.true) c.run_len.ensures.value
    (c.split_at.ensures.front ∙ ap (take (1 + c.run_len.result)) c.requires.whole) (c.split_at.ensures.back ∙ ap (drop (1 + c.run_len.result)) c.requires.whole)

pub returns-then-is_blank-clause-tokens : goal.returns-then-is_blank-clause-tokens
returns-then-is_blank-clause-tokens c =
    ap (tokens_from outside) c.requires.whole
    ∙ gap_token c.args.first c.args.after.now
    (sym c.is_run_byte.ensures ∙ c.if-is_run_byte.false) c.requires.no_quote c.requires.no_open c.requires.no_close (sym c.is_blank.ensures ∙ c.if-is_blank.true)

pub returns-else-is_blank-clause-tokens : goal.returns-else-is_blank-clause-tokens
returns-else-is_blank-clause-tokens c =
    ap (tokens_from outside) c.requires.whole
    ∙ bad_token c.args.first c.args.after.now
    (sym c.is_run_byte.ensures ∙ c.if-is_run_byte.false) c.requires.no_quote c.requires.no_open c.requires.no_close (sym c.is_blank.ensures ∙ c.if-is_blank.false)
