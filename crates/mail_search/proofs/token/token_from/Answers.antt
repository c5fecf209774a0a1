use Rattle.std.proofs.Common.{◌≡◌, ◌∷◌, ℕ, List, ap, sym, ◌∙◌, subst}
use Rattle.std.specs.Prelude.{IfOk}
use Rattle.mail_search.specs.Tokens.{Token, outside, tokens_from, token_of}
use Rattle.mail_search.proofs.TokenLemmas.{open_token, close_token, quote_token}
use Rattle.mail_search.proofs.token.token_from.Goals as goal

pub returns-in-40-clause-tokens : goal.returns-in-40-clause-tokens
returns-in-40-clause-tokens c = ap (tokens_from outside) (c.requires ∙ ap (λ (b : ℕ). b ∷ c.args.after.now) c.in-40.is) ∙ open_token c.args.after.now

pub returns-in-41-clause-tokens : goal.returns-in-41-clause-tokens
returns-in-41-clause-tokens c = ap (tokens_from outside) (c.requires ∙ ap (λ (b : ℕ). b ∷ c.args.after.now) c.in-41.is) ∙ close_token c.args.after.now

pub returns-in-34-clause-tokens : goal.returns-in-34-clause-tokens
returns-in-34-clause-tokens c =
    subst (λ (ts : List Token). IfOk c.quoted_token.result (λ p. ts ≡ token_of p.0 ∷ tokens_from outside p.1.now))
    (sym (ap (tokens_from outside) (c.requires ∙ ap (λ (b : ℕ). b ∷ c.args.after.now) c.in-34.is) ∙ quote_token c.args.after.now)) c.quoted_token.ensures.tokens
