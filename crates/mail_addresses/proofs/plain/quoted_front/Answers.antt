use Rattle.std.proofs.Common.{ℕ, List, ◌∷◌, ◌++◌, ◌+◌, drop, sym, ap, ◌∙◌, subst, arith}
use Rattle.std.proofs.lemmas.Bool.{eq-eqb}
use Rattle.mail_addresses.specs.Lexical.{IsQuotedContent}
use Rattle.mail_addresses.proofs.PlainLemmas.{unescaped_plain, name_quoted}
use Rattle.mail_addresses.proofs.plain.quoted_front.Goals as goal

pub returns-in-Some-behind_bracket : goal.returns-in-Some-behind_bracket
returns-in-Some-behind_bracket c =
    let bytes = c.args.bytes.now in
    let content : List ℕ = c.split_at.result.0.now in
    let after : List ℕ = c.split_at-in-Some.result.1.now in
    let ends = c.in-Some.ensures.end in
    name_quoted bytes content after c.in-Some-behind_bracket.back.now
    (ends.2 ∙ ap (λ (xs : List ℕ). xs ++ 34 ∷ drop (c.in-Some.end + 1) bytes) (sym c.split_at.ensures.front) ∙ ap (λ (xs : List ℕ). content ++ 34 ∷ xs) (sym c.split_at-in-Some.ensures.back))
    (subst IsQuotedContent (sym c.split_at.ensures.front) ends.1)
    (unescaped_plain content (λ k l e. c.in-None-memchr.ensures k (omega arith) l (eq-eqb _ _ e)))
    c.in-Some-behind_bracket.ensures
