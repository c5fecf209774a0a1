use Rattle.std.proofs.Common.{ℕ, ◌+◌, List, [], ◌∷◌, drop, sym, ap, ◌∙◌, arith}
use Rattle.std.proofs.lemmas.Bool.{eqb-true, eq-eqb}
use Rattle.std.proofs.lemmas.List.{take_all}
use Rattle.mail_text.specs.Lines.{lines_of}
use Rattle.mail_text.proofs.LineLemmas.{lines_of-hit, lines_of-miss, lines_of-empty}
use Rattle.mail_text.proofs.pieces.cut_line.Goals as goal

pub returns-in-Some : goal.returns-in-Some
returns-in-Some c =
    let text = c.args.text.now in
    let found = c.in-Some.ensures in
    lines_of-hit text c.in-Some.end found.0.high (λ k l e. found.0.before k (omega arith) l (eq-eqb _ _ e)) (eqb-true _ _ found.1)
    ∙ ap (λ (l : List ℕ). l ∷ lines_of (drop (c.in-Some.end + 1) text)) (sym c.split_at.ensures.front)
    ∙ ap (λ (l : List ℕ). c.split_at.result.0.now ∷ lines_of l) (sym c.split_at-in-Some.ensures.back)

pub returns-in-None : goal.returns-in-None
returns-in-None c =
    let text = c.args.text.now in
    lines_of-miss text c.requires (λ k l e. c.in-None.ensures k (omega arith) l (eq-eqb _ _ e))
    ∙ ap (λ (l : List ℕ). l ∷ []) (sym (c.split_at-in-None.ensures.front ∙ take_all _ text (omega arith)))
    ∙ ap (λ (l : List (List ℕ)). c.split_at-in-None.result.0.now ∷ l) (sym (lines_of-empty c.split_at-in-None.result.1.now (omega (arith, c.split_at-in-None.ensures.back_len))))
