use Rattle.std.proofs.Common.{◌+◌, length, ap, take, drop, ◌∙◌, sym, arith}
use Rattle.std.proofs.lemmas.Bool.{eq-eqb, ne_eqb}
use Rattle.std.proofs.lemmas.List.{drop_all}
use Rattle.std.proofs.lemmas.List.Sums.{position_or_len_is}
use Rattle.message_list.specs.ListWords.{is_dash}
use Rattle.message_list.proofs.kind.around_dash.Goals as goal

pub returns-then-b-eq45-clause-before : goal.returns-then-b-eq45-clause-before
returns-then-b-eq45-clause-before c =
    let xs = c.args.word.now in
    let at = position_or_len_is is_dash xs c.loop-i.i 0 (omega arith) (λ k h. ne_eqb _ _ (c.loop-i.invariant k h)) (λ _. eq-eqb _ _ c.if-b-eq45.true) in
    c.split_at.ensures.front ∙ ap (λ n. take n xs) (sym at)

pub returns-then-b-eq45-clause-after : goal.returns-then-b-eq45-clause-after
returns-then-b-eq45-clause-after c =
    let xs = c.args.word.now in
    let at = position_or_len_is is_dash xs c.loop-i.i 0 (omega arith) (λ k h. ne_eqb _ _ (c.loop-i.invariant k h)) (λ _. eq-eqb _ _ c.if-b-eq45.true) in
    c.split_at-then-b-eq45.ensures.back ∙ ap (λ n. drop (n + 1) xs) (sym at)

pub returns-clause-before : goal.returns-clause-before
returns-clause-before c =
    let xs = c.args.word.now in
    let at = position_or_len_is is_dash xs (length xs) 0 (omega arith) (λ k h. ne_eqb _ _ (c.loop-i.invariant k (omega arith))) (λ lt. absurd (omega arith)) in
    c.split_at-2.ensures.front ∙ ap (λ n. take n xs) (sym at)

pub returns-clause-after : goal.returns-clause-after
returns-clause-after c =
    let xs = c.args.word.now in
    let at = position_or_len_is is_dash xs (length xs) 0 (omega arith) (λ k h. ne_eqb _ _ (c.loop-i.invariant k (omega arith))) (λ lt. absurd (omega arith)) in
    c.split_at-2.ensures.back ∙ drop_all _ xs (omega arith) ∙ sym (drop_all _ xs (omega (arith, at)))
