use Rattle.std.proofs.Common.{◌+◌, ◌++◌, ◌∷◌, [], ℕ, List, sym, ap, ◌∙◌, arith}
use Rattle.std.proofs.lemmas.List.FromFn.{map-range_with_len_more}
use Rattle.leaf_cases.proofs.view.numbers_to.Goals as goal

pub loop-i-preserved : goal.loop-i-preserved
loop-i-preserved c =
    let i = c.loop-i.i in
    c.in_ok-push.ensures.items ∙ ap (λ (xs : List ℕ). xs ++ (i + 1) ∷ []) c.loop-i.invariant ∙ sym (map-range_with_len_more (λ x. x) 1 i (i + 1) (omega arith))
