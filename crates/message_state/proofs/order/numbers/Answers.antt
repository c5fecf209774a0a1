use Rattle.std.proofs.Common.{◌≡◌, ◌+◌, ◌++◌, ◌∷◌, [], ℕ, List, sym, ap, ◌∙◌, arith, add-one}
use Rattle.std.specs.List.{range_with_len}
use Rattle.message_state.proofs.OrderLemmas.{range-more}
use Rattle.message_state.proofs.order.numbers.Goals as goal

pub loop-k-preserved : goal.loop-k-preserved
loop-k-preserved c =
    let k = c.loop-k.k in
    let next : k + 1 ≡ 1 + k = omega arith in
    c.in_ok-push.ensures.ok ∙ ap (λ (l : List ℕ). l ++ (k + 1) ∷ []) c.loop-k.invariant ∙ ap (λ (n : ℕ). range_with_len 1 k ++ n ∷ []) next
    ∙ sym (range-more 1 k) ∙ ap (range_with_len 1) (sym (add-one k))
