-- Numbers in order.
use Rattle.std.proofs.Common.{◌≡◌, ◌+◌, ℕ, zero, suc, List, [], ◌∷◌, ◌++◌, ap, ◌∙◌, arith}
use Rattle.std.specs.List.{range_with_len}

-- a number more
pub range-more : (a n : ℕ) → range_with_len a (suc n) ≡ range_with_len a n ++ (a + n) ∷ []
range-more a zero = ap (λ (m : ℕ). m ∷ []) (let same : a ≡ a + 0 = omega arith in same)
range-more a (suc n) =
    ap (λ (l : List ℕ). a ∷ l) (range-more (a + 1) n) ∙ ap (λ (m : ℕ). a ∷ range_with_len (a + 1) n ++ m ∷ []) (let same : a + 1 + n ≡ a + suc n = omega arith in same)
