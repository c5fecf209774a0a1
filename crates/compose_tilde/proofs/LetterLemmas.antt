-- The letters of the escapes ascend.
use Rattle.std.proofs.Common.{◌≡◌, ◌<◌, ◌&&◌, ℕ, zero, suc, Bool, true, List, [], ◌∷◌, length, get_or, map, refl, arith, add-one}
use Rattle.std.specs.Prelude.{nat_lt}
use Rattle.std.proofs.lemmas.Bool.{and_parts, ltb-true}
use Rattle.compose_tilde.specs.Escapes.{escapes}
use Rattle.compose_tilde.specs.Laws.{LettersAscend}

-- each number is below the next
ascends : List ℕ → Bool
ascends [] = true
ascends (x ∷ []) = true
ascends (x ∷ y ∷ ys) = nat_lt x y && ascends (y ∷ ys)

letters-ascend : ascends (map (λ r. r.letter) escapes) ≡ true
unfolding ascends escapes
letters-ascend = refl

ascending : (xs : List ℕ) → ascends xs ≡ true → (k : ℕ) → suc k < length xs → get_or xs k 0 < get_or xs (suc k) 0
unfolding ascends
ascending [] up k lt = absurd (omega arith)
ascending (x ∷ []) up k lt = absurd (omega arith)
ascending (x ∷ y ∷ ys) up zero lt = ltb-true x y (and_parts (nat_lt x y) (ascends (y ∷ ys)) up).0
ascending (x ∷ y ∷ ys) up (suc k) lt = ascending (y ∷ ys) (and_parts (nat_lt x y) (ascends (y ∷ ys)) up).1 k (omega arith)

pub each-letter : LettersAscend
each-letter k lt =
    let next : suc k < length (map (λ r. r.letter) escapes) = omega arith in
    rw add-one (ascending (map (λ r. r.letter) escapes) letters-ascend k next)
