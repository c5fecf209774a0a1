-- The front of a list that passes a test, by the place of the first element that doesn't.
use Rattle.std.proofs.Common.{◌≡◌, ℕ, ◌+◌, ◌≤◌, Bool, true, false, not, List, [], ◌∷◌, length, nat_lt, Option, Some, None, cond, refl, ap, ◌∙◌, arith, ⊎_elim}
use Rattle.std.proofs.lemmas.Bool.{cond-true, cond-false, lt-ltb, le-ltb, cases_lt}
use Rattle.std.proofs.lemmas.List.Sums.{prefix_len-le-length}
use Rattle.std.specs.Option.{unwrap_or}
use Rattle.std.specs.List.{prefix_len, position_or_len}

not-not : (b : Bool) → not (not b) ≡ b
not-not true = refl
not-not false = refl

position_or_len-not : (p : ℕ → Bool) (xs : List ℕ) → position_or_len (λ x. not (p x)) xs ≡ prefix_len p xs
position_or_len-not p [] = refl
position_or_len-not p (x ∷ xs) =
    ap (λ (b : Bool). cond b (1 + position_or_len (λ y. not (p y)) xs) 0) (not-not (p x)) ∙ ap (λ (n : ℕ). cond (p x) (1 + n) 0) (position_or_len-not p xs)

-- how long the front is that passes, where the place of the first element that doesn't was looked for
pub prefix_len-from_position : (p : ℕ → Bool) (xs : List ℕ) (r : Option ℕ)
    → (let n = position_or_len (λ x. not (p x)) xs in r ≡ cond (nat_lt n (length xs)) (Some n) None) → unwrap_or r (length xs) ≡ prefix_len p xs
prefix_len-from_position p xs r found =
    let n : ℕ = position_or_len (λ x. not (p x)) xs in
    let same : n ≡ prefix_len p xs = position_or_len-not p xs in
    let most : prefix_len p xs ≤ length xs = prefix_len-le-length p xs in
    ⊎_elim
    (λ lt. ap (λ (o : Option ℕ). unwrap_or o (length xs)) (found ∙ cond-true _ _ _ (lt-ltb _ _ lt)) ∙ same)
    (λ ge. ap (λ (o : Option ℕ). unwrap_or o (length xs)) (found ∙ cond-false _ _ _ (le-ltb _ _ ge)) ∙ omega arith)
    (cases_lt n (length xs))
