-- Bytes that are told to be atoms' by their place alone.
use Rattle.std.proofs.Common.{◌≡◌, ℕ, ◌<◌, ◌≤◌, Bool, true, false, not, ◌==◌, ◌&&◌, refl, ap, ◌∙◌, arith}
use Rattle.std.proofs.lemmas.Bool.{ne_eqb, lt-ltb, or_from}
use Rattle.mail_addresses.specs.Lexical.{is_special, is_atom_byte}

no_special_above : (b : ℕ) → 93 < b → is_special b ≡ false
unfolding is_special
no_special_above b high =
    or_from _ _ (ne_eqb b 40 (λ e. omega arith))
    (or_from _ _ (ne_eqb b 41 (λ e. omega arith))
    (or_from _ _ (ne_eqb b 60 (λ e. omega arith))
    (or_from _ _ (ne_eqb b 62 (λ e. omega arith))
    (or_from _ _ (ne_eqb b 91 (λ e. omega arith))
    (or_from _ _ (ne_eqb b 93 (λ e. omega arith))
    (or_from _ _ (ne_eqb b 58 (λ e. omega arith))
    (or_from _ _ (ne_eqb b 59 (λ e. omega arith))
    (or_from _ _ (ne_eqb b 64 (λ e. omega arith))
    (or_from _ _ (ne_eqb b 92 (λ e. omega arith))
    (or_from _ _ (ne_eqb b 44 (λ e. omega arith)) (or_from _ _ (ne_eqb b 34 (λ e. omega arith)) (or_from _ _ (ne_eqb b 46 (λ e. omega arith)) (refl)))))))))))))

no_special_letter : (b : ℕ) → 65 ≤ b → b ≤ 90 → is_special b ≡ false
unfolding is_special
no_special_letter b low high =
    or_from _ _ (ne_eqb b 40 (λ e. omega arith))
    (or_from _ _ (ne_eqb b 41 (λ e. omega arith))
    (or_from _ _ (ne_eqb b 60 (λ e. omega arith))
    (or_from _ _ (ne_eqb b 62 (λ e. omega arith))
    (or_from _ _ (ne_eqb b 91 (λ e. omega arith))
    (or_from _ _ (ne_eqb b 93 (λ e. omega arith))
    (or_from _ _ (ne_eqb b 58 (λ e. omega arith))
    (or_from _ _ (ne_eqb b 59 (λ e. omega arith))
    (or_from _ _ (ne_eqb b 64 (λ e. omega arith))
    (or_from _ _ (ne_eqb b 92 (λ e. omega arith))
    (or_from _ _ (ne_eqb b 44 (λ e. omega arith)) (or_from _ _ (ne_eqb b 34 (λ e. omega arith)) (or_from _ _ (ne_eqb b 46 (λ e. omega arith)) (refl)))))))))))))

no_special_digit : (b : ℕ) → 48 ≤ b → b ≤ 57 → is_special b ≡ false
unfolding is_special
no_special_digit b low high =
    or_from _ _ (ne_eqb b 40 (λ e. omega arith))
    (or_from _ _ (ne_eqb b 41 (λ e. omega arith))
    (or_from _ _ (ne_eqb b 60 (λ e. omega arith))
    (or_from _ _ (ne_eqb b 62 (λ e. omega arith))
    (or_from _ _ (ne_eqb b 91 (λ e. omega arith))
    (or_from _ _ (ne_eqb b 93 (λ e. omega arith))
    (or_from _ _ (ne_eqb b 58 (λ e. omega arith))
    (or_from _ _ (ne_eqb b 59 (λ e. omega arith))
    (or_from _ _ (ne_eqb b 64 (λ e. omega arith))
    (or_from _ _ (ne_eqb b 92 (λ e. omega arith))
    (or_from _ _ (ne_eqb b 44 (λ e. omega arith)) (or_from _ _ (ne_eqb b 34 (λ e. omega arith)) (or_from _ _ (ne_eqb b 46 (λ e. omega arith)) (refl)))))))))))))

-- a byte above the space that is no special
by_rest : (b : ℕ) → 32 < b → is_special b ≡ false → is_atom_byte b ≡ not (b == 127)
unfolding is_atom_byte
by_rest b low none =
    ap (λ (v : Bool). v && not (b == 127) && not (is_special b)) (lt-ltb 32 b low)
    ∙ ap (λ (v : Bool). not (b == 127) && not v) none
    ∙ and_true (not (b == 127))
  where
    and_true : (v : Bool) → (v && true) ≡ v
    and_true true = refl
    and_true false = refl

pub atom_above : (b : ℕ) → 93 < b → is_atom_byte b ≡ not (b == 127)
atom_above b high = by_rest b (omega arith) (no_special_above b high)

pub atom_letter : (b : ℕ) → 65 ≤ b → b ≤ 90 → is_atom_byte b ≡ true
atom_letter b low high = by_rest b (omega arith) (no_special_letter b low high) ∙ ap not (ne_eqb b 127 (λ e. omega arith))

pub atom_digit : (b : ℕ) → 48 ≤ b → b ≤ 57 → is_atom_byte b ≡ true
atom_digit b low high = by_rest b (omega arith) (no_special_digit b low high) ∙ ap not (ne_eqb b 127 (λ e. omega arith))
