-- Bytes without the blanks at an end.
use Rattle.std.proofs.Common.{◌≡◌, ℕ, List, [], ◌∷◌, ◌++◌, length, true, false, ap, ◌∙◌, refl, arith}
use Rattle.std.proofs.lemmas.Bool.{cond-true, cond-false}
use Rattle.mail_text.specs.Ascii.{is_blank}
use Rattle.mail_headers.specs.Field.{trim_start, trim_end, unless_last_blank}

pub start-none : (bs : List ℕ) → length bs ≡ 0 → bs ≡ trim_start bs
unfolding trim_start
start-none [] none = refl
start-none (b ∷ bs) none = absurd (omega arith)

pub start-blank : (b : ℕ) (bs : List ℕ) → is_blank b ≡ true → trim_start (b ∷ bs) ≡ trim_start bs
unfolding trim_start
start-blank b bs is = cond-true _ _ _ is

pub start-kept : (b : ℕ) (bs : List ℕ) → is_blank b ≡ false → trim_start (b ∷ bs) ≡ b ∷ bs
unfolding trim_start
start-kept b bs is = cond-false _ _ _ is

pub end-none : (bs : List ℕ) → length bs ≡ 0 → bs ≡ trim_end bs
unfolding trim_end
end-none [] none = refl
end-none (b ∷ bs) none = absurd (omega arith)

pub end-blank : (bs : List ℕ) (b : ℕ) → is_blank b ≡ true → trim_end (bs ++ b ∷ []) ≡ trim_end bs
unfolding trim_end
end-blank [] b is = cond-true _ _ _ is
end-blank (c ∷ cs) b is = ap (unless_last_blank c) (end-blank cs b is)

-- a byte in front of others that end in one more
before-last : (c : ℕ) (bs : List ℕ) (b : ℕ) → unless_last_blank c (bs ++ b ∷ []) ≡ c ∷ (bs ++ b ∷ [])
before-last c [] b = refl
before-last c (d ∷ ds) b = refl

pub end-kept : (bs : List ℕ) (b : ℕ) → is_blank b ≡ false → trim_end (bs ++ b ∷ []) ≡ bs ++ b ∷ []
unfolding trim_end
end-kept [] b is = cond-false _ _ _ is
end-kept (c ∷ cs) b is = ap (unless_last_blank c) (end-kept cs b is) ∙ before-last c cs b
