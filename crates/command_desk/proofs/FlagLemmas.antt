-- Flags that say which numbers are among some.
use Rattle.std.proofs.Common.{◌≡◌, ◌<◌, ◌+◌, ℕ, Bool, true, false, ◌||◌, ◌==◌, List, [], ◌∷◌, ◌++◌, length, take, get_or, refl, sym, ap, ◌∙◌, ⊎_elim}
use Rattle.std.specs.Prelude.{slice_set}
use Rattle.std.proofs.lemmas.Bool.{cases_Bool, eqb-true, eqb-false}
use Rattle.std.proofs.lemmas.List.{take_more, get_or-set_same, get_or-set_other}
use Rattle.std.proofs.lemmas.Option.{unwrap_or-slice_get}
use Rattle.command_desk.specs.Selecting.{is_among, AreFlags}

among-append : (xs : List ℕ) (y n : ℕ) → is_among (xs ++ y ∷ []) n ≡ (is_among xs n || (y == n))
among-append [] y n = or-false (y == n)
  where
    or-false : (b : Bool) → (b || false) ≡ b
    or-false true = refl
    or-false false = refl
among-append (x ∷ xs) y n = ap (λ (b : Bool). (x == n) || b) (among-append xs y n) ∙ or-assoc (x == n) (is_among xs n) (y == n)
  where
    or-assoc : (a b c : Bool) → (a || (b || c)) ≡ ((a || b) || c)
    or-assoc true b c = refl
    or-assoc false b c = refl

-- a flag more
pub flags-more : (flags : List Bool) (numbers : List ℕ) (i k : ℕ) → i < length numbers → get_or numbers i 0 ≡ k → k < length flags
    → AreFlags flags (take i numbers) → AreFlags (slice_set flags k true) (take (i + 1) numbers)
flags-more flags numbers i k within is inside before n =
    ⊎_elim
    (λ same. let e : k ≡ n = eqb-true k n same in
    unwrap_or-slice_get (slice_set flags k true) n false
    ∙ ap (λ (m : ℕ). get_or (slice_set flags k true) m false) (sym e)
    ∙ get_or-set_same flags k true false inside
    ∙ sym (among ∙ ap (λ (b : Bool). is_among (take i numbers) n || b) same ∙ or-true (is_among (take i numbers) n)))
    (λ other.
    unwrap_or-slice_get (slice_set flags k true) n false
    ∙ get_or-set_other flags k n true false (λ e. absurd (eqb-false k n other (sym e)))
    ∙ sym (unwrap_or-slice_get flags n false)
    ∙ before n
    ∙ sym (among ∙ ap (λ (b : Bool). is_among (take i numbers) n || b) other ∙ or-none (is_among (take i numbers) n)))
    (cases_Bool (k == n))
  where
    among : is_among (take (i + 1) numbers) n ≡ (is_among (take i numbers) n || (k == n))
    among = ap (λ (l : List ℕ). is_among l n) (take_more numbers i 0 within) ∙ among-append (take i numbers) (get_or numbers i 0) n ∙ ap (λ (m : ℕ). is_among (take i numbers) n || (m == n)) is

    or-true : (b : Bool) → (b || true) ≡ true
    or-true true = refl
    or-true false = refl

    or-none : (b : Bool) → (b || false) ≡ b
    or-none true = refl
    or-none false = refl
