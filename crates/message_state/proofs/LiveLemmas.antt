-- Rows with another mark, and the blocks in which none stands so.
use Rattle.std.proofs.Common.{◌≡◌, ◌≢◌, ◌⊎◌, ◌<◌, ◌/◌, ℕ, zero, suc, Bool, true, false, List, [], ◌∷◌, ◌++◌, length, Option, Some, refl, sym, ap, ◌∙◌, inl, inr, slice_get, slice_set, arith}
use Rattle.std.specs.Prelude.{unwrap_or}
use Rattle.std.specs.Option.{option_map_or}
use Rattle.std.proofs.lemmas.Bool.{cases_eq, false≢true}
use Rattle.message_state.specs.declared.row.Row.{Row}
use Rattle.message_state.specs.declared.mark.Standing.{Standing}
use Rattle.message_state.specs.LiveRows.{stands, stands_at, flag_at, AreWithout, IsLookedAt, block_size}

other-slot : {X : Type 0} (xs : List X) (i j : ℕ) (y : X) → j ≢ i → slice_get (slice_set xs i y) j ≡ slice_get xs j
other-slot [] i j y ne = refl
other-slot (x ∷ xs) zero zero y ne = absurd (ne refl)
other-slot (x ∷ xs) zero (suc j) y ne = refl
other-slot (x ∷ xs) (suc i) zero y ne = refl
other-slot (x ∷ xs) (suc i) (suc j) y ne = other-slot xs i j y (λ e. ne (ap suc e))

same-slot : {X : Type 0} (xs : List X) (i : ℕ) (y : X) → i < length xs → slice_get (slice_set xs i y) i ≡ Some y
same-slot [] i y lt = absurd (omega (arith, lt))
same-slot (x ∷ xs) zero y lt = refl
same-slot (x ∷ xs) (suc i) y lt = same-slot xs i y (omega arith)

past-slot : {X : Type 0} (xs : List X) (i : ℕ) (x : X) → slice_get xs i ≡ Some x → i < length xs
past-slot [] i x is = absurd (cc is)
past-slot (y ∷ ys) zero x is = omega arith
past-slot (y ∷ ys) (suc i) x is = let lt = past-slot ys i x is in omega arith

-- another mark at one place leaves the rows at others
stands-elsewhere : (s : Standing) (rows : List Row) (k j : ℕ) (row : Row) → j ≢ k → stands_at s rows j ≡ false → stands_at s (slice_set rows k row) j ≡ false
stands-elsewhere s rows k j row ne none = ap (λ (o : Option Row). option_map_or (λ (r : Row). stands s r.mark) o false) (other-slot rows k j row ne) ∙ none

-- a flag that is set stands in the list
flagged : (flags : List Bool) (b : ℕ) → flag_at flags b ≡ true → b < length flags
flagged [] b is = absurd (false≢true is)
flagged (f ∷ fs) zero is = omega arith
flagged (f ∷ fs) (suc b) is = let lt = flagged fs b is in omega arith

-- a flag at another place, and that which was set
other-flag : (flags : List Bool) (b block : ℕ) (now : Bool) → b ≢ block → flag_at (slice_set flags block now) b ≡ flag_at flags b
other-flag flags b block now ne = ap (λ (o : Option Bool). unwrap_or o false) (other-slot flags block b now ne)

same-flag : (flags : List Bool) (block : ℕ) (now : Bool) → block < length flags → flag_at (slice_set flags block now) block ≡ now
same-flag flags block now within = ap (λ (o : Option Bool). unwrap_or o false) (same-slot flags block now within)

-- a block that has a flag was looked at
pub looked-set : (s : Standing) (rows : List Row) (flags : List Bool) (k : ℕ) (now : Bool) → k / block_size < length flags
    → (now ≡ true → (j : ℕ) → j / block_size ≡ k / block_size → stands_at s rows j ≡ false) → IsLookedAt s rows k flags (slice_set flags (k / block_size) now)
looked-set s rows flags k now within looked = record {
  here = λ j e flag. looked (sym (same-flag flags (k / block_size) now within) ∙ flag) j e;
  others = λ b ne flag. sym (other-flag flags b (k / block_size) now ne) ∙ flag;
}

-- a block that has none
pub looked-past : (s : Standing) (rows : List Row) (flags : List Bool) (k : ℕ) → (k / block_size < length flags → ⊥) → IsLookedAt s rows k flags flags
looked-past s rows flags k past = record {
  here = λ j e flag. absurd (past (flagged flags (k / block_size) flag));
  others = λ b ne flag. flag;
}

-- the blocks once the row at place k has another mark, and its block was looked at
pub without-again : (s : Standing) (rows : List Row) (flags now : List Bool) (k : ℕ) (row : Row) → AreWithout s flags rows → IsLookedAt s (slice_set rows k row) k flags now
    → AreWithout s now (slice_set rows k row)
without-again s rows flags now k row without looked j flag = elim (cases_eq (j / block_size) (k / block_size)) [
  | inl e ↦ looked.here j e (sym (ap (flag_at now) e) ∙ flag)
  | inr ne ↦ stands-elsewhere s rows k j row (λ e. ne (ap (λ (n : ℕ). n / block_size) e)) (without j (looked.others (j / block_size) ne flag))
]

-- no flag is set that wasn't
pub without-fewer : (s : Standing) (rows : List Row) (flags now : List Bool) → AreWithout s flags rows → ((b : ℕ) → flag_at now b ≡ true → flag_at flags b ≡ true) → AreWithout s now rows
without-fewer s rows flags now without fewer j flag = without j (fewer (j / block_size) flag)

-- a flag that is set back
pub fewer-set : (flags : List Bool) (block b : ℕ) → block < length flags → flag_at (slice_set flags block false) b ≡ true → flag_at flags b ≡ true
fewer-set flags block b within flag = elim (cases_eq b block) [
  | inl e ↦ absurd (false≢true (sym (ap (flag_at (slice_set flags block false)) e ∙ same-flag flags block false within) ∙ flag))
  | inr ne ↦ sym (other-flag flags b block false ne) ∙ flag
]

pub unset : (flags : List Bool) (block : ℕ) → block < length flags → flag_at (slice_set flags block false) block ≡ false
unset flags block within = same-flag flags block false within

-- there is none past the end
pub none-past : (flags : List Bool) (b : ℕ) → (b < length flags → ⊥) → flag_at flags b ≡ false
none-past flags b past = go (flag_at flags b) refl
  where
    go : (x : Bool) → flag_at flags b ≡ x → x ≡ false
    go true is = absurd (past (flagged flags b is))
    go false is = refl

-- one more that isn't set
pub more-flags : (flags : List Bool) (b : ℕ) → flag_at (flags ++ false ∷ []) b ≡ true → flag_at flags b ≡ true
more-flags [] zero is = is
more-flags [] (suc b) is = is
more-flags (f ∷ fs) zero is = is
more-flags (f ∷ fs) (suc b) is = more-flags fs b is

pub last-flag : (flags : List Bool) → flag_at (flags ++ false ∷ []) (length flags) ≡ false
last-flag [] = refl
last-flag (f ∷ fs) = last-flag fs

-- a row behind others, and those before it
row-behind : (s : Standing) (rows : List Row) (row : Row) (j : ℕ) → (j ≡ length rows) ⊎ (stands_at s (rows ++ row ∷ []) j ≡ stands_at s rows j)
row-behind s [] row zero = inl refl
row-behind s [] row (suc j) = inr refl
row-behind s (x ∷ xs) row zero = inr refl
row-behind s (x ∷ xs) row (suc j) = elim (row-behind s xs row j) [
  | inl e ↦ inl (ap suc e)
  | inr same ↦ inr same
]

-- a row comes behind the others in a block that isn't flagged
pub without-behind : (s : Standing) (rows : List Row) (flags : List Bool) (row : Row) → AreWithout s flags rows
    → flag_at flags (length rows / block_size) ≡ false → AreWithout s flags (rows ++ row ∷ [])
without-behind s rows flags row without none j flag = elim (row-behind s rows row j) [
  | inl e ↦ absurd (false≢true (sym (ap (λ (n : ℕ). flag_at flags (n / block_size)) e ∙ none) ∙ flag))
  | inr same ↦ same ∙ without j flag
]
