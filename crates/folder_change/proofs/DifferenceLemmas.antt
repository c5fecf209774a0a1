-- Lists of texts that agree up to a place.
use Rattle.std.proofs.Common.{◌≡◌, ℕ, suc, ◌+◌, ◌<◌, ◌≤◌, true, false, Bool, not, List, [], ◌∷◌, ◌++◌, length, take, drop, get_or, refl, sym, ap, ◌∙◌, arith, append_assoc, length-take, take-append-drop}
use Rattle.std.specs.List.{starts_with, common_prefix_len}
use Rattle.std.specs.Str.{bytes_eq}
use Rattle.std.proofs.lemmas.Bool.{cond-true, cond-false, and_from, and_left, and_right, false_from_ne_true, false≢true, not-false}
use Rattle.std.proofs.lemmas.List.{take_all, take_more, append-nil}
use Rattle.std.proofs.lemmas.Slice.Eq.{bytes_eq-Decides}
use Rattle.folder_change.specs.Outcomes.{DiffersAt}

same_bytes : (x : List ℕ) → bytes_eq x x ≡ true
same_bytes x = (bytes_eq-Decides x x).1 refl

other_bytes : (x y : List ℕ) → (x ≡ y → ⊥) → bytes_eq x y ≡ false
other_bytes x y ne = false_from_ne_true _ (λ t. ne ((bytes_eq-Decides x y).0 t))

-- what the code's comparison says
pub ne-true : (x y m : List ℕ) (r : Bool) → r ≡ not (bytes_eq x y) → r ≡ true → y ≡ m → x ≡ m → ⊥
ne-true x y m r is t same e = false≢true (sym (ap not ((bytes_eq-Decides x y).1 (e ∙ sym same))) ∙ sym is ∙ t)

pub ne-false : (x y m : List ℕ) (r : Bool) → r ≡ not (bytes_eq x y) → r ≡ false → y ≡ m → x ≡ m
ne-false x y m r is f same = (bytes_eq-Decides x y).0 (not-false _ (sym is ∙ f)) ∙ same

-- a list begins with its front
pub starts_with-front : (base rest : List (List ℕ)) → starts_with bytes_eq (base ++ rest) base ≡ true
starts_with-front [] rest = refl
starts_with-front (x ∷ xs) rest = and_from _ _ (same_bytes x) (starts_with-front xs rest)

-- lists that have another text after the same front
differs-other : (front xs ys : List (List ℕ)) (x y : List ℕ) → (x ≡ y → ⊥) → DiffersAt (front ++ x ∷ xs) (front ++ y ∷ ys) (length front)
differs-other [] xs ys x y ne = record { other = and_left _ _ (other_bytes x y ne); same = cond-false _ _ _ (other_bytes x y ne) }
differs-other (z ∷ front) xs ys x y ne =
    let h = differs-other front xs ys x y ne in
    record {
      other = and_right _ _ h.other;
      same = cond-true _ _ _ (same_bytes z) ∙ ap (λ (n : ℕ). 1 + n) h.same ∙ (let e : 1 + length front ≡ suc (length front) = omega arith in e);
    }

-- a list that ends after the front of another
differs-short : (front xs : List (List ℕ)) (x : List ℕ) → DiffersAt (front ++ x ∷ xs) front (length front)
differs-short [] xs x = record { other = refl; same = refl }
differs-short (z ∷ front) xs x =
    let h = differs-short front xs x in
    record {
      other = and_right _ _ h.other;
      same = cond-true _ _ _ (same_bytes z) ∙ ap (λ (n : ℕ). 1 + n) h.same ∙ (let e : 1 + length front ≡ suc (length front) = omega arith in e);
    }

moved : (base now base' now' : List (List ℕ)) (k k' : ℕ) → base ≡ base' → now ≡ now' → k' ≡ k → DiffersAt base' now' k' → DiffersAt base now k
moved base now base' now' k k' eb en ek d = record {
  other = ap (λ (l : List (List ℕ)). starts_with bytes_eq l base) en ∙ ap (starts_with bytes_eq now') eb ∙ d.other;
  same = ap (λ (l : List (List ℕ)). common_prefix_len bytes_eq l now) eb ∙ ap (common_prefix_len bytes_eq base') en ∙ d.same ∙ ek;
}

-- the walk over the base: its first k texts stood at the front, and these are left
pub record IsWalked (base now left : List (List ℕ)) (k : ℕ) : Type 0 where
  pub front : now ≡ take k base ++ left

split_at : (base : List (List ℕ)) (k : ℕ) (m : List ℕ) → take (k + 1) base ≡ take k base ++ m ∷ [] → base ≡ take k base ++ m ∷ drop (k + 1) base
split_at base k m e = sym (take-append-drop (k + 1) base) ∙ ap (λ (l : List (List ℕ)). l ++ drop (k + 1) base) e ∙ append_assoc (take k base) (m ∷ []) (drop (k + 1) base)

pub walked-none : (base now : List (List ℕ)) → IsWalked base now now 0
walked-none base now = record { front = refl }

pub walked-more : (base now left later : List (List ℕ)) (k : ℕ) (m t : List ℕ) → IsWalked base now left k → left ≡ t ∷ later → take (k + 1) base ≡ take k base ++ m ∷ [] → t ≡ m
    → IsWalked base now later (k + 1)
walked-more base now left later k m t h next e same = record {
  front = h.front ∙ ap (λ (l : List (List ℕ)). take k base ++ l) (next ∙ ap (λ (x : List ℕ). x ∷ later) same)
      ∙ sym (append_assoc (take k base) (m ∷ []) later) ∙ ap (λ (l : List (List ℕ)). l ++ later) (sym e);
}

pub walked-other : (base now left later : List (List ℕ)) (k : ℕ) (m t : List ℕ) → IsWalked base now left k → k < length base → left ≡ t ∷ later
    → take (k + 1) base ≡ take k base ++ m ∷ [] → (t ≡ m → ⊥)
    → DiffersAt base now k
walked-other base now left later k m t h lt next e ne =
    let count : length (take k base) ≡ k = omega (arith, length-take k base) in
    let d = differs-other (take k base) (drop (k + 1) base) later m t (λ same. ne (sym same)) in
    moved base now _ _ k _ (split_at base k m e) (h.front ∙ ap (λ (l : List (List ℕ)). take k base ++ l) next) count d

pub walked-short : (base now left : List (List ℕ)) (k : ℕ) → IsWalked base now left k → k < length base → left ≡ [] → DiffersAt base now k
walked-short base now left k h lt none =
    let count : length (take k base) ≡ k = omega (arith, length-take k base) in
    let m = get_or base k [] in
    let d = differs-short (take k base) (drop (k + 1) base) m in
    moved base now _ _ k _ (split_at base k m (take_more base k [] lt)) (h.front ∙ ap (λ (l : List (List ℕ)). take k base ++ l) none ∙ append-nil (take k base)) count d

pub walked-all : (base now left : List (List ℕ)) (k : ℕ) → IsWalked base now left k → length base ≤ k → now ≡ base ++ left
walked-all base now left k h past = h.front ∙ ap (λ (l : List (List ℕ)). l ++ left) (take_all k base past)
