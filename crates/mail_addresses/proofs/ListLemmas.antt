-- Fronts of lists: where a list is cut by a test, it is cut in one way.
use Rattle.std.proofs.Common.{◌≡◌, ℕ, Bool, true, false, List, [], ◌∷◌, ◌++◌, refl, sym, ap, ◌∙◌, zero, suc, get_or, ◌≤◌, take-append-drop, ◌+◌, ◌<◌, length, take, drop, append_assoc, length-append, arith}
use Rattle.std.specs.List.{list_all, list_any}
use Rattle.std.proofs.lemmas.Bool.{and_parts, or_parts, or_from, false_from_ne_true, both_ways}
use Rattle.std.proofs.lemmas.List.{take_at, drop_at, drop_more}
use Rattle.mail_addresses.specs.Lexical.{begins}

cons_same : {A : Type 0} (x y : A) (xs ys : List A) → x ≡ y → xs ≡ ys → x ∷ xs ≡ y ∷ ys
cons_same x y xs ys h t = cc

pub empty_front : {A : Type 0} (xs ys : List A) → xs ++ ys ≡ [] → xs ≡ []
empty_front [] ys e = refl
empty_front (x ∷ xs) ys e = absurd (cc)

-- at the first element that passes
pub split_unique : {A : Type 0} (p : A → Bool) (xs ys r q : List A) (m n : A) → list_any p xs ≡ false → list_any p ys ≡ false → p m ≡ true
    → p n ≡ true → xs ++ m ∷ r ≡ ys ++ n ∷ q → (xs ≡ ys) × (r ≡ q)
split_unique p [] [] r q m n a b c d e = (refl, cc)
split_unique p [] (y ∷ ys) r q m n a b c d e = let h : m ≡ y = cc in absurd (both_ways (p y) (or_parts _ _ b).0 (sym (ap p h) ∙ c))
split_unique p (x ∷ xs) [] r q m n a b c d e = let h : x ≡ n = cc in absurd (both_ways (p x) (or_parts _ _ a).0 (ap p h ∙ d))
split_unique p (x ∷ xs) (y ∷ ys) r q m n a b c d e =
    let h : x ≡ y = cc in
    let t : xs ++ m ∷ r ≡ ys ++ n ∷ q = cc in
    let parts = split_unique p xs ys r q m n (or_parts _ _ a).1 (or_parts _ _ b).1 c d t in
    (cons_same x y xs ys h parts.0, parts.1)

-- after all elements that pass
pub front_unique : {A : Type 0} (p : A → Bool) (xs ys r q : List A) → list_all p xs ≡ true → list_all p ys ≡ true → begins p r ≡ false → begins p q ≡ false → xs ++ r ≡ ys ++ q → (xs ≡ ys) × (r ≡ q)
front_unique p [] [] r q a b c d e = (refl, e)
front_unique p [] (y ∷ ys) r q a b c d e = absurd (both_ways _ (ap (begins p) (sym e) ∙ c) (and_parts _ _ b).0)
front_unique p (x ∷ xs) [] r q a b c d e = absurd (both_ways _ (ap (begins p) e ∙ d) (and_parts _ _ a).0)
front_unique p (x ∷ xs) (y ∷ ys) r q a b c d e =
    let h : x ≡ y = cc in
    let t : xs ++ r ≡ ys ++ q = cc in
    let parts = front_unique p xs ys r q (and_parts _ _ a).1 (and_parts _ _ b).1 c d t in
    (cons_same x y xs ys h parts.0, parts.1)

-- what take and drop give at a known cut
pub cut_here : {A : Type 0} (xs front back : List A) (m : A) (k : ℕ) → xs ≡ front ++ m ∷ back → k ≡ length front → (k < length xs) × (take k xs ≡ front) × (drop (k + 1) xs ≡ back)
cut_here xs front back m k e h =
    let longer : length xs ≡ length front + suc (length back) = ap length e ∙ length-append front (m ∷ back) in
    let back_is : drop (k + 1) (front ++ m ∷ back) ≡ back =
    ap (drop (k + 1)) (sym (append_assoc front (m ∷ []) back)) ∙ drop_at (front ++ m ∷ []) back (k + 1) (omega (arith, length-append front (m ∷ []))) in
    (omega arith, ap (take k) e ∙ take_at front (m ∷ back) k (sym h), ap (drop (k + 1)) e ∙ back_is)

-- no element of a front passes
pub none_before : (p : ℕ → Bool) (xs : List ℕ) (k : ℕ) → k ≤ length xs → ((j : ℕ) → j < k → p (get_or xs j 0) ≡ true → ⊥) → list_any p (take k xs) ≡ false
none_before p [] zero h none = refl
none_before p [] (suc k) h none = refl
none_before p (x ∷ xs) zero h none = refl
none_before p (x ∷ xs) (suc k) h none =
    or_from _ _ (false_from_ne_true _ (λ t. none 0 (omega arith) t)) (none_before p xs k (omega arith) (λ j lt t. none (suc j) (omega arith) t))

-- a list is what stands before a place, the element there and the others
pub cut_at : (xs : List ℕ) (k m : ℕ) → k < length xs → get_or xs k 0 ≡ m → xs ≡ take k xs ++ m ∷ drop (k + 1) xs
cut_at xs k m lt e = sym (take-append-drop k xs) ∙ ap (λ (ys : List ℕ). take k xs ++ ys) (drop_more xs k 0 lt ∙ ap (λ x. x ∷ drop (k + 1) xs) e)
