-- Paths in a forest.
use Rattle.std.proofs.Common.{◌≡◌, ◌≢◌, ◌⊎◌, ℕ, zero, suc, ◌+◌, ◌<◌, ◌≤◌, List, [], ◌∷◌, ◌++◌, length, slice_index, refl, sym, ap, subst, ◌∙◌, inl, inr, arith, append_assoc, length-append}
use Rattle.std.proofs.lemmas.Bool.{cases_eq}
use Rattle.std.proofs.lemmas.List.{same_from_push}
use Rattle.thread_view.specs.Arrays.{ArePathsIn, IsIn, IsParentArray}

-- a list is empty or has a last element
pub data Ends (xs : List ℕ) : Type 0 where
  empty : xs ≡ [] → Ends xs
  ends : (front : List ℕ) (z : ℕ) → xs ≡ front ++ z ∷ [] → Ends xs

pub ends_of : (xs : List ℕ) → Ends xs
ends_of [] = empty refl
ends_of (x ∷ xs) = go (ends_of xs)
  where
    go : Ends xs → Ends (x ∷ xs)
    go (empty e) = ends [] x (ap (λ (l : List ℕ). x ∷ l) e)
    go (ends front z e) = ends (x ∷ front) z (ap (λ (l : List ℕ). x ∷ l) e)

none-longer : (front rest : List ℕ) (y : ℕ) → [] ≡ front ++ y ∷ rest → ⊥
none-longer front rest y e = let l = ap length e ∙ length-append front (y ∷ rest) in omega arith

module _ (parents : List ℕ) (array : IsParentArray parents) (path : ℕ → List ℕ) (paths : ArePathsIn parents path) where
  pub long : (k : ℕ) → IsIn parents k → length (path k) ≡ length (path (slice_index parents k)) + 1
  long k is = ap length (paths.each k is.0 is.1) ∙ length-append (path (slice_index parents k)) (k ∷ [])

  -- y is a message with this path, and the front is the path of its parent
  pub record IsChildAt (front : List ℕ) (y : ℕ) : Type 0 where
    pub here : IsIn parents y
    pub path_is : path y ≡ front ++ y ∷ []
    pub parent : path (slice_index parents y) ≡ front

  abbrev Up : ℕ → ℕ → Type 0
  Up n m = (front : List ℕ) (y : ℕ) (rest : List ℕ) → length (path m) ≤ n → m < length parents → path m ≡ front ++ y ∷ rest → IsChildAt front y

  step : (n m : ℕ) → Up n (slice_index parents m) → Up (suc n) m
  step n m rec front y rest short high is = go (cases_eq m 0) (ends_of rest)
    where
      go : (m ≡ 0) ⊎ (m ≢ 0) → Ends rest → IsChildAt front y
      go (inl e) end = absurd (none-longer front rest y (sym (ap path e ∙ paths.none) ∙ is))
      go (inr some) (empty e) =
          let here : IsIn parents m = (omega arith, high) in
          let both = same_from_push (path (slice_index parents m)) front m y (sym (paths.each m here.0 high) ∙ is ∙ ap (λ (l : List ℕ). front ++ y ∷ l) e) in
          record {
            here = subst (IsIn parents) both.1 here;
            path_is = ap path (sym both.1) ∙ is ∙ ap (λ (l : List ℕ). front ++ y ∷ l) e;
            parent = ap (λ (k : ℕ). path (slice_index parents k)) (sym both.1) ∙ both.0;
          }
      go (inr some) (ends less z e) =
          let here : IsIn parents m = (omega arith, high) in
          let both = same_from_push (path (slice_index parents m)) (front ++ y ∷ less) m z
          (sym (paths.each m here.0 high) ∙ is ∙ ap (λ (l : List ℕ). front ++ y ∷ l) e ∙ sym (append_assoc front (y ∷ less) (z ∷ []))) in
          let l = long m here in
          rec front y less (omega arith) (array.within m high) both.0

  on_path : (n m : ℕ) → Up n m
  on_path zero m = λ front y rest short high is. absurd (let l = ap length is ∙ length-append front (y ∷ rest) in omega arith)
  on_path (suc n) m = step n m (on_path n (slice_index parents m))

  -- each message on a path has its own path up to there
  pub child_at : (m : ℕ) (front : List ℕ) (y : ℕ) (rest : List ℕ) → m < length parents → path m ≡ front ++ y ∷ rest → IsChildAt front y
  child_at m front y rest high is = on_path (length (path m)) m front y rest (omega arith) high is

  -- no two have the same path
  pub one_path : (a b : ℕ) → a < length parents → b < length parents → path a ≡ path b → a ≡ b
  one_path a b low high same = go (cases_eq a 0) (cases_eq b 0)
    where
      go : (a ≡ 0) ⊎ (a ≢ 0) → (b ≡ 0) ⊎ (b ≢ 0) → a ≡ b
      go (inl x) (inl y) = x ∙ sym y
      go (inl x) (inr y) = absurd (none-longer (path (slice_index parents b)) [] b (sym (ap path x ∙ paths.none) ∙ same ∙ paths.each b (omega arith) high))
      go (inr x) (inl y) = absurd (none-longer (path (slice_index parents a)) [] a (sym (ap path y ∙ paths.none) ∙ sym same ∙ paths.each a (omega arith) low))
      go (inr x) (inr y) = (same_from_push (path (slice_index parents a)) (path (slice_index parents b)) a b (sym (paths.each a (omega arith) low) ∙ same ∙ paths.each b (omega arith) high)).1
