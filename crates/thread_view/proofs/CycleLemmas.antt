-- Messages above others, and cycles of parents.
use Rattle.std.proofs.Common.{◌≡◌, ◌≢◌, ◌⊎◌, ℕ, zero, suc, ◌+◌, ◌-◌, ◌*◌, ◌<◌, ◌≤◌, List, [], ◌∷◌, length, slice_index, refl, sym, ap, subst, ◌∙◌, inl, inr, arith, zero-add, suc-add, length-append}
use Rattle.std.proofs.lemmas.Bool.{cases_eq}
use Rattle.thread_view.specs.Cycles.{above, LosesParent, IsUnder}
use Rattle.thread_view.specs.Arrays.{AreCut, ArePathsIn, IsParentArray}

pub above-none : (f : ℕ → ℕ) (k : ℕ) → above f 0 k ≡ k
unfolding above
above-none f k = refl

pub above-suc : (f : ℕ → ℕ) (n k : ℕ) → above f (suc n) k ≡ above f n (f k)
unfolding above
above-suc f n k = refl

pub above-add : (f : ℕ → ℕ) (a b k : ℕ) → above f (a + b) k ≡ above f b (above f a k)
unfolding above
above-add f zero b k = ap (λ (n : ℕ). above f n k) (zero-add b)
above-add f (suc a) b k = ap (λ (n : ℕ). above f n k) (suc-add a b) ∙ above-add f a b (f k)

pub above-one : (f : ℕ → ℕ) (k : ℕ) → above f 1 k ≡ f k
above-one f k = above-suc f 0 k ∙ above-none f (f k)

-- a message that stands above itself does so after each number of turns
above-turns : (f : ℕ → ℕ) (n k : ℕ) → above f (suc n) k ≡ k → (d : ℕ) → above f (d * suc n) k ≡ k
above-turns f n k again zero = ap (λ (m : ℕ). above f m k) (omega arith) ∙ above-none f k
above-turns f n k again (suc d) =
    let split : suc d * suc n ≡ suc n + d * suc n = grind arith in
    ap (λ (m : ℕ). above f m k) split ∙ above-add f (suc n) (d * suc n) k ∙ ap (above f (d * suc n)) again ∙ above-turns f n k again d

-- ---- a cycle on a trail, from a place on: the last message has the first one as its parent
module _ (f : ℕ → ℕ) (t : ℕ → ℕ) (start last : ℕ)
    (next : (i : ℕ) → i < last → f (t i) ≡ t (i + 1))
    (round : f (t last) ≡ t start) where
  along : (n i : ℕ) → i + n ≤ last → above f n (t i) ≡ t (i + n)
  along zero i within = above-none f (t i) ∙ ap t (omega arith)
  along (suc n) i within =
      above-suc f n (t i) ∙ ap (above f n) (next i (omega arith)) ∙ along n (i + 1) (omega arith) ∙ ap t (omega arith)

  stays : (m i : ℕ) → start ≤ i → i ≤ last → (j : ℕ) × (start ≤ j) × (j ≤ last) × (above f m (t i) ≡ t j)
  stays zero i low high = (i, low, high, above-none f (t i))
  stays (suc m) i low high =
      elim (cases_eq i last) [
        | inl e ↦ let on = stays m start (omega arith) (omega arith) in (on.0, on.1, on.2, above-suc f m (t i) ∙ ap (above f m) (ap (λ (x : ℕ). f (t x)) e ∙ round) ∙ on.3)
        | inr n ↦ let on = stays m (i + 1) (omega arith) (omega arith) in (on.0, on.1, on.2, above-suc f m (t i) ∙ ap (above f m) (next i (omega arith)) ∙ on.3)
      ]

  pub least_loses : (least : ℕ) → start ≤ least → least ≤ last → ((i : ℕ) → start ≤ i → i ≤ last → t least ≤ t i) → LosesParent f (t least)
  least_loses least low high below = (
    (last - least) + (least - start),
    ap (λ (n : ℕ). above f n (t least)) (omega arith)
        ∙ above-add f (last - least) (1 + (least - start)) (t least)
        ∙ ap (above f (1 + (least - start))) (along (last - least) least (omega arith) ∙ ap t (omega arith))
        ∙ above-add f 1 (least - start) (t last)
        ∙ ap (above f (least - start)) (above-one f (t last) ∙ round)
        ∙ along (least - start) start (omega arith)
        ∙ ap t (omega arith),
    λ m. let on = stays m least low high in subst (λ (x : ℕ). t least ≤ x) (sym on.3) (below on.0 on.1 on.2),
  )

-- ---- a forest that is cut from parents
module _ (before parents : List ℕ) (cut : AreCut before parents) (path : ℕ → List ℕ) (paths : ArePathsIn parents path) (array : IsParentArray parents) where
  -- above each message there is one without a parent
  root : (n k : ℕ) → length (path k) ≤ n → 1 ≤ k → k < length parents → (d : ℕ) × (1 ≤ above (slice_index before) d k) × (slice_index parents (above (slice_index before) d k) ≡ 0)
  root zero k short low high =
      absurd (let long = ap length (paths.each k low high) ∙ length-append (path (slice_index parents k)) (k ∷ []) in omega arith)
  root (suc n) k short low high = go (cases_eq (slice_index parents k) 0) (cut.each k low) (root n (slice_index parents k))
    where
      Up : Type 0
      Up = length (path (slice_index parents k)) ≤ n → 1 ≤ slice_index parents k → slice_index parents k < length parents
          → (d : ℕ) × (1 ≤ above (slice_index before) d (slice_index parents k)) × (slice_index parents (above (slice_index before) d (slice_index parents k)) ≡ 0)

      Root : Type 0
      Root = (d : ℕ) × (1 ≤ above (slice_index before) d k) × (slice_index parents (above (slice_index before) d k) ≡ 0)

      here : slice_index parents k ≡ 0 → Root
      here none = let at = above-none (slice_index before) k in (0, subst (λ (x : ℕ). 1 ≤ x) (sym at) low, ap (slice_index parents) at ∙ none)

      go : (slice_index parents k ≡ 0) ⊎ (slice_index parents k ≢ 0)
          → (slice_index parents k ≡ slice_index before k) ⊎ (LosesParent (slice_index before) k × (slice_index parents k ≡ 0))
          → Up → Root
      go (inl none) each rec = here none
      go (inr some) (inr loses) rec = absurd (some loses.1)
      go (inr some) (inl same) rec =
          let long = ap length (paths.each k low high) ∙ length-append (path (slice_index parents k)) (k ∷ []) in
          let up = rec (omega arith) (omega arith) (array.within k high) in
          let at : above (slice_index before) (suc up.0) k ≡ above (slice_index before) up.0 (slice_index parents k) =
          above-suc (slice_index before) up.0 k ∙ ap (above (slice_index before) up.0) (sym same) in
          (suc up.0, subst (λ (x : ℕ). 1 ≤ x) (sym at) up.1, ap (slice_index parents) at ∙ up.2)

  -- a message that keeps its parent loses none
  kept : (k : ℕ) → 1 ≤ k → k < length parents → slice_index parents k ≡ slice_index before k → LosesParent (slice_index before) k → ⊥
  kept k low high same loses = go (cut.each top up.1)
    where
      up : (d : ℕ) × (1 ≤ above (slice_index before) d k) × (slice_index parents (above (slice_index before) d k) ≡ 0)
      up = root (length (path k)) k (omega arith) low high

      top : ℕ
      top = above (slice_index before) up.0 k

      none_above : slice_index before top ≡ 0 → ⊥
      none_above none =
          let over = above-add (slice_index before) up.0 1 k ∙ above-one (slice_index before) top ∙ none in
          let least = loses.2 (up.0 + 1) in
          omega arith

      go : (slice_index parents top ≡ slice_index before top) ⊎ (LosesParent (slice_index before) top × (slice_index parents top ≡ 0)) → ⊥
      go (inl same_top) = none_above (sym same_top ∙ up.2)
      go (inr cut_top) =
          let split : up.0 * suc loses.0 ≡ up.0 + up.0 * loses.0 = grind arith in
          let back : above (slice_index before) (up.0 * loses.0) top ≡ k =
          sym (above-add (slice_index before) up.0 (up.0 * loses.0) k) ∙ ap (λ (n : ℕ). above (slice_index before) n k) (sym split) ∙ above-turns (slice_index before) loses.0 k loses.1 up.0 in
          let least = cut_top.0.2 (up.0 * loses.0) in
          let low_top = loses.2 up.0 in
          let one : top ≡ k = omega arith in
          none_above (ap (slice_index before) one ∙ sym same ∙ ap (slice_index parents) (sym one) ∙ cut_top.1)

  pub is_under : (k : ℕ) → 1 ≤ k → k < length parents → IsUnder (slice_index before) k (slice_index parents k)
  is_under k low high = go (cut.each k low)
    where
      go : (slice_index parents k ≡ slice_index before k) ⊎ (LosesParent (slice_index before) k × (slice_index parents k ≡ 0)) → IsUnder (slice_index before) k (slice_index parents k)
      go (inl same) = inr (kept k low high same, same)
      go (inr loses) = inl loses

-- ---- cuts one after the other
pub cut-none : (parents : List ℕ) → AreCut parents parents
cut-none parents = record { size = refl; each = λ k low. inl refl }

module _ (a b : List ℕ) (first : AreCut a b) where
  same_above : (m x : ℕ) → ((n : ℕ) → 1 ≤ above (slice_index b) n x) → above (slice_index a) m x ≡ above (slice_index b) m x
  same_above zero x some = above-none (slice_index a) x ∙ sym (above-none (slice_index b) x)
  same_above (suc m) x some = go (first.each x (subst (λ (y : ℕ). 1 ≤ y) (above-none (slice_index b) x) (some 0))) (same_above m (slice_index b x))
    where
      up : (n : ℕ) → 1 ≤ above (slice_index b) n (slice_index b x)
      up n = subst (λ (y : ℕ). 1 ≤ y) (above-suc (slice_index b) n x) (some (suc n))

      go : (slice_index b x ≡ slice_index a x) ⊎ (LosesParent (slice_index a) x × (slice_index b x ≡ 0))
          → (((n : ℕ) → 1 ≤ above (slice_index b) n (slice_index b x)) → above (slice_index a) m (slice_index b x) ≡ above (slice_index b) m (slice_index b x))
          → above (slice_index a) (suc m) x ≡ above (slice_index b) (suc m) x
      go (inl same) rec =
          above-suc (slice_index a) m x
          ∙ ap (above (slice_index a) m) (sym same)
          ∙ rec up
          ∙ sym (above-suc (slice_index b) m x)
      go (inr none) rec = absurd (let one = subst (λ (y : ℕ). 1 ≤ y) (above-none (slice_index b) (slice_index b x)) (up 0) in let zero_there = none.1 in omega arith)

  loses_before : (k : ℕ) → 1 ≤ k → LosesParent (slice_index b) k → LosesParent (slice_index a) k
  loses_before k low loses =
      let same = λ (m : ℕ). same_above m k (λ n. let least = loses.2 n in omega arith) in
      (loses.0, same (suc loses.0) ∙ loses.1, λ m. subst (λ (x : ℕ). k ≤ x) (sym (same m)) (loses.2 m))

  pub cut-then : (c : List ℕ) → AreCut b c → AreCut a c
  cut-then c second = record { size = second.size ∙ first.size; each = λ k low. go k low (second.each k low) (first.each k low) }
    where
      go : (k : ℕ) → 1 ≤ k
          → (slice_index c k ≡ slice_index b k) ⊎ (LosesParent (slice_index b) k × (slice_index c k ≡ 0))
          → (slice_index b k ≡ slice_index a k) ⊎ (LosesParent (slice_index a) k × (slice_index b k ≡ 0))
          → (slice_index c k ≡ slice_index a k) ⊎ (LosesParent (slice_index a) k × (slice_index c k ≡ 0))
      go k low (inl same) (inl old) = inl (same ∙ old)
      go k low (inl same) (inr old) = inr (old.0, same ∙ old.1)
      go k low (inr loses) old = inr (loses_before k low loses.0, loses.1)
