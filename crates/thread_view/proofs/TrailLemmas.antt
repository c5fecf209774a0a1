-- Trails of messages, each followed by its parent.
use Rattle.std.proofs.Common.{◌≡◌, ◌≢◌, ◌⊎◌, ℕ, zero, suc, ◌+◌, ◌-◌, ◌<◌, ◌≤◌, ◌==◌, Bool, true, false, List, [], ◌∷◌, ◌++◌, length, take, set, get_or, slice_index, refl, sym, ap, subst, ◌∙◌, inl, inr, arith, length-append, length-set, get_or-take, ◌||◌, true≢false, if◌then◌else◌, replicate, get_or-set_same, get_or-set_other, eq-eqb, ne_eqb, eqb}
use Rattle.std.specs.List.{list_any}
use Rattle.std.proofs.lemmas.Bool.{cases_eq, cond-true, cond-false}
use Rattle.std.proofs.lemmas.List.{get_or_append_left, get_or_push, get_or_default, length-take-le, length-replicate}
use Rattle.std.proofs.lemmas.Map.Keys.{IsDistinct-from_apart}
use Rattle.std.proofs.lemmas.Map.Steps.{length-le_from_distinct_below}
use Rattle.thread_view.specs.Cycles.{LosesParent}
use Rattle.thread_view.specs.Arrays.{is_done, end_of, AreCut, ArePlaces, HavePaths, IsParentArray, IsTrail, StartsAt}
use Rattle.thread_view.proofs.CycleLemmas.{least_loses}

pub end-none : (parents trail : List ℕ) (k : ℕ) → length trail ≡ 0 → end_of parents trail k ≡ k
end-none parents trail k none = cond-true _ _ _ (eq-eqb (length trail) 0 none)

pub end-some : (parents trail : List ℕ) (k : ℕ) → 0 < length trail → end_of parents trail k ≡ slice_index parents (slice_index trail (length trail - 1))
end-some parents trail k some = cond-false _ _ _ (ne_eqb (length trail) 0 (λ e. omega arith))

-- ---- one more message
module _ (trail : List ℕ) (x : ℕ) where
  abbrev more : List ℕ
  more = trail ++ x ∷ []

  long : length more ≡ length trail + 1
  long = length-append trail (x ∷ [])

  front : (i : ℕ) → i < length trail → slice_index more i ≡ slice_index trail i
  front i lt = get_or_append_left trail (x ∷ []) 0 i lt

  last : slice_index more (length trail) ≡ x
  last = get_or_push trail x 0 (length trail) refl

  -- what holds of each message and of one more
  each : (P : ℕ → Type 0) → ((i : ℕ) → i < length trail → P (slice_index trail i)) → P x → (i : ℕ) → i < length more → P (slice_index more i)
  each P old new i lt =
      elim (cases_eq i (length trail)) [
        | inl e ↦ subst P (sym (ap (slice_index more) e ∙ last)) new
        | inr n ↦ let old_place : i < length trail = omega (arith, long) in subst P (sym (front i old_place)) (old i old_place)
      ]

  pub end-more : (parents : List ℕ) (k : ℕ) → end_of parents more k ≡ slice_index parents x
  end-more parents k =
      end-some parents more k (omega (arith, long))
      ∙ ap (slice_index parents) (ap (slice_index more) (omega (arith, long)) ∙ last)

  pub starts-more : (parents : List ℕ) (k : ℕ) → StartsAt trail k → end_of parents trail k ≡ x → StartsAt more k
  starts-more parents k start leads some =
      elim (cases_eq (length trail) 0) [
        | inl none ↦ ap (slice_index more) (sym none) ∙ last ∙ sym leads ∙ end-none parents trail k none
        | inr n ↦ front 0 (omega arith) ∙ start (omega arith)
      ]

  pub trail-more : (parents : List ℕ) (done : List Bool) (k : ℕ) → IsTrail parents done trail → end_of parents trail k ≡ x → 1 ≤ x
      → x < length parents → is_done done x ≡ false → ((i : ℕ) → i < length trail → slice_index trail i ≢ x) → IsTrail parents done more
  trail-more parents done k old leads low high not_done away = record {
    within = each (λ m. (1 ≤ m) × (m < length parents)) old.within (low, high);
    undone = each (λ m. is_done done m ≡ false) old.undone not_done;
    next = next;
    differ = differ;
  }
    where
      next : (i : ℕ) → i + 1 < length more → slice_index parents (slice_index more i) ≡ slice_index more (i + 1)
      next i lt =
          let here : i < length trail = omega (arith, long) in
          elim (cases_eq (i + 1) (length trail)) [
            | inl e ↦ ap (slice_index parents) (front i here ∙ ap (slice_index trail) (omega arith)) ∙ sym (end-some parents trail k (omega arith)) ∙ leads ∙ sym (ap (slice_index more) e ∙ last)
            | inr n ↦ ap (slice_index parents) (front i here) ∙ old.next i (omega (arith, long)) ∙ sym (front (i + 1) (omega (arith, long)))
          ]

      differ : (i j : ℕ) → i < j → j < length more → slice_index more i ≢ slice_index more j
      differ i j lt high same =
          let here : i < length trail = omega (arith, long) in
          elim (cases_eq j (length trail)) [
            | inl e ↦ away i here (sym (front i here) ∙ same ∙ ap (slice_index more) e ∙ last)
            | inr n ↦ let there : j < length trail = omega (arith, long) in old.differ i j lt there (sym (front i here) ∙ same ∙ front j there)
          ]

  pub places-more : (places : List ℕ) → ArePlaces places trail → x < length places → ((i : ℕ) → i < length trail → slice_index trail i ≢ x) → ArePlaces (set places x (length trail)) more
  places-more places old within away i lt =
      elim (cases_eq i (length trail)) [
        | inl e ↦ ap (slice_index (set places x (length trail))) (ap (slice_index more) e ∙ last) ∙ get_or-set_same places x (length trail) 0 within ∙ sym e
        | inr n ↦ let here : i < length trail = omega (arith, long) in
            ap (slice_index (set places x (length trail))) (front i here) ∙ get_or-set_other places x (slice_index trail i) (length trail) 0 (away i here) ∙ old i here
      ]

on_list : (xs : List ℕ) (q : ℕ) → list_any (eqb q) xs ≡ true → (i : ℕ) × (i < length xs) × (slice_index xs i ≡ q)
on_list [] q on = absurd (true≢false (sym on))
on_list (x ∷ xs) q on =
    elim (cases_eq q x) [
      | inl e ↦ (0, omega arith, sym e)
      | inr n ↦ let at = on_list xs q (sym (ap (λ (b : Bool). b || list_any (eqb q) xs) (ne_eqb q x n)) ∙ on) in (suc at.0, omega arith, at.2)
    ]

-- a trail has at most as many messages as there are places
pub trail-short : (parents : List ℕ) (done : List Bool) (trail : List ℕ) → IsTrail parents done trail → length trail ≤ length parents
trail-short parents done trail is =
    length-le_from_distinct_below trail (length parents)
    (IsDistinct-from_apart eqb trail
    (λ i j d lt high. ne_eqb _ _ (λ e. is.differ i j lt high (get_or_default trail i 0 d (omega arith) ∙ e ∙ get_or_default trail j d 0 high))))
    (λ q on. let at = on_list trail q on in let w = (is.within at.0 at.1).1 in omega arith)

-- ---- the last message is taken off, and is done then
module _ (parents : List ℕ) (done : List Bool) (trail : List ℕ) (x k : ℕ) (old : IsTrail parents done (more trail x))
    (start : StartsAt (more trail x) k) (size : length done ≡ length parents) where
  abbrev now : List Bool
  now = set done x true

  within : (1 ≤ x) × (x < length parents)
  within =
      let at = old.within (length trail) (omega (arith, long trail x)) in
      (subst (λ (m : ℕ). 1 ≤ m) (last trail x) at.0, subst (λ (m : ℕ). m < length parents) (last trail x) at.1)

  here : is_done now x ≡ true
  here = get_or-set_same done x true false (let w = within.1 in omega arith)

  other : (m : ℕ) → m ≢ x → is_done now m ≡ is_done done m
  other m n = get_or-set_other done x m true false n

  pub done-more : (m : ℕ) → is_done done m ≡ true → is_done now m ≡ true
  done-more m was =
      elim (cases_eq m x) [
        | inl e ↦ ap (is_done now) e ∙ here
        | inr n ↦ other m n ∙ was
      ]

  away : (i : ℕ) → i < length trail → slice_index trail i ≢ x
  away i lt e = old.differ i (length trail) lt (omega (arith, long trail x)) (front trail x i lt ∙ e ∙ sym (last trail x))

  pub trail-less : IsTrail parents now trail
  trail-less = record {
    within = λ i lt. subst (λ (m : ℕ). (1 ≤ m) × (m < length parents)) (front trail x i lt) (old.within i (omega (arith, long trail x)));
    undone = λ i lt. other (slice_index trail i) (away i lt) ∙ ap (is_done done) (sym (front trail x i lt)) ∙ old.undone i (omega (arith, long trail x));
    next = λ i lt. ap (slice_index parents) (sym (front trail x i (omega arith))) ∙ old.next i (omega (arith, long trail x)) ∙ front trail x (i + 1) lt;
    differ = λ i j lt high e. old.differ i j lt (omega (arith, long trail x)) (front trail x i (omega arith) ∙ e ∙ sym (front trail x j high));
  }

  pub starts-less : StartsAt trail k
  starts-less some = sym (front trail x 0 some) ∙ start (omega (arith, long trail x))

  pub end-less : is_done now (end_of parents trail k) ≡ true
  end-less =
      elim (cases_eq (length trail) 0) [
        | inl none ↦ ap (is_done now) (end-none parents trail k none ∙ sym (start (omega (arith, long trail x))) ∙ ap (slice_index (more trail x)) (sym none) ∙ last trail x) ∙ here
        | inr n ↦ let lt : length trail - 1 < length trail = omega arith in
            ap (is_done now) (end-some parents trail k (omega arith) ∙ ap (slice_index parents) (sym (front trail x (length trail - 1) lt))
            ∙ old.next (length trail - 1) (omega (arith, long trail x)) ∙ ap (slice_index (more trail x)) (omega arith) ∙ last trail x) ∙ here
      ]

  pub paths-more : HavePaths parents done → is_done done (end_of parents (more trail x) k) ≡ true → HavePaths parents now
  paths-more had leads = record {
    path = path;
    none = cond-false _ _ _ (ne_eqb 0 x (λ e. let w = within.0 in omega arith)) ∙ had.none;
    none_done = done-more 0 had.none_done;
    each = each_path;
    closed = closed;
  }
    where
      above_x : is_done done (slice_index parents x) ≡ true
      above_x = ap (is_done done) (sym (end-more trail x parents k)) ∙ leads

      undone : is_done done x ≡ false
      undone = ap (is_done done) (sym (last trail x)) ∙ old.undone (length trail) (omega (arith, long trail x))

      apart : (m : ℕ) → is_done done m ≡ true → m ≢ x
      apart m was e = true≢false (sym was ∙ ap (is_done done) e ∙ undone)

      path : ℕ → List ℕ
      path m = if m == x then had.path (slice_index parents x) ++ x ∷ [] else had.path m

      same : (m : ℕ) → is_done done m ≡ true → path m ≡ had.path m
      same m was = cond-false _ _ _ (ne_eqb m x (apart m was))

      was_done : (m : ℕ) → m ≢ x → is_done now m ≡ true → is_done done m ≡ true
      was_done m n is = sym (other m n) ∙ is

      each_path : (m : ℕ) → 1 ≤ m → is_done now m ≡ true → path m ≡ path (slice_index parents m) ++ m ∷ []
      each_path m low is =
          elim (cases_eq m x) [
            | inl e ↦ cond-true _ _ _ (eq-eqb m x e) ∙ ap (λ (l : List ℕ). l ++ x ∷ []) (sym (same (slice_index parents x) above_x)) ∙ ap (λ (n : ℕ). path (slice_index parents n) ++ n ∷ []) (sym e)
            | inr n ↦ let was = was_done m n is in same m was ∙ had.each m low was ∙ ap (λ (l : List ℕ). l ++ m ∷ []) (sym (same (slice_index parents m) (had.closed m was)))
          ]

      closed : (m : ℕ) → is_done now m ≡ true → is_done now (slice_index parents m) ≡ true
      closed m is =
          elim (cases_eq m x) [
            | inl e ↦ done-more (slice_index parents m) (ap (λ (n : ℕ). is_done done (slice_index parents n)) e ∙ above_x)
            | inr n ↦ done-more (slice_index parents m) (had.closed m (was_done m n is))
          ]

-- ---- the least message of a cycle loses its parent
module _ (parents : List ℕ) (done : List Bool) (trail : List ℕ) (start least k : ℕ) (old : IsTrail parents done trail)
    (low : start ≤ least) (high : least < length trail)
    (round : end_of parents trail k ≡ slice_index trail start)
    (below : (i : ℕ) → start ≤ i → i < length trail → slice_index trail least ≤ slice_index trail i) where
  pub cut-least : AreCut parents (set parents (slice_index trail least) 0)
  cut-least = record { size = length-set parents (slice_index trail least) 0; each = each_cut }
    where
      each_cut : (m : ℕ) → 1 ≤ m → (slice_index (set parents (slice_index trail least) 0) m ≡ slice_index parents m)
          ⊎ (LosesParent (slice_index parents) m × (slice_index (set parents (slice_index trail least) 0) m ≡ 0))
      each_cut m some =
          elim (cases_eq m (slice_index trail least)) [
            | inl e ↦
                inr (
                  subst (LosesParent (slice_index parents)) (sym e)
                      (least_loses (slice_index parents) (slice_index trail) start (length trail - 1)
                      (λ i lt. old.next i (omega arith))
                      (sym (end-some parents trail k (omega arith)) ∙ round)
                      least low (omega arith) (λ i from to. below i from (omega arith))),
                  ap (slice_index (set parents (slice_index trail least) 0)) e ∙ get_or-set_same parents (slice_index trail least) 0 0 ((old.within least high).1),
                )
            | inr n ↦ inl (get_or-set_other parents (slice_index trail least) m 0 0 n)
          ]

  pub trail-cut : IsTrail (set parents (slice_index trail least) 0) done (take (least + 1) trail)
  trail-cut = record {
    within = λ i lt. subst (λ (m : ℕ). (1 ≤ m) × (m < length (set parents (slice_index trail least) 0))) (sym (at i lt))
        (let w = old.within i (omega (arith, short)) in (w.0, omega (arith, w.1, length-set parents (slice_index trail least) 0)));
    undone = λ i lt. ap (is_done done) (at i lt) ∙ old.undone i (omega (arith, short));
    next = λ i lt. ap (slice_index (set parents (slice_index trail least) 0)) (at i (omega arith))
        ∙ get_or-set_other parents (slice_index trail least) (slice_index trail i) 0 0 (old.differ i least (omega (arith, short)) high)
        ∙ old.next i (omega (arith, short))
        ∙ sym (at (i + 1) lt);
    differ = λ i j lt to e. old.differ i j lt (omega (arith, short)) (sym (at i (omega arith)) ∙ e ∙ at j to);
  }
    where
      short : length (take (least + 1) trail) ≡ least + 1
      short = length-take-le (least + 1) trail (omega arith)

      at : (i : ℕ) → i < length (take (least + 1) trail) → slice_index (take (least + 1) trail) i ≡ slice_index trail i
      at i lt = get_or-take (least + 1) trail i 0 (omega (arith, short))

-- ---- at first none alone is done
module _ (parents : List ℕ) (array : IsParentArray parents) (n : ℕ) (size : n ≡ length parents) (some : 0 < n) where
  abbrev none_alone : List Bool
  none_alone = set (replicate n false) 0 true

  none_here : is_done none_alone 0 ≡ true
  none_here = get_or-set_same (replicate n false) 0 true false (omega (arith, length-replicate n false))

  not_yet : (k : ℕ) → 1 ≤ k → is_done none_alone k ≡ false
  not_yet k low = get_or-set_other (replicate n false) 0 k true false (λ e. omega arith) ∙ beyond n k
    where
      beyond : (m i : ℕ) → get_or (replicate m false) i false ≡ false
      beyond zero i = refl
      beyond (suc m) zero = refl
      beyond (suc m) (suc i) = beyond m i

  pub paths-start : HavePaths parents none_alone
  paths-start = record {
    path = λ k. [];
    none = refl;
    none_done = none_here;
    each = λ k low is. absurd (true≢false (sym is ∙ not_yet k low));
    closed = λ k is.
        elim (cases_eq k 0) [
          | inl e ↦ ap (is_done none_alone) (ap (slice_index parents) e ∙ array.none) ∙ none_here
          | inr m ↦ absurd (true≢false (sym is ∙ not_yet k (omega arith)))
        ];
  }

  pub done-start : (m : ℕ) → m < 1 → is_done none_alone m ≡ true
  done-start m lt = let e : m ≡ 0 = omega arith in ap (is_done none_alone) e ∙ none_here
