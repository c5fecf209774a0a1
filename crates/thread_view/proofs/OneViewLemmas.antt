-- Messages have one view of a kind.
use Rattle.std.proofs.Common.{◌≡◌, ◌≢◌, ◌⊎◌, ℕ, zero, suc, ◌+◌, ◌-◌, ◌≤◌, true, List, [], ◌∷◌, ◌++◌, length, map, eqb, refl, sym, ap, subst, ◌∙◌, inl, inr, arith, true≢false, nat_cmp, is_lt, Ordering, Less, Greater, length-append}
use Rattle.std.specs.Cmp.{IsTotalOrder, int_cmp_total}
use Rattle.std.specs.Cmp.Lexicographic.{slice_cmp, options_total}
use Rattle.std.specs.Ordering.{ordering_reverse}
use Rattle.std.specs.List.{AllByRecursion, range_with_len}
use Rattle.std.specs.List.Sorted.{IsPermutation, IsStrictlySortedBy}
use Rattle.std.proofs.lemmas.Bool.{cases_eq}
use Rattle.std.proofs.lemmas.Cmp.{nat_cmp_total, nat_list_cmp_total, on_total, then_total}
use Rattle.std.proofs.lemmas.List.Sorted.{list_any-IsPermutation}
use Rattle.message_state.specs.declared.row.Row.{Row}
use Rattle.thread_view.specs.declared.view.Key.{Key}
use Rattle.thread_view.specs.declared.view.Key.TheVariants as key
use Rattle.thread_view.specs.declared.view.View.{View}
use Rattle.thread_view.specs.declared.view.ViewKind.{ViewKind}
use Rattle.thread_view.specs.declared.view.ViewKind.TheVariants.{Plain, Threads, By}
use Rattle.thread_view.specs.Cycles.{IsUnder}
use Rattle.thread_view.specs.Parents.{parent_of}
use Rattle.thread_view.specs.Sorting.{by_key, IsInOrder, IsSortedBy}
use Rattle.thread_view.specs.Threads.{ArePaths, IsThreaded}
use Rattle.thread_view.specs.Views.{IsOrdered}
use Rattle.thread_view.specs.ViewLaws.{ViewsAreAlike}
use Rattle.thread_view.proofs.NamingLemmas.{parent-within}
use Rattle.thread_view.proofs.PermutationLemmas.{has, has-first, has-other, none-has, has-range}

has-more : (x q : ℕ) (xs : List ℕ) → has xs q ≡ true → has (x ∷ xs) q ≡ true
has-more x q xs on =
    elim (cases_eq q x) [
      | inl e ↦ has-first x q xs e
      | inr n ↦ has-other x q xs n ∙ on
    ]

-- permutations of one list have the same numbers
same-has : (zs xs ys : List ℕ) → IsPermutation zs xs → IsPermutation zs ys → (q : ℕ) → has xs q ≡ true → has ys q ≡ true
same-has zs xs ys one two q on = sym (list_any-IsPermutation (eqb q) zs ys two) ∙ list_any-IsPermutation (eqb q) zs xs one ∙ on

-- ---- the same numbers, in an order by keys

module _ {K : Type 0} (compare : K → K → Ordering) (total : IsTotalOrder compare) where
  turns : (x y : K) → compare x y ≡ Less → compare y x ≡ Less → ⊥
  turns x y p q =
      let e : Greater ≡ Less = sym (ap ordering_reverse q) ∙ sym (total.antisymm x y) ∙ p in
      true≢false (sym (ap is_lt e))

  behind : (f : ℕ → K) (x : K) (ys : List ℕ) (q : ℕ) → AllByRecursion (λ y. compare x y ≡ Less) (map f ys) → has ys q ≡ true → compare x (f q) ≡ Less
  behind f x [] q all on = absurd (true≢false (sym on))
  behind f x (y ∷ ys) q all on =
      elim (cases_eq q y) [
        | inl e ↦ subst (λ (k : ℕ). compare x (f k) ≡ Less) (sym e) all.0
        | inr n ↦ behind f x ys q all.1 (sym (has-other y q ys n) ∙ on)
      ]

  one-order : (f : ℕ → K) (xs ys : List ℕ) → IsStrictlySortedBy compare (map f xs) → IsStrictlySortedBy compare (map f ys)
      → ((q : ℕ) → has xs q ≡ true → has ys q ≡ true) → ((q : ℕ) → has ys q ≡ true → has xs q ≡ true) → xs ≡ ys
  unfolding IsStrictlySortedBy
  one-order f [] ys s t to back = sym (none-has ys back)
  one-order f (x ∷ xs) [] s t to back = absurd (true≢false (sym (to x (has-first x x xs refl))))
  one-order f (x ∷ xs) (y ∷ ys) s t to back =
      let first : x ≡ y = elim (cases_eq x y) [
        | inl e ↦ e
        | inr n ↦ absurd (turns (f x) (f y)
            (behind f (f x) xs y s.0 (sym (has-other x y xs (λ e. n (sym e))) ∙ back y (has-first y y ys refl)))
            (behind f (f y) ys x t.0 (sym (has-other y x ys n) ∙ to x (has-first x x xs refl))))
      ] in
      let apart : (q : ℕ) → has xs q ≡ true → q ≢ x = λ q on e.
      let b = behind f (f x) xs x s.0 (ap (has xs) (sym e) ∙ on) in turns (f x) (f x) b b in
      let differ : (q : ℕ) → has ys q ≡ true → q ≢ y = λ q on e.
      let b = behind f (f y) ys y t.0 (ap (has ys) (sym e) ∙ on) in turns (f y) (f y) b b in
      let rest = one-order f xs ys s.1 t.1
      (λ q on. sym (has-other y q ys (λ e. apart q on (e ∙ sym first))) ∙ to q (has-more x q xs on))
      (λ q on. sym (has-other x q xs (λ e. differ q on (e ∙ first))) ∙ back q (has-more y q ys on)) in
      (λ i. first i ∷ rest i)

keyed-one : {K : Type 0} (compare : K → K → Ordering) → IsTotalOrder compare → (f : ℕ → K) (n : ℕ) (v w : List ℕ) → IsInOrder compare f n v → IsInOrder compare f n w → v ≡ w
keyed-one {K} compare total f n v w one two =
    let pairs : IsTotalOrder (by_key compare) = then_total (on_total (λ (p : K × ℕ). p.0) total) (on_total (λ (p : K × ℕ). p.1) nat_cmp_total) in
    one-order (by_key compare) pairs (λ k. (f k, k)) v w one.ascend two.ascend
    (same-has (range_with_len 1 n) v w one.once two.once) (same-has (range_with_len 1 n) w v two.once one.once)

sorted-one : (k : Key) (rows : List Row) (v w : List ℕ) → IsSortedBy k rows v → IsSortedBy k rows w → v ≡ w
sorted-one key.Date rows v w one two = keyed-one _ (options_total int_cmp_total) _ _ v w one two
sorted-one key.From rows v w one two = keyed-one _ nat_list_cmp_total _ _ v w one two
sorted-one key.Size rows v w one two = keyed-one _ nat_cmp_total _ _ v w one two
sorted-one key.Status rows v w one two = keyed-one _ nat_cmp_total _ _ v w one two
sorted-one key.Subject rows v w one two = keyed-one _ nat_list_cmp_total _ _ v w one two
sorted-one key.To rows v w one two = keyed-one _ nat_list_cmp_total _ _ v w one two

-- ---- threads

under-one : (parent : ℕ → ℕ) (k p q : ℕ) → IsUnder parent k p → IsUnder parent k q → p ≡ q
under-one parent k p q (inl (loses, none)) (inl (again, also)) = none ∙ sym also
under-one parent k p q (inl (loses, none)) (inr (kept, is)) = absurd (kept loses)
under-one parent k p q (inr (kept, is)) (inl (loses, none)) = absurd (kept loses)
under-one parent k p q (inr (kept, is)) (inr (stays, also)) = is ∙ sym also

under-within : (rows : List Row) (k p : ℕ) → IsUnder (parent_of rows) k p → p ≤ length rows
under-within rows k p (inl (loses, none)) = omega arith
under-within rows k p (inr (kept, is)) = subst (λ (n : ℕ). n ≤ length rows) (sym is) (parent-within rows k)

module _ (rows : List Row) (path other : ℕ → List ℕ) (paths : ArePaths rows path) (others : ArePaths rows other) where
  step : (n k : ℕ) → ((p : ℕ) → length (path p) + 1 ≤ n → p ≤ length rows → path p ≡ other p) → length (path k) ≤ n → k ≤ length rows → path k ≡ other k
  step n k rec short high = go (cases_eq k 0)
    where
      go : (k ≡ 0) ⊎ (k ≢ 0) → path k ≡ other k
      go (inl e) = ap path e ∙ paths.none ∙ sym others.none ∙ ap other (sym e)
      go (inr some) =
          let a = paths.each k (omega arith, high) in
          let b = others.each k (omega arith, high) in
          let same : a.0 ≡ b.0 = under-one (parent_of rows) k a.0 b.0 a.1 b.1 in
          let long = ap length a.2 ∙ length-append (path a.0) (k ∷ []) in
          a.2
          ∙ ap (λ (l : List ℕ). l ++ k ∷ []) (rec a.0 (omega arith) (under-within rows k a.0 a.1) ∙ ap other same)
          ∙ sym b.2

  one-path : (n k : ℕ) → length (path k) ≤ n → k ≤ length rows → path k ≡ other k
  one-path zero k short high = step zero k (λ p less in_rows. absurd (omega arith)) short high
  one-path (suc n) k short high = step (suc n) k (λ p less in_rows. one-path n p (omega arith) in_rows) short high

map-same : {A : Type 0} (f g : ℕ → A) (xs : List ℕ) → ((q : ℕ) → has xs q ≡ true → f q ≡ g q) → map f xs ≡ map g xs
map-same f g [] same = refl
map-same f g (x ∷ xs) same =
    let rest = map-same f g xs (λ q on. same q (has-more x q xs on)) in
    (λ i. same x (has-first x x xs refl) i ∷ rest i)

threaded-one : (rows : List Row) (v d w e : List ℕ) → IsThreaded rows v d → IsThreaded rows w e → (v ≡ w) × (d ≡ e)
threaded-one rows v d w e one two =
    let within : (q : ℕ) → has w q ≡ true → q ≤ length rows = λ q on. (has-range (length rows) q (list_any-IsPermutation (eqb q) (range_with_len 1 (length rows)) w two.once ∙ on)).1 in
    let same : (q : ℕ) → has w q ≡ true → two.path q ≡ one.path q = λ q on. one-path rows two.path one.path two.paths one.paths (length (two.path q)) q (omega arith) (within q on) in
    let ascend : IsStrictlySortedBy (slice_cmp nat_cmp) (map one.path w) = subst (IsStrictlySortedBy (slice_cmp nat_cmp)) (map-same two.path one.path w same) two.ascend in
    let order : v ≡ w = one-order (slice_cmp nat_cmp) nat_list_cmp_total one.path v w one.ascend ascend
    (same-has (range_with_len 1 (length rows)) v w one.once two.once) (same-has (range_with_len 1 (length rows)) w v two.once one.once) in (
      order,
      one.depths
          ∙ ap (map (λ k. length (one.path k) - 1)) order
          ∙ map-same (λ k. length (one.path k) - 1) (λ k. length (two.path k) - 1) w (λ q on. ap (λ (l : List ℕ). length l - 1) (sym (same q on)))
          ∙ sym two.depths,
    )

-- ---- each kind

ordered-one : (kind : ViewKind) (rows : List Row) (v w : View) → IsOrdered kind rows v → IsOrdered kind rows w → (v.order ≡ w.order) × (v.depth ≡ w.depth)
ordered-one Plain rows v w one two = (one.0 ∙ sym two.0, one.1 ∙ sym two.1)
ordered-one Threads rows v w one two = threaded-one rows v.order v.depth w.order w.depth one two
ordered-one (By k) rows v w one two = (sorted-one k rows v.order w.order one.0 two.0, one.1 ∙ sym two.1)

pub views_are_alike : ViewsAreAlike
views_are_alike kind rows v w one two =
    let kinds : v.kind ≡ w.kind = one.0 ∙ sym two.0 in
    let same = ordered-one kind rows v w one.1 two.1 in
    (λ i. record { order = same.0 i; depth = same.1 i; kind = kinds i })
