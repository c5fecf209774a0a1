-- The first place of a list at which a test passes, and a map from texts to numbers.
use Rattle.std.proofs.Common.{◌≡◌, ℕ, zero, suc, ◌+◌, ◌≤◌, Bool, true, false, cond, ◌||◌, nat_lt, List, [], ◌∷◌, ◌++◌, length, take, filter, is_some, Option, Some, None, Vec, BTreeMap, is_eq, nat_cmp, bytes_eq, if◌then◌else◌, refl, sym, ap, subst, ◌∙◌, ⊎_elim, true≢false, arith, lt-ltb, le-ltb}
use Rattle.std.specs.BTreeMap.{IsOrdered, UpdatesBy, get_by}
use Rattle.std.specs.Cmp.{IsEquivalence}
use Rattle.std.specs.Cmp.Lexicographic.{slice_cmp}
use Rattle.std.specs.List.{list_any, position_from}
use Rattle.std.specs.Map.{AreApart, IsKeyTest, KeepsOthers, keys_of, lookup}
use Rattle.std.specs.Ordering.{eq_by_cmp}
use Rattle.std.specs.declared.alloc.Global.{Global}
use Rattle.std.specs.Cmp.{eq_by_cmp_equiv, on_total, IsTotalOrder}
use Rattle.std.proofs.lemmas.Bool.{cases_Bool, cond-false, cond-true}
use Rattle.std.proofs.lemmas.Cmp.{nat_list_cmp_total}
use Rattle.std.proofs.lemmas.Map.Entries.{lookup-filter-values, option_filter, place_from_lookup}
use Rattle.std.proofs.lemmas.Map.Keys.{IsDistinct-from_sorted}
use Rattle.std.proofs.lemmas.List.Elements.{All-filter, All-from_recursion, recursion_from_All}
use Rattle.std.proofs.lemmas.Map.Text.{is_eq-slice_cmp}
use Rattle.std.proofs.lemmas.Map.{lookup-none, none_passes_from_lookup}
use Rattle.std.proofs.lemmas.Slice.Eq.{bytes_eq-Decides}

-- ---- the first place
module _ {A : Type 0} (test : A → Bool) where
  pub place-any : (i : ℕ) (xs : List A) → is_some (position_from test i xs) ≡ list_any test xs
  place-any i [] = refl
  place-any i (x ∷ xs) = go (test x) (place-any (i + 1) xs)
    where
      go : (b : Bool) → is_some (position_from test (i + 1) xs) ≡ list_any test xs → is_some (cond b (Some i) (position_from test (i + 1) xs)) ≡ (b || list_any test xs)
      go true rest = refl
      go false rest = rest

  -- one more that fails
  pub place-other : (i : ℕ) (xs : List A) (y : A) → test y ≡ false → position_from test i (xs ++ y ∷ []) ≡ position_from test i xs
  place-other i [] y fails = cond-false _ _ _ fails
  place-other i (x ∷ xs) y fails = ap (cond (test x) (Some i)) (place-other (i + 1) xs y fails)

  -- the first that passes
  pub place-new : (i : ℕ) (xs : List A) (y : A) → list_any test xs ≡ false → test y ≡ true → position_from test i (xs ++ y ∷ []) ≡ Some (i + length xs)
  place-new i [] y none passes = cond-true _ _ _ passes ∙ ap Some (let e : i ≡ i + 0 = omega arith in e)
  place-new i (x ∷ xs) y none passes = go (test x) none (λ n. place-new (i + 1) xs y n passes)
    where
      go : (b : Bool) → (b || list_any test xs) ≡ false → (list_any test xs ≡ false → position_from test (i + 1) (xs ++ y ∷ []) ≡ Some (i + 1 + length xs))
          → cond b (Some i) (position_from test (i + 1) (xs ++ y ∷ [])) ≡ Some (i + length (x ∷ xs))
      go true n rest = absurd (true≢false n)
      go false n rest = rest n ∙ ap Some (let e : i + 1 + length xs ≡ i + length (x ∷ xs) = omega arith in e)

  below-none : (i j : ℕ) (xs : List A) → j ≤ i → option_filter (λ p. nat_lt p j) (position_from test i xs) ≡ None
  below-none i j [] le = refl
  below-none i j (x ∷ xs) le = go (test x) (below-none (i + 1) j xs (omega (arith, le)))
    where
      go : (b : Bool) → option_filter (λ p. nat_lt p j) (position_from test (i + 1) xs) ≡ None → option_filter (λ p. nat_lt p j) (cond b (Some i) (position_from test (i + 1) xs)) ≡ None
      go true rest = cond-false _ _ _ (le-ltb i j le)
      go false rest = rest

  -- among the first ones
  pub place-take : (i n : ℕ) (xs : List A) → position_from test i (take n xs) ≡ option_filter (λ p. nat_lt p (i + n)) (position_from test i xs)
  place-take i zero xs = sym (below-none i (i + 0) xs (omega arith))
  place-take i (suc n) [] = refl
  place-take i (suc n) (x ∷ xs) = go (test x) (place-take (i + 1) n xs)
    where
      go : (b : Bool) → position_from test (i + 1) (take n xs) ≡ option_filter (λ p. nat_lt p (i + 1 + n)) (position_from test (i + 1) xs)
          → cond b (Some i) (position_from test (i + 1) (take n xs)) ≡ option_filter (λ p. nat_lt p (i + suc n)) (cond b (Some i) (position_from test (i + 1) xs))
      go true rest = sym (cond-true _ _ _ (lt-ltb i (i + suc n) (omega arith)))
      go false rest = rest ∙ ap (λ m. option_filter (λ p. nat_lt p m) (position_from test (i + 1) xs)) (let e : i + 1 + n ≡ i + suc n = omega arith in e)

-- ---- a map whose keys are texts
abbrev pub Key : Type 0
Key = Vec ℕ Global

abbrev pub at : List ℕ → Key → Bool
at text k = is_eq (slice_cmp nat_cmp text k.items)

texts : IsEquivalence (eq_by_cmp (slice_cmp nat_cmp))
texts = eq_by_cmp_equiv nat_list_cmp_total

keys_total : IsTotalOrder (λ (x y : Key). slice_cmp nat_cmp x.items y.items)
keys_total = on_total (λ (k : Key). k.items) nat_list_cmp_total

-- what is found once the entry of a text is as told
others : (old new : List (Key × ℕ)) (test other : Key → Bool)
    → KeepsOthers (eq_by_cmp (λ (x y : Key). slice_cmp nat_cmp x.items y.items)) test old new
    → IsKeyTest (eq_by_cmp (λ (x y : Key). slice_cmp nat_cmp x.items y.items)) other → AreApart test other → lookup other new ≡ lookup other old
unfolding KeepsOthers
others old new test other keeps = keeps other

apart : (own text key : List ℕ) → bytes_eq own text ≡ false → is_eq (slice_cmp nat_cmp own key) ≡ true → is_eq (slice_cmp nat_cmp text key) ≡ false
apart own text key other is = texts.symm text key ∙ sym (texts.congr own key text is) ∙ is_eq-slice_cmp own text ∙ other

pub found-after : (own : List ℕ) (old new : BTreeMap Key ℕ) (value : Option ℕ) → UpdatesBy (λ (x y : Key). slice_cmp nat_cmp x.items y.items) (λ (k : Key). slice_cmp nat_cmp own k.items) old new value
    → (text : List ℕ) → get_by (λ (k : Key). slice_cmp nat_cmp text k.items) new ≡ (if bytes_eq own text then value else get_by (λ (k : Key). slice_cmp nat_cmp text k.items) old)
found-after own old new value updates text =
    ⊎_elim
    (λ same. subst (λ l. get_by (λ (k : Key). slice_cmp nat_cmp l k.items) new ≡ value) ((bytes_eq-Decides own text).0 same) updates.1 ∙ sym (cond-true _ _ _ same))
    (λ other. others old.entries new.entries (at own) (at text) updates.3 (λ x y. texts.congr text x.items y.items) (λ k. apart own text k.items other) ∙ sym (cond-false _ _ _ other))
    (cases_Bool (bytes_eq own text))

-- what is found among the entries whose values pass
pub found-kept : (test : ℕ → Bool) (map : BTreeMap Key ℕ) → IsOrdered (λ (x y : Key). slice_cmp nat_cmp x.items y.items) map
    → (text : List ℕ) → lookup (at text) (filter (λ e. test e.1) map.entries) ≡ option_filter test (lookup (at text) map.entries)
found-kept test map ordered text = go (lookup (at text) map.entries) refl
  where
    go : (found : Option ℕ) → lookup (at text) map.entries ≡ found → lookup (at text) (filter (λ e. test e.1) map.entries) ≡ option_filter test (lookup (at text) map.entries)
    go None none =
        lookup-none (at text) _ (recursion_from_All _ _
        (All-filter (λ (e : Key × ℕ). test e.1) (λ e. at text e.0 ≡ false) map.entries (All-from_recursion _ map.entries (none_passes_from_lookup (at text) map.entries none))))
        ∙ ap (option_filter test) (sym none)
    go (Some value) found =
        let place = place_from_lookup (at text) map.entries value found in
        let key = place.1 in
        let same : key.items ≡ text = sym ((bytes_eq-Decides text key.items).0 (sym (is_eq-slice_cmp text key.items) ∙ place.3)) in
        let distinct = IsDistinct-from_sorted (λ (x y : Key). slice_cmp nat_cmp x.items y.items) (keys_of map.entries) ordered in
        subst (λ l. lookup (at l) (filter (λ e. test e.1) map.entries) ≡ option_filter test (lookup (at l) map.entries)) same
        (lookup-filter-values (eq_by_cmp_equiv keys_total) test key map.entries distinct)
