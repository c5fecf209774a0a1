-- The marks that a word leaves at the places of what it names.
use Rattle.std.proofs.Common.{◌≡◌, ◌≢◌, ℕ, ◌+◌, ◌<◌, ◌≤◌, Bool, true, false, ◌&&◌, ◌||◌, nat_le, nat_lt, List, [], ◌∷◌, ◌++◌, take, set, length, get_or, refl, sym, ap, ◌∙◌, arith, inl, inr}
use Rattle.std.specs.List.{list_any}
use Rattle.std.proofs.lemmas.Bool.{cases_eq, cases_lt, cases_Bool, and_from, and_parts, and_left, and_right, or_cases, or_parts, le-leb, lt-leb, lt-ltb, le-ltb, leb-true, ltb-true}
use Rattle.std.proofs.lemmas.Grind.{get_or-set_at}
use Rattle.std.proofs.lemmas.List.{get_or-set_other, take_more}
use Rattle.std.proofs.lemmas.List.Folds.{list_any-append}
use Rattle.message_state.specs.declared.shown.Shown.{Shown}
use Rattle.message_list.specs.declared.list.Item.{Item}
use Rattle.message_list.specs.declared.list.Purpose.{Purpose}
use Rattle.message_list.specs.declared.span.Span.{Span}
use Rattle.message_list.specs.Places.{in_base}
use Rattle.message_list.specs.Naming.{names}
use Rattle.message_list.specs.Selections.{finds}
use Rattle.message_list.specs.Marking.{kind_reaches, is_hit, selects, is_selected, is_within, IsSpanOf}
use Rattle.message_list.proofs.ListFacts.{any_found, list_any-filter}
use Rattle.message_list.proofs.NamingLemmas.{names_by_parts}

or_again : (a h : Bool) → ((a || false) || h) ≡ (a || h)
or_again true h = refl
or_again false h = refl

below_next : (p place : ℕ) → p ≢ place → nat_lt p place ≡ nat_lt p (place + 1)
below_next p place other =
    elim (cases_lt p place) [
      | inl lt ↦ lt-ltb p place lt ∙ sym (lt-ltb p (place + 1) (omega arith))
      | inr le ↦ le-ltb p place le ∙ sym (le-ltb p (place + 1) (let apart : p ≢ place = other in omega arith))
    ]

-- one more place
pub marks_step : (hits : ℕ → Bool) (from place n : ℕ) (first old : List Bool) (hit : Bool) → length old ≡ n → from ≤ place → place < n → hit ≡ hits place
    → ((p : ℕ) → p < n → get_or old p false ≡ (get_or first p false || ((nat_le from p && nat_lt p place) && hits p)))
    → (p : ℕ) → p < n → get_or (set old place (get_or old place false || hit)) p false ≡ (get_or first p false || ((nat_le from p && nat_lt p (place + 1)) && hits p))
marks_step hits from place n first old hit long low high same so_far p lt =
    elim (cases_eq p place) [
      | inl e ↦ get_or-set_at old place p (get_or old place false || hit) false e (omega arith)
          ∙ ap (λ (t : Bool). t || hit) (so_far place high
          ∙ ap (λ (t : Bool). get_or first place false || t) (and_left _ (hits place) (and_right (nat_le from place) _ (le-ltb place place (omega arith)))))
          ∙ or_again (get_or first place false) hit
          ∙ ap (λ (t : Bool). get_or first place false || t) (same ∙ ap hits (sym e))
          ∙ ap (λ q. get_or first q false || hits p) (sym e)
          ∙ ap (λ (t : Bool). get_or first p false || (t && hits p)) (sym (and_from _ _ (le-leb from p (omega arith)) (lt-ltb p (place + 1) (omega arith))))
      | inr ne ↦ get_or-set_other old place p (get_or old place false || hit) false ne ∙ so_far p lt
          ∙ ap (λ (t : Bool). get_or first p false || ((nat_le from p && t) && hits p)) (below_next p place ne)
    ]

pub some_step : (hits : ℕ → Bool) (from place : ℕ) (found hit : Bool) → from ≤ place → hit ≡ hits place
    → (found ≡ true → (p : ℕ) × (from ≤ p) × (p < place) × (hits p ≡ true))
    → (found || hit) ≡ true → (p : ℕ) × (from ≤ p) × (p < place + 1) × (hits p ≡ true)
some_step hits from place found hit low same so_far any =
    elim (or_cases found hit any) [
      | inl before ↦ let h = so_far before in (h.0, h.1, let below : h.0 < place = h.2 in omega arith, h.3)
      | inr here ↦ (place, low, omega arith, sym same ∙ here)
    ]

pub none_step : (hits : ℕ → Bool) (from place : ℕ) (found hit : Bool) → hit ≡ hits place
    → (found ≡ false → (p : ℕ) → from ≤ p → p < place → hits p ≡ false)
    → (found || hit) ≡ false → (p : ℕ) → from ≤ p → p < place + 1 → hits p ≡ false
none_step hits from place found hit same so_far none p low high =
    let parts = or_parts found hit none in
    elim (cases_eq p place) [
      | inl e ↦ ap hits e ∙ sym same ∙ parts.1
      | inr ne ↦ so_far parts.0 p low (omega arith)
    ]

module _ (shown : Shown) (texts : List (List ℕ)) (purpose : Purpose) (item : Item) (span : Span) (of : IsSpanOf shown (kind_reaches shown purpose item.kind) span) where
  -- at a place of the view
  pub selects_here : (p : ℕ) → p < length shown.order → selects shown texts purpose item (get_or shown.order p 0) ≡ (is_within span p && is_hit shown texts purpose item (get_or shown.order p 0))
  selects_here p lt =
      names_by_parts item.kind item.word shown texts purpose (get_or shown.order p 0) ∙ ap (λ (t : Bool). t && is_hit shown texts purpose item (get_or shown.order p 0)) (of.places p lt)

  -- whether a place of the span is hit
  pub finds_here : (place : ℕ) (found : Bool) → place ≡ span.to
      → (found ≡ true → (p : ℕ) × (span.from ≤ p) × (p < place) × (is_hit shown texts purpose item (get_or shown.order p 0) ≡ true))
      → (found ≡ false → (p : ℕ) → span.from ≤ p → p < place → is_hit shown texts purpose item (get_or shown.order p 0) ≡ false)
      → found ≡ finds shown texts purpose item
  finds_here place found e some none =
      let within : span.to ≤ length shown.order = of.within in
      any_found (selects shown texts purpose item) shown.order 0 found
      (λ any. let h = some any in
      let low : span.from ≤ h.0 = h.1 in
      let high : h.0 < place = h.2 in
      let lt : h.0 < length shown.order = omega arith in
      (h.0, lt, selects_here h.0 lt ∙ and_from _ _ (and_from _ _ (le-leb span.from h.0 low) (lt-ltb h.0 span.to (omega arith))) h.3))
      (λ nothing p lt. selects_here p lt ∙ elim (cases_Bool (is_within span p)) [
        | inl inside ↦ let parts = and_parts (nat_le span.from p) (nat_lt p span.to) inside in
            let below : p < span.to = ltb-true p span.to parts.1 in
            and_right (is_within span p) _ (none nothing p (leb-true span.from p parts.0) (omega arith))
        | inr outside ↦ and_left (is_within span p) _ outside
      ])
      ∙ list_any-filter (names shown texts purpose item) (in_base shown purpose) shown.order

both_ors : (a b c : Bool) → ((a || (b || false)) && c) ≡ ((a && c) || (b && c))
both_ors true true true = refl
both_ors true true false = refl
both_ors true false true = refl
both_ors true false false = refl
both_ors false true true = refl
both_ors false true false = refl
both_ors false false true = refl
both_ors false false false = refl

-- one more word
pub selected_more : (shown : Shown) (texts : List (List ℕ)) (purpose : Purpose) (items : List Item) (i : ℕ) (item : Item) (n : ℕ) → i < length items → item ≡ get_or items i item
    → is_selected shown texts purpose (take (i + 1) items) n ≡ (is_selected shown texts purpose (take i items) n || selects shown texts purpose item n)
selected_more shown texts purpose items i item n lt here =
    let test = λ (x : Item). names shown texts purpose x n in
    ap (λ (xs : List Item). list_any test xs && in_base shown purpose n) (take_more items i item lt ∙ ap (λ (x : Item). take i items ++ x ∷ []) (sym here))
    ∙ ap (λ (t : Bool). t && in_base shown purpose n) (list_any-append test (take i items) (item ∷ []))
    ∙ both_ors (list_any test (take i items)) (test item) (in_base shown purpose n)

-- no place yet
pub nothing_between : (from p : ℕ) → (nat_le from p && nat_lt p from) ≡ false
nothing_between from p =
    elim (cases_lt p from) [
      | inl lt ↦ and_left _ _ (lt-leb from p lt)
      | inr le ↦ and_right (nat_le from p) _ (le-ltb p from le)
    ]
