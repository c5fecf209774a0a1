-- Which places of a view a word reaches.
use Rattle.std.proofs.Common.{◌≡◌, ◌≢◌, ℕ, ◌+◌, ◌<◌, ◌≤◌, Bool, false, ◌==◌, ◌&&◌, nat_le, nat_lt, ◌-◌, set, List, length, get_or, Some, None, refl, sym, ap, ◌∙◌, arith, inl, inr}
use Rattle.std.proofs.lemmas.Bool.{eq-eqb, eqb-true, ne_eqb, cases_eq, cases_lt, and_from, and_parts, and_right, le-leb, lt-leb, lt-ltb, le-ltb, leb-true, ltb-true, false_from_ne_true}
use Rattle.std.proofs.lemmas.List.Quantifiers.{position-Some}
use Rattle.message_state.specs.declared.shown.Shown.{Shown}
use Rattle.message_state.specs.ShownRows.{IsShown}
use Rattle.message_list.specs.Places.{place_of}
use Rattle.message_list.specs.Naming.{is_message, is_between}
use Rattle.message_list.specs.Marking.{IsSpanOf, ArePlaces}
use Rattle.std.proofs.lemmas.Grind.{get_or-set_at}
use Rattle.std.proofs.lemmas.List.{get_or-set_other}
use Rattle.message_list.proofs.ViewLemmas.{place_at, stands, order_length, message_at, apart_messages}

-- a span without places
pub empty_span : (shown : Shown) (test : ℕ → Bool) → ((p : ℕ) → p < length shown.order → test (get_or shown.order p 0) ≡ false) → IsSpanOf shown test (record { from = 0; to = 0 })
empty_span shown test none = record {
  ordered = omega arith;
  within = omega arith;
  places = λ p lt. none p lt ∙ sym (and_right (nat_le 0 p) (nat_lt p 0) (le-ltb p 0 (omega arith)));
}

-- the span of one message
pub span_here : (shown : Shown) → IsShown shown → (k p : ℕ) → Some p ≡ place_of shown k → p < length shown.order → IsSpanOf shown (is_message (Some k)) (record { from = p; to = p + 1 })
span_here shown valid k p at within = record {
  ordered = omega arith;
  within = omega arith;
  places = λ q lt. elim (cases_eq q p) [
    | inl e ↦ eq-eqb _ _ (ap (λ i. get_or shown.order i 0) e ∙ eqb-true _ _ (position-Some (λ m. m == k) shown.order p 0 (sym at)).1)
        ∙ sym (and_from _ _ (le-leb p q (omega arith)) (lt-ltb q (p + 1) (omega arith)))
    | inr ne ↦ ne_eqb _ _ (λ same. let here : Some p ≡ Some q = at ∙ place_at shown valid q k lt same in let e : q ≡ p = cc in ne e)
        ∙ sym (false_from_ne_true _ (λ both. let parts = and_parts (nat_le p q) (nat_lt q (p + 1)) both in let low : p ≤ q = leb-true p q parts.0 in
        let high : q < p + 1 = ltb-true q (p + 1) parts.1 in ne (omega arith)))
  ];
}

-- the span of a message that stands nowhere
pub span_nowhere : (shown : Shown) → IsShown shown → (k : ℕ) → None ≡ place_of shown k → IsSpanOf shown (is_message (Some k)) (record { from = 0; to = 0 })
span_nowhere shown valid k at = empty_span shown (is_message (Some k)) (λ p lt. ne_eqb _ _ (λ same. let here : None ≡ Some p = at ∙ place_at shown valid p k lt same in absurd (cc)))

le_is_lt : (q b : ℕ) → nat_le q b ≡ nat_lt q (b + 1)
le_is_lt q b =
    elim (cases_lt b q) [
      | inl lt ↦ lt-leb q b lt ∙ sym (le-ltb q (b + 1) (omega arith))
      | inr le ↦ le-leb q b le ∙ sym (lt-ltb q (b + 1) (omega arith))
    ]

-- the places from one to another
pub span_from : (shown : Shown) → IsShown shown → (a b : ℕ) → a ≤ b → b < length shown.order → IsSpanOf shown (λ n. is_between (Some a) (Some b) (place_of shown n)) (record { from = a; to = b + 1 })
span_from shown valid a b ordered within = record {
  ordered = omega arith;
  within = omega arith;
  places = λ q lt. ap (is_between (Some a) (Some b)) (place_at shown valid q (get_or shown.order q 0) lt refl) ∙ ap (λ (t : Bool). nat_le a q && t) (le_is_lt q b);
}

-- the second end stands before the first
pub span_turned : (shown : Shown) → IsShown shown → (a b : ℕ) → b < a → IsSpanOf shown (λ n. is_between (Some a) (Some b) (place_of shown n)) (record { from = 0; to = 0 })
span_turned shown valid a b turned = empty_span shown (λ n. is_between (Some a) (Some b) (place_of shown n))
    (λ q lt. ap (is_between (Some a) (Some b)) (place_at shown valid q (get_or shown.order q 0) lt refl)
    ∙ false_from_ne_true _ (λ both. let parts = and_parts (nat_le a q) (nat_le q b) both in let low : a ≤ q = leb-true a q parts.0 in let high : q ≤ b = leb-true q b parts.1 in omega arith))

-- the place of a message, by the places of all
pub table_at : (shown : Shown) → IsShown shown → (places : List ℕ) → ArePlaces shown places → (k : ℕ) → 1 ≤ k → k ≤ length shown.order
    → (Some (get_or places (k - 1) 0) ≡ place_of shown k) × (get_or places (k - 1) 0 < length shown.order)
table_at shown valid places are k low high =
    let at = stands shown valid k low (let same = order_length shown valid in omega arith) in
    let e : get_or places (k - 1) 0 ≡ at.0 = ap (λ n. get_or places (n - 1) 0) (sym at.2) ∙ are.at at.0 at.1 in
    let within : at.0 < length shown.order = at.1 in
    (ap (λ p. Some p) e ∙ sym (place_at shown valid at.0 k at.1 at.2), omega arith)

-- one more place in the table
pub table_step : (shown : Shown) → IsShown shown → (p n : ℕ) (places : List ℕ) → p < length shown.order → n ≡ get_or shown.order p 0 → length places ≡ length shown.order
    → ((q : ℕ) → q < p → get_or places (get_or shown.order q 0 - 1) 0 ≡ q)
    → (q : ℕ) → q < p + 1 → get_or (set places (n - 1) p) (get_or shown.order q 0 - 1) 0 ≡ q
table_step shown valid p n places lt here long so_far q below =
    let one = message_at shown valid p lt in
    let count = order_length shown valid in
    elim (cases_eq q p) [
      | inl e ↦ let same : get_or shown.order q 0 ≡ n = ap (λ i. get_or shown.order i 0) e ∙ sym here in
          get_or-set_at places (n - 1) (get_or shown.order q 0 - 1) p 0 (ap (λ m. m - 1) same) (omega (arith, one.0, one.1)) ∙ sym e
      | inr ne ↦
          let high : q < length shown.order = omega arith in
          let other = message_at shown valid q high in
          let apart : get_or shown.order q 0 ≢ n = λ same. apart_messages shown valid p q lt high ne (same ∙ here) in
          get_or-set_other places (n - 1) (get_or shown.order q 0 - 1) p 0 (λ same. apart (omega (arith, one.0, other.0))) ∙ so_far q (omega arith)
    ]
