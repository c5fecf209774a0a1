-- What a list selects: of one message, of words that each find something, and in the base set.
use Rattle.std.proofs.Common.{◌≡◌, ℕ, ◌<◌, ◌≤◌, Bool, true, false, not, ◌==◌, ◌&&◌, List, [], ◌∷◌, filter, length, get_or, Option, Some, None, refl, sym, ap, ◌∙◌, arith, inl, inr, subst, Vec, Global, Result, Ok, Err}
use Rattle.std.specs.List.{find, All}
use Rattle.std.specs.Result.{IfOk}
use Rattle.std.specs.Option.{option_map, option_or, option_to_list}
use Rattle.std.proofs.lemmas.Bool.{cases_Bool, cases_eq, and_from, and_left, and_right, eq-eqb, ne_eqb, cond-true, cond-false}
use Rattle.std.proofs.lemmas.List.Folds.{list_any_at, list_any_none}
use Rattle.std.proofs.lemmas.List.Elements.{All-same, All-weaker, All-nil, All-cons, All-filter, All-from_get_or, filter_passes}
use Rattle.message_state.specs.declared.shown.Shown.{Shown}
use Rattle.message_state.specs.ShownRows.{IsShown}
use Rattle.message_list.specs.declared.list.Item.{Item}
use Rattle.message_list.specs.declared.list.ListError.{ListError}
use Rattle.message_list.specs.declared.list.ListError.TheVariants.{Syntax, NoSuch, NoneMatch, Memory}
use Rattle.message_list.specs.declared.list.Purpose.{Purpose}
use Rattle.message_list.specs.declared.list.Purpose.TheVariants.{Live, Dead, Any}
use Rattle.message_list.specs.Places.{in_base, back_from}
use Rattle.message_list.specs.Naming.{names}
use Rattle.message_list.specs.Selections.{base_of, current_of, default_message, is_named, selection, finds, first_missing, IsMissing, IsNoSuch}
use Rattle.message_list.specs.Marking.{selects}
use Rattle.message_list.proofs.ListFacts.{find_first, find_none, find_passes, filter-filter, list_any-filter, filter_only, filter_some, or_nothing, any_left}
use Rattle.message_list.proofs.ViewLemmas.{place_at, stands, in_base-message}

-- a word that names one message
module _ (shown : Shown) (valid : IsShown shown) (texts : List (List ℕ)) (purpose : Purpose) (item : Item) (k : ℕ) (alone : (n : ℕ) → names shown texts purpose item n ≡ (n == k)) where
  named_one : (n : ℕ) → is_named shown texts purpose (item ∷ []) n ≡ (n == k)
  named_one n = sym (or_nothing (names shown texts purpose item n)) ∙ alone n

  here_one : in_base shown purpose k ≡ true → (p : ℕ) × (p < length shown.order) × (get_or shown.order p 0 ≡ k)
  here_one within = let is = in_base-message shown purpose k within in stands shown valid k is.0 is.1

  pub union_one : in_base shown purpose k ≡ true → filter (is_named shown texts purpose (item ∷ [])) (base_of shown purpose) ≡ k ∷ []
  union_one within =
      let at = here_one within in
      let test = λ (n : ℕ). is_named shown texts purpose (item ∷ []) n && in_base shown purpose n in
      sym (filter-filter (is_named shown texts purpose (item ∷ [])) (in_base shown purpose) shown.order)
      ∙ filter_only test shown.order at.0 0 at.1 (ap test at.2 ∙ and_from _ _ (named_one k ∙ eq-eqb k k refl) within)
      (λ q lt other. and_left _ _ (named_one (get_or shown.order q 0) ∙ ne_eqb _ _ (λ same.
      let one : Some q ≡ Some at.0 = sym (place_at shown valid q k lt same) ∙ place_at shown valid at.0 k at.1 at.2 in
      let e : q ≡ at.0 = cc in other e)))
      ∙ ap (λ n. n ∷ []) at.2

  pub finds_one : in_base shown purpose k ≡ true → finds shown texts purpose item ≡ true
  finds_one within =
      let at = here_one within in
      sym (list_any-filter (names shown texts purpose item) (in_base shown purpose) shown.order)
      ∙ list_any_at (selects shown texts purpose item) shown.order at.0 0 at.1 (ap (selects shown texts purpose item) at.2 ∙ and_from _ _ (alone k ∙ eq-eqb k k refl) within)

  pub misses_one : in_base shown purpose k ≡ false → finds shown texts purpose item ≡ false
  misses_one out =
      sym (list_any-filter (names shown texts purpose item) (in_base shown purpose) shown.order)
      ∙ list_any_none (selects shown texts purpose item) shown.order (All-from_get_or (λ n. selects shown texts purpose item n ≡ false) shown.order 0
      (λ q lt. elim (cases_eq (get_or shown.order q 0) k) [
        | inl e ↦ and_right _ _ (ap (in_base shown purpose) e ∙ out)
        | inr ne ↦ and_left _ _ (alone (get_or shown.order q 0) ∙ ne_eqb _ _ ne)
      ]))

module _ (shown : Shown) (texts : List (List ℕ)) (purpose : Purpose) where
  -- a word that names no message
  pub misses_all : (item : Item) → ((n : ℕ) → names shown texts purpose item n ≡ false) → finds shown texts purpose item ≡ false
  misses_all item none =
      list_any_none (names shown texts purpose item) (base_of shown purpose)
      (All-from_get_or (λ n. names shown texts purpose item n ≡ false) (base_of shown purpose) 0 (λ q lt. none (get_or (base_of shown purpose) q 0)))

  -- each word finds something
  pub all_met : (items : List Item) → ((i : ℕ) (d : Item) → i < length items → finds shown texts purpose (get_or items i d) ≡ true) → first_missing shown texts purpose items ≡ None
  all_met items found = ap (option_map (λ item. item.word)) (find_none (λ item. not (finds shown texts purpose item)) items (λ i d lt. ap not (found i d lt)))

  -- the first word that finds nothing
  pub missing : (items : List Item) (i : ℕ) (item : Item) (e : ListError) → i < length items → item ≡ get_or items i item
      → ((k : ℕ) → k < i → finds shown texts purpose (get_or items k item) ≡ true) → finds shown texts purpose item ≡ false → IsNoSuch item.word e → IsMissing shown texts purpose items e
  missing items i item (Syntax w) lt here before none is = is
  missing items i item (NoSuch w) lt here before none is =
      ap (option_map (λ x. x.word)) (find_first (λ x. not (finds shown texts purpose x)) items i item lt (λ k below. ap not (before k below))
      (ap (λ (x : Item). not (finds shown texts purpose x)) (sym here) ∙ ap not none))
      ∙ ap (λ (x : Item). Some x.word) (sym here) ∙ ap Some (sym is)
  missing items i item NoneMatch lt here before none is = is
  missing items i item Memory lt here before none is = tt

  -- where each word finds something, something is selected
  pub union_some : (items : List Item) → 0 < length items → first_missing shown texts purpose items ≡ None → 0 < length (filter (is_named shown texts purpose items) (base_of shown purpose))
  union_some [] some met = absurd (omega arith)
  union_some (item ∷ items) some met =
      elim (cases_Bool (finds shown texts purpose item)) [
        | inl found ↦ filter_some (is_named shown texts purpose (item ∷ items)) (base_of shown purpose)
            (any_left (names shown texts purpose item) (is_named shown texts purpose items) (base_of shown purpose) found)
        | inr none ↦ let bad : Some item.word ≡ None =
            sym (ap (option_map (λ x. x.word)) (cond-true (not (finds shown texts purpose item)) (Some item) (find (λ x. not (finds shown texts purpose x)) items) (ap not none))) ∙ met in absurd (cc)
      ]

  -- the default message is in the base set
  current_in_base : (n : ℕ) → current_of shown purpose ≡ Some n → in_base shown purpose n ≡ true
  current_in_base n is =
      elim (cases_Bool (in_base shown purpose shown.current)) [
        | inl within ↦ let same : Some shown.current ≡ Some n = sym (cond-true (in_base shown purpose shown.current) (Some shown.current) None within) ∙ is in
            let e : shown.current ≡ n = cc in sym (ap (in_base shown purpose) e) ∙ within
        | inr out ↦ let bad : None ≡ Some n = sym (cond-false (in_base shown purpose shown.current) (Some shown.current) None out) ∙ is in absurd (cc)
      ]

either_passes : (p : ℕ → Bool) (xs ys : List ℕ) (n : ℕ) (o : Option ℕ) → find p xs ≡ o → option_or o (find p ys) ≡ Some n → p n ≡ true
either_passes p xs ys n (Some m) first is = let e : m ≡ n = cc in sym (ap p e) ∙ sym (sym (find_passes p xs m first))
either_passes p xs ys n None first is = find_passes p ys n is

default_in_base : (shown : Shown) (purpose : Purpose) (n : ℕ) → default_message shown purpose ≡ Some n → in_base shown purpose n ≡ true
default_in_base shown Live n is = current_in_base shown [] Live n is
default_in_base shown Any n is = current_in_base shown [] Any n is
default_in_base shown Dead n is = either_passes (in_base shown Dead) (back_from shown shown.current) shown.order n _ refl is

default_all : (shown : Shown) (purpose : Purpose) (o : Option ℕ) → default_message shown purpose ≡ o → All (λ n. in_base shown purpose n ≡ true) (option_to_list o)
default_all shown purpose None is = All-nil (λ n. in_base shown purpose n ≡ true)
default_all shown purpose (Some n) is = All-cons (λ n. in_base shown purpose n ≡ true) n [] (default_in_base shown purpose n is) (All-nil (λ n. in_base shown purpose n ≡ true))

-- what is selected is in the base set
pub base_all : (shown : Shown) (texts : List (List ℕ)) (purpose : Purpose) (items : List Item) → All (λ n. in_base shown purpose n ≡ true) (selection shown texts purpose items)
base_all shown texts purpose [] = default_all shown purpose (default_message shown purpose) refl
base_all shown texts purpose (item ∷ items) =
    All-filter (is_named shown texts purpose (item ∷ items)) (λ n. in_base shown purpose n ≡ true) (base_of shown purpose) (filter_passes (in_base shown purpose) shown.order)

-- where each word finds something, the answer has something
pub some_found : (r : Result (Vec ℕ Global) ListError) (union : List ℕ) (Met : Type 0) → IfOk r (λ v. v.items ≡ union) → IfOk r (λ _. Met) → (Met → 0 < length union) → IfOk r (λ v. 0 < length v.items)
some_found (Ok v) union Met is met some = let P : List ℕ → Type 0 = λ xs. 0 < length xs in subst P (sym is) (some met)
some_found (Err e) union Met is met some = tt

-- what the answer has is in the base set
pub base_found : (shown : Shown) (texts : List (List ℕ)) (purpose : Purpose) (items : List Item) (r : Result (Vec ℕ Global) ListError)
    → IfOk r (λ v. v.items ≡ selection shown texts purpose items) → IfOk r (λ v. All (λ n. in_base shown purpose n ≡ true) v.items)
base_found shown texts purpose items (Ok v) is = All-same (λ n. in_base shown purpose n ≡ true) v.items (selection shown texts purpose items) is (base_all shown texts purpose items)
base_found shown texts purpose items (Err e) is = tt

-- and is a message
pub messages_found : (shown : Shown) (purpose : Purpose) (r : Result (Vec ℕ Global) ListError)
    → IfOk r (λ v. All (λ n. in_base shown purpose n ≡ true) v.items) → IfOk r (λ v. All (λ n. (1 ≤ n) × (n ≤ length shown.rows)) v.items)
messages_found shown purpose (Ok v) is = All-weaker (λ n. in_base shown purpose n ≡ true) (λ n. (1 ≤ n) × (n ≤ length shown.rows)) (in_base-message shown purpose) v.items is
messages_found shown purpose (Err e) is = tt
