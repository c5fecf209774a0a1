-- Names and the places of their keys, the names in lower case.
use Rattle.std.proofs.Common.{◌≡◌, ℕ, ◌+◌, Bool, true, false, nat_lt, List, [], ◌∷◌, ◌++◌, length, take, filter, is_some, Some, BTreeMap, nat_cmp, bytes_eq, sym, ap, ◌∙◌, ⊎_elim, arith}
use Rattle.std.specs.BTreeMap.{IsOrdered, Updates, get_by}
use Rattle.std.specs.Cmp.Lexicographic.{nat_list_eq_equiv, slice_cmp}
use Rattle.std.specs.List.{list_any, position_from}
use Rattle.std.specs.Map.{lookup}
use Rattle.std.specs.Str.{str_to_ascii_lowercase}
use Rattle.std.proofs.lemmas.Bool.{cases_Bool, cond-false, cond-true}
use Rattle.std.proofs.lemmas.Slice.Eq.{bytes_eq-Decides}
use Rattle.std.proofs.lemmas.Map.Entries.{option_filter}
use Rattle.name_lists.specs.Names.{has_name, with_name}
use Rattle.name_lists.specs.Keys.{ArePlacesOf}
use Rattle.name_lists.proofs.PlaceLemmas.{Key, at, found-after, found-kept, place-any, place-new, place-other, place-take}

abbrev is_key : List ℕ → List ℕ → Bool
is_key key name = bytes_eq key (str_to_ascii_lowercase name)

module _ (names : List (List ℕ)) (places : BTreeMap Key ℕ) (all : ArePlacesOf names places) where
  -- a name is found among the keys exactly where it is among the names
  pub found-has : (name key : List ℕ) → key ≡ str_to_ascii_lowercase name → is_some (get_by (λ (k : Key). slice_cmp nat_cmp key k.items) places) ≡ has_name names name
  found-has name key is = ap is_some (all key) ∙ place-any (is_key key) 0 names ∙ ap (λ l. list_any (is_key l) names) is

  -- the places with one more name
  pub places-push : (name : List ℕ) (key : Key) (new : BTreeMap Key ℕ) → has_name names name ≡ false → key.items ≡ str_to_ascii_lowercase name
      → Updates (λ (x y : Key). slice_cmp nat_cmp x.items y.items) places new key (Some (length names)) → ArePlacesOf (names ++ name ∷ []) new
  places-push name key new none is updates text =
      found-after key.items places new (Some (length names)) updates text
      ∙ ⊎_elim
      (λ own.
      let same : text ≡ str_to_ascii_lowercase name = sym ((bytes_eq-Decides key.items text).0 own) ∙ is in
      cond-true _ _ _ own
      ∙ ap Some (let e : length names ≡ 0 + length names = omega arith in e)
      ∙ sym (place-new (is_key text) 0 names name (ap (λ l. list_any (is_key l) names) same ∙ none) ((bytes_eq-Decides text (str_to_ascii_lowercase name)).1 same)))
      (λ other.
      cond-false _ _ _ other
      ∙ all text
      ∙ sym (place-other (is_key text) 0 names name (ap (bytes_eq text) (sym is) ∙ nat_list_eq_equiv.symm text key.items ∙ other)))
      (cases_Bool (bytes_eq key.items text))

  -- the places of the first names
  pub places-take : (count : ℕ) (new : BTreeMap Key ℕ) → IsOrdered (λ (x y : Key). slice_cmp nat_cmp x.items y.items) places
      → new.entries ≡ filter (λ e. nat_lt e.1 count) places.entries → ArePlacesOf (take count names) new
  places-take count new ordered kept text =
      ap (lookup (at text)) kept
      ∙ found-kept (λ p. nat_lt p count) places ordered text
      ∙ ap (option_filter (λ p. nat_lt p count)) (all text)
      ∙ ap (λ n. option_filter (λ p. nat_lt p n) (position_from (is_key text) 0 names)) (let e : count ≡ 0 + count = omega arith in e)
      ∙ sym (place-take (is_key text) 0 count names)

pub with_name-new : (names : List (List ℕ)) (name : List ℕ) → has_name names name ≡ false → with_name names name ≡ names ++ name ∷ []
with_name-new names name none = cond-false _ _ _ none

pub with_name-there : (names : List (List ℕ)) (name : List ℕ) → has_name names name ≡ true → with_name names name ≡ names
with_name-there names name there = cond-true _ _ _ there
