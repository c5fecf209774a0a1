-- The order of a sorted view: by a key, and by number among messages with the same key.
use Rattle.std.specs.Prelude.{ℕ, ℤ, List, [], length, map, Option}
use Rattle.std.specs.Option.{option_map, option_map_or, option_and_then, option_cmp}
use Rattle.std.specs.declared.cmp.Ordering.{Ordering}
use Rattle.std.specs.Ordering.{nat_cmp, int_cmp, ordering_then}
use Rattle.std.specs.Cmp.Lexicographic.{slice_cmp}
use Rattle.std.specs.List.{range_with_len}
use Rattle.std.specs.List.Sorted.{IsPermutation, IsStrictlySortedBy}
use Rattle.std.specs.Str.{str_to_ascii_lowercase}
use Rattle.message_state.specs.declared.row.Row.{Row}
use Rattle.message_state.specs.States.{place}
use Rattle.thread_view.specs.declared.view.Key.{Key}
use Rattle.thread_view.specs.declared.view.Key.TheVariants.{Date, From, Size, Status, Subject, To}
use Rattle.thread_view.specs.Parents.{row_at}

-- pairs of a key and a number are compared by the key, and if it is the same by the number
abbrev pub by_key : {K : Type 0} → (K → K → Ordering) → K × ℕ → K × ℕ → Ordering
by_key compare a b = ordering_then (compare a.0 b.0) (nat_cmp a.1 b.1)

-- the order has each of so many messages once, by this key of their numbers and then by number
pub record IsInOrder {K : Type 0} (compare : K → K → Ordering) (key : ℕ → K) (count : ℕ) (order : List ℕ) : Type 0 where
  pub once : IsPermutation (range_with_len 1 count) order
  pub ascend : IsStrictlySortedBy (by_key compare) (map (λ k. (key k, k)) order)

-- the order has each message once, by this key of their rows
abbrev pub IsByKey : {K : Type 0} → (K → K → Ordering) → (Option Row → K) → List Row → List ℕ → Type 0
IsByKey compare key rows order = IsInOrder compare (λ k. key (row_at rows k)) (length rows) order

-- the keys of a message: seconds since 1970, none first; a number; a text in lower case, byte by byte
abbrev pub seconds_of : Option Row → Option ℤ
seconds_of row = option_map (λ moment. moment.seconds) (option_and_then (λ r. r.moment) row)

abbrev pub number_of : (Row → ℕ) → Option Row → ℕ
number_of value row = option_map_or value row 0

abbrev pub lower_of : (Row → List ℕ) → Option Row → List ℕ
lower_of text row = option_map_or (λ r. str_to_ascii_lowercase (text r)) row []

-- the order is sorted by the key; a status goes by its place in the table of states
abbrev pub IsSortedBy : Key → List Row → List ℕ → Type 0
IsSortedBy Date = IsByKey (option_cmp int_cmp) seconds_of
IsSortedBy From = IsByKey (slice_cmp nat_cmp) (lower_of (λ r. r.texts.author))
IsSortedBy Size = IsByKey nat_cmp (number_of (λ r. r.size))
IsSortedBy Status = IsByKey nat_cmp (number_of (λ r. place r.mark.state))
IsSortedBy Subject = IsByKey (slice_cmp nat_cmp) (lower_of (λ r. r.texts.subject))
IsSortedBy To = IsByKey (slice_cmp nat_cmp) (lower_of (λ r. r.texts.to))
