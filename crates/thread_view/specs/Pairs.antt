-- Pairs of keys and numbers, as the code sorts them.
use Rattle.std.specs.Prelude.{◌≡◌, ℕ, List, length, map, Option}
use Rattle.std.specs.declared.cmp.Ordering.{Ordering}
use Rattle.std.specs.List.{range_with_len}
use Rattle.std.specs.List.Sorted.{IsPermutation, IsSorted}
use Rattle.message_state.specs.declared.row.Row.{Row}
use Rattle.message_state.specs.States.{place}
use Rattle.thread_view.specs.declared.view.Key.{Key}
use Rattle.thread_view.specs.declared.view.Key.TheVariants.{From, Status, To}
use Rattle.thread_view.specs.Parents.{row_at}
use Rattle.thread_view.specs.Sorting.{by_key}

-- the numbers of the pairs, once they are sorted
pub record AreSortedNumbers {K : Type 0} (compare : K → K → Ordering) (pairs : List (K × ℕ)) (numbers : List ℕ) : Type 0 where
  pub sorted : List (K × ℕ)
  pub moved : IsPermutation pairs sorted
  pub ascend : IsSorted (by_key compare) sorted
  pub are : numbers ≡ map (λ p. p.1) sorted

-- the messages of these rows, each with its key
abbrev pub keyed : {K : Type 0} → (Option Row → K) → List Row → List (K × ℕ)
keyed key rows = map (λ k. (key (row_at rows k), k)) (range_with_len 1 (length rows))

-- the text of a row that is a key, and the number
abbrev pub text_of : Key → Row → List ℕ
text_of From row = row.texts.author
text_of To row = row.texts.to
text_of key row = row.texts.subject

abbrev pub value_of : Key → Row → ℕ
value_of Status row = place row.mark.state
value_of key row = row.size
