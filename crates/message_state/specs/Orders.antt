-- What an order knows of the places of its numbers.
use Rattle.std.specs.Prelude.{◌≡◌, ℕ, ◌-◌, ◌==◌, List, length, slice_get, position, Option, None, if◌then◌else◌}
use Rattle.std.specs.List.{range_with_len}
use Rattle.message_state.specs.declared.order.Places.{Places}
use Rattle.message_state.specs.declared.order.Places.TheVariants.{ByNumber, Listed, Unknown}

-- the place of number k, from 0
abbrev pub place_in : List ℕ → ℕ → Option ℕ
place_in numbers k = position (λ n. n == k) numbers

-- what a list that has the place of number k at place k - 1 tells
abbrev pub listed_place : List ℕ → ℕ → Option ℕ
listed_place places k = if k == 0 then None else slice_get places (k - 1)

-- the numbers are those from 1 on, or each number has its listed place, or nothing is known
abbrev pub KnowsPlaces : List ℕ → Places → Type 0
KnowsPlaces numbers ByNumber = numbers ≡ range_with_len 1 (length numbers)
KnowsPlaces numbers (Listed places) = (k : ℕ) → place_in numbers k ≡ listed_place places.items k
KnowsPlaces numbers Unknown = Unit {0}
