-- Places of messages in an order, and what stands beside them.
use Rattle.std.specs.Prelude.{ℕ, ◌+◌, ◌-◌, ◌==◌, List, slice_get, position, Option, None, if◌then◌else◌}
use Rattle.std.specs.Option.{option_and_then}

-- the place of message k, from 0
abbrev pub place_in : List ℕ → ℕ → Option ℕ
place_in order k = position (λ m. m == k) order

-- what stands after the place of message k, and before it
abbrev pub next_in : List ℕ → ℕ → Option ℕ
next_in order k = option_and_then (λ p. slice_get order (p + 1)) (place_in order k)

abbrev pub previous_in : List ℕ → ℕ → Option ℕ
previous_in order k = option_and_then (λ p. if p == 0 then None else slice_get order (p - 1)) (place_in order k)

-- what a list has at the place of message k
abbrev pub at_place : List ℕ → List ℕ → ℕ → Option ℕ
at_place order values k = option_and_then (slice_get values) (place_in order k)
