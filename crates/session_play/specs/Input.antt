-- Input by lines.
use Rattle.std.specs.Prelude.{◌≡◌, ◌==◌, ◌+◌, ◌-◌, ◌≤◌, ℕ, Bool, true, false, List, [], ◌∷◌, ◌++◌, if◌then◌else◌, length}
use Rattle.std.specs.declared.option.Option.{Option}
use Rattle.std.specs.declared.option.Option.TheVariants.{Some, None}
use Rattle.host_port.specs.declared.event.Event.{Event}
use Rattle.host_port.specs.declared.event.Event.TheVariants as event

-- the most bytes of input that a run takes
abbrev pub input_limit : ℕ
input_limit = 67108864

-- the most bytes that one taking of input gives
abbrev pub buffer_size : ℕ
buffer_size = 65536

-- the input that was taken and not yet used, whether its end was seen, and how much was taken in all
pub record Input : Type 0 where
  pub rest : List ℕ
  pub ended : Bool
  pub taken : ℕ

-- a byte in front of the first of two pieces
abbrev pub onto_first : ℕ → Option (List ℕ × List ℕ) → Option (List ℕ × List ℕ)
onto_first b None = None
onto_first b (Some p) = Some (b ∷ p.0, p.1)

-- the bytes before the first line feed, and the bytes after it
abbrev pub first_line : List ℕ → Option (List ℕ × List ℕ)
first_line [] = None
first_line (b ∷ bs) = if b == 10 then Some ([], bs) else onto_first b (first_line bs)

-- what is left at the end is a line, unless it is empty
abbrev pub last_line : List ℕ → Input → Option (List ℕ) × Input
last_line [] i = (None, i)
last_line (b ∷ bs) i = (Some (b ∷ bs), record { rest = []; ended = true; taken = i.taken })

-- the line, or the end, that can be handed out with no further input
abbrev pub next_of : Option (List ℕ × List ℕ) → Bool → Input → Option (Option (List ℕ) × Input)
next_of (Some p) ended i = Some (Some p.0, record { rest = p.1; ended = ended; taken = i.taken })
next_of None true i = Some (last_line i.rest i)
next_of None false i = None

abbrev pub next_line : Input → Option (Option (List ℕ) × Input)
next_line i = next_of (first_line i.rest) i.ended i

abbrev pub is_empty : List ℕ → Bool
is_empty [] = true
is_empty (b ∷ bs) = false

-- the input after bytes were taken; none are its end
abbrev pub took : Input → List ℕ → Input
took i bytes = record { rest = i.rest ++ bytes; ended = is_empty bytes; taken = i.taken + length bytes }

-- bytes that fit the buffer and the limit
abbrev pub MayTake : Input → List ℕ → Type 0
MayTake i bytes = (length bytes ≤ buffer_size) × (i.taken + length bytes ≤ input_limit)

-- These events take input from i to j, each what fits the buffer and the limit. Each stands only where no line and no end can be handed out without it.
abbrev pub Reads : Input → List Event → Input → Type 0
Reads i [] j = i ≡ j
Reads i (event.In bytes false ∷ es) j = (next_line i ≡ None) × MayTake i bytes × Reads (took i bytes) es j
Reads i (e ∷ es) j = ⊥

-- what can be handed out is, and else nothing changes
abbrev pub Handed : Option (Option (List ℕ)) → Input → Input → Type 0
Handed None old new = (next_line old ≡ None) × (new ≡ old)
Handed (Some line) old new = next_line old ≡ Some (line, new)

-- the bytes that may still be used: those that were taken, and those that may be taken
abbrev pub left : Input → ℕ
left i = length i.rest + (input_limit - i.taken)

-- no input yet
abbrev pub no_input : Input
no_input = record { rest = []; ended = false; taken = 0 }
