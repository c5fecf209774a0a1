-- The messages that words select.
use Rattle.std.specs.Prelude.{◌≡◌, ◌≤◌, ℕ, List, [], ◌∷◌, length, Option, Some, None}
use Rattle.std.specs.List.{filter_map}
use Rattle.std.specs.Option.{option_map}
use Rattle.std.specs.declared.result.Result.{Result}
use Rattle.std.specs.declared.result.Result.TheVariants.{Ok, Err}
use Rattle.message_state.specs.declared.shown.Shown.{Shown}
use Rattle.message_list.specs.declared.list.Item.{Item}
use Rattle.message_list.specs.declared.list.ListError.{ListError}
use Rattle.message_list.specs.declared.list.ListError.TheVariants.{Syntax, NoSuch, NoneMatch, Memory}
use Rattle.message_list.specs.declared.list.Purpose.{Purpose}
use Rattle.message_list.specs.ListWords.{kind_of, first_bad}
use Rattle.message_list.specs.Selections.{selection, first_missing}

-- a word with its kind
abbrev pub item_of : List ℕ → Option Item
item_of word = option_map (λ kind. record { word = word; kind = kind }) (kind_of word)

-- the words as items of a list
abbrev pub items_of : List (List ℕ) → List Item
items_of words = filter_map item_of words

-- if a word is found that is at fault, it refuses the list
abbrev pub unless : Option (List ℕ) → (List ℕ → ListError) → Result (List ℕ) ListError → Result (List ℕ) ListError
unless (Some word) error found = Err (error word)
unless None error found = found

-- a selection, which has a message
abbrev pub some_message : List ℕ → Result (List ℕ) ListError
some_message [] = Err NoneMatch
some_message (n ∷ ns) = Ok (n ∷ ns)

-- The messages that the words select, in view order. Refused are, in this order: the first word that is no list word,
-- the first that names no message, and the lack of words if there is no message to take
unfoldable pub chosen : Purpose → Shown → List (List ℕ) → List (List ℕ) → Result (List ℕ) ListError
chosen purpose shown texts words =
    unless (first_bad words) Syntax
    (unless (first_missing shown texts purpose (items_of words)) NoSuch
    (some_message (selection shown texts purpose (items_of words))))

-- an answer is the messages that were chosen, or why there are none, or that memory ran out
abbrev pub IsChosen : Result (List ℕ) ListError → Result (List ℕ) ListError → Type 0
IsChosen (Ok ns) found = found ≡ Ok ns
IsChosen (Err (Syntax word)) found = found ≡ Err (Syntax word)
IsChosen (Err (NoSuch word)) found = found ≡ Err (NoSuch word)
IsChosen (Err NoneMatch) found = found ≡ Err NoneMatch
IsChosen (Err Memory) found = Unit {0}

-- n is the number of a message
abbrev pub IsMessage : Shown → ℕ → Type 0
IsMessage shown n = (1 ≤ n) × (n ≤ length shown.rows)
