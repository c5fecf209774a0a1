-- What a message list selects.
use Rattle.std.specs.Prelude.{◌≡◌, ℕ, Bool, not, List, [], ◌∷◌, filter, Option, Some, None, option_to_list, if◌then◌else◌}
use Rattle.std.specs.Option.{option_or, option_map}
use Rattle.std.specs.List.{list_any, find}
use Rattle.message_state.specs.declared.shown.Shown.{Shown}
use Rattle.message_list.specs.declared.list.Item.{Item}
use Rattle.message_list.specs.declared.list.ListError.{ListError}
use Rattle.message_list.specs.declared.list.ListError.TheVariants.{Syntax, NoSuch, NoneMatch, Memory}
use Rattle.message_list.specs.declared.list.Purpose.{Purpose}
use Rattle.message_list.specs.declared.list.Purpose.TheVariants.{Live, Dead, Any}
use Rattle.message_list.specs.Places.{in_base, back_from, first_of}
use Rattle.message_list.specs.Naming.{names}

-- the base set in view order
abbrev pub base_of : Shown → Purpose → List ℕ
base_of shown purpose = filter (in_base shown purpose) shown.order

-- the current message if it is in the base set
abbrev pub current_of : Shown → Purpose → Option ℕ
current_of shown purpose = if in_base shown purpose shown.current then Some shown.current else None

-- what a list without words selects: the current message; of the deleted ones the nearest at or before it in the view, else the first
abbrev pub default_message : Shown → Purpose → Option ℕ
default_message shown Live = current_of shown Live
default_message shown Any = current_of shown Any
default_message shown Dead = option_or (find (in_base shown Dead) (back_from shown shown.current)) (first_of shown Dead)

-- one of the words names the message
abbrev pub is_named : Shown → List (List ℕ) → Purpose → List Item → ℕ → Bool
is_named shown texts purpose items n = list_any (λ item. names shown texts purpose item n) items

-- of the base set in view order, what the words name
abbrev pub named_in : Shown → List (List ℕ) → Purpose → List Item → List ℕ
named_in shown texts purpose items = filter (is_named shown texts purpose items) (base_of shown purpose)

-- the selection: the default message alone, or what the words name
abbrev pub selection : Shown → List (List ℕ) → Purpose → List Item → List ℕ
selection shown texts purpose [] = option_to_list (default_message shown purpose)
selection shown texts purpose (item ∷ items) = named_in shown texts purpose (item ∷ items)

-- the word names a message of the base set
abbrev pub finds : Shown → List (List ℕ) → Purpose → Item → Bool
finds shown texts purpose item = list_any (names shown texts purpose item) (base_of shown purpose)

-- the first word that names none
abbrev pub first_missing : Shown → List (List ℕ) → Purpose → List Item → Option (List ℕ)
first_missing shown texts purpose items = option_map (λ item. item.word) (find (λ item. not (finds shown texts purpose item)) items)

-- why a list selects nothing: the first word that names none; no words and no default message; memory ran out
abbrev pub IsUnmet : Shown → List (List ℕ) → Purpose → List Item → ListError → Type 0
IsUnmet shown texts purpose items (Syntax word) = ⊥
IsUnmet shown texts purpose items (NoSuch word) = first_missing shown texts purpose items ≡ Some word
IsUnmet shown texts purpose items NoneMatch = (items ≡ []) × (default_message shown purpose ≡ None)
IsUnmet shown texts purpose items Memory = Unit {0}

-- why words select nothing: the first word that names none, or that memory ran out
abbrev pub IsMissing : Shown → List (List ℕ) → Purpose → List Item → ListError → Type 0
IsMissing shown texts purpose items (Syntax word) = ⊥
IsMissing shown texts purpose items (NoSuch word) = first_missing shown texts purpose items ≡ Some word
IsMissing shown texts purpose items NoneMatch = ⊥
IsMissing shown texts purpose items Memory = Unit {0}

-- this word names none, or memory ran out
abbrev pub IsNoSuch : List ℕ → ListError → Type 0
IsNoSuch missing (Syntax word) = ⊥
IsNoSuch missing (NoSuch word) = word ≡ missing
IsNoSuch missing NoneMatch = ⊥
IsNoSuch missing Memory = Unit {0}
