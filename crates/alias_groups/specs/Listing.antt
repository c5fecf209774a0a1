-- Aliases as they are listed.
use Rattle.std.specs.Prelude.{ℕ, List, [], ◌∷◌, ◌++◌, codes}
use Rattle.std.specs.List.{flat_map}
use Rattle.std.specs.Option.{option_map_or}
use Rattle.mail_text.specs.Lines.{with_feed}
use Rattle.alias_groups.specs.Groups.{Group, members_of}

-- words, each after a space
abbrev pub spaced : List (List ℕ) → List ℕ
spaced words = flat_map (λ word. 32 ∷ word) words

-- an alias as it is listed: `alias`, its name and its members
abbrev pub alias_line : Group → List ℕ
alias_line group = with_feed ((codes "alias " ++ group.0) ++ spaced group.1)

-- the alias of this name as it is listed; nothing if the name isn't defined
abbrev pub listed : List Group → List ℕ → List ℕ
listed groups name = option_map_or (λ members. alias_line (name, members)) (members_of groups name) []
