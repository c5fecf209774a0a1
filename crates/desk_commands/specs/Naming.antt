-- Commands that name: aliases, the user's own names, and fields.
use Rattle.std.specs.Prelude.{ℕ, List, [], ◌∷◌, codes, is_some, if◌then◌else◌}
use Rattle.std.specs.List.{flat_map}
use Rattle.std.specs.declared.result.Result.TheVariants.{Err}
use Rattle.mail_text.specs.Lines.{with_feed}
use Rattle.alias_groups.specs.Groups.{define_refusal}
use Rattle.alias_groups.specs.Listing.{alias_line, listed}
use Rattle.name_lists.specs.Names.{with_names}
use Rattle.command_desk.specs.declared.desk.Desk.{Desk}
use Rattle.command_desk.specs.declared.naming.Naming.TheVariants as naming
use Rattle.command_desk.specs.declared.steps.Steps.{Steps}
use Rattle.command_desk.specs.Answers.{OrFault, says, effects_alone}
use Rattle.command_desk.specs.Effects.{renames, unchanged}
use Rattle.command_desk.specs.Faults.{bad_arguments, too_many_aliases}

-- an alias gets these members, unless all aliases together would have too many
abbrev pub given : Desk → List ℕ → List (List ℕ) → OrFault Steps
given desk name members =
    if is_some (define_refusal desk.aliases members) then Err too_many_aliases
    else effects_alone (renames (naming.Alias name members))

-- `alias`: without words all aliases are listed, with one word that one is; with more the first gets the others as members
abbrev pub alias : Desk → List (List ℕ) → OrFault Steps
alias desk [] = says (flat_map alias_line desk.aliases) unchanged
alias desk (name ∷ []) = says (listed desk.aliases name) unchanged
alias desk (name ∷ member ∷ members) = given desk name (member ∷ members)

-- `unalias`: one that isn't defined is passed over
abbrev pub unalias : Desk → List (List ℕ) → OrFault Steps
unalias desk [] = Err (bad_arguments (codes "unalias"))
unalias desk (w ∷ ws) = effects_alone (renames (naming.Unalias (w ∷ ws)))

-- `alternates`: the user's other names, each once; without words they are listed
abbrev pub alternates : Desk → List (List ℕ) → OrFault Steps
alternates desk [] = says (flat_map with_feed desk.own.alternates) unchanged
alternates desk (w ∷ ws) = effects_alone (renames (naming.Alternates (with_names [] (w ∷ ws))))

-- `ignore`: fields that are left out; without words they are listed
abbrev pub ignore : Desk → List (List ℕ) → OrFault Steps
ignore desk [] = says (flat_map with_feed desk.sets.ignored) unchanged
ignore desk (w ∷ ws) = effects_alone (renames (naming.Ignore (w ∷ ws)))

-- `retain`: fields that are kept, and no others; without words they are listed
abbrev pub retain : Desk → List (List ℕ) → OrFault Steps
retain desk [] = says (flat_map with_feed desk.sets.retained) unchanged
retain desk (w ∷ ws) = effects_alone (renames (naming.Retain (w ∷ ws)))
