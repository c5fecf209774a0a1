-- Changes of what the user has named, which are aliases, own names, fields and macros, and of what was gathered.
use Rattle.std.specs.Prelude.{ℕ, List, [], ◌∷◌, ◌++◌, Option, is_some, if◌then◌else◌}
use Rattle.std.specs.List.{fold}
use Rattle.std.specs.declared.option.Option.TheVariants.{Some}
use Rattle.alias_groups.specs.Groups.{Group}
use Rattle.alias_groups.specs.Removal as removal
use Rattle.alias_groups.specs.declared.own.Own.{Own}
use Rattle.mailx_macros.specs.Macros.{Definitions, begin_refusal, begun, ended, line_refusal, with_line, without}
use Rattle.message_show.specs.FieldSets.{FieldNames}
use Rattle.name_lists.specs.Names.{with_names}
use Rattle.quit_rules.specs.declared.gathered.BatchItem.{BatchItem}
use Rattle.command_desk.specs.declared.desk.Desk.{Desk}
use Rattle.command_desk.specs.declared.naming.Naming.{Naming}
use Rattle.command_desk.specs.declared.naming.Naming.TheVariants as naming

-- the aliases after a change of names
abbrev pub aliases_after : Option Naming → List Group → List Group
aliases_after (Some (naming.Alias name members)) groups = removal.given groups name members
aliases_after (Some (naming.Unalias names)) groups = removal.without_these groups names
aliases_after other groups = groups

-- the user's own names after a change of names
abbrev pub own_after : Option Naming → Own → Own
own_after (Some (naming.Alternates names)) own = record own { alternates = names }
own_after other own = own

-- the fields that are left out or kept after a change of names
abbrev pub sets_after : Option Naming → FieldNames → FieldNames
sets_after (Some (naming.Ignore names)) sets = record sets { ignored = with_names sets.ignored names }
sets_after (Some (naming.Retain names)) sets = record sets { retained = with_names sets.retained names }
sets_after other sets = sets

-- the macros once a definition is begun; if it is refused all stays
abbrev pub begun_unless_refused : Definitions → List ℕ → Definitions
begun_unless_refused macros name = if is_some (begin_refusal macros name) then macros else begun macros name

-- the macros once the definition that is under way has a line more; if it is refused, or none is under way, all
-- stays
abbrev pub with_line_unless_refused : Definitions → List ℕ → Definitions
with_line_unless_refused macros line =
    if is_some macros.unfinished then (if is_some (line_refusal macros line) then macros else with_line macros line)
    else macros

-- the macros but that of this name
abbrev pub undefined : Definitions → List ℕ → Definitions
undefined macros name = record macros { done = without macros.done name }

-- the macros but those of these names
abbrev pub without_these : Definitions → List (List ℕ) → Definitions
without_these macros names = fold undefined macros names

-- the macros after a change of names
abbrev pub macros_after : Option Naming → Definitions → Definitions
macros_after (Some (naming.Begin name)) macros = begun_unless_refused macros name
macros_after (Some (naming.Line line)) macros = with_line_unless_refused macros line
macros_after (Some naming.End) macros = ended macros
macros_after (Some (naming.Undef names)) macros = without_these macros names
macros_after other macros = macros

-- what was gathered, and then what is gathered now
abbrev pub gathered_after : Option Naming → List BatchItem → List BatchItem
gathered_after (Some (naming.Gather one)) gathered = gathered ++ one ∷ []
gathered_after other gathered = gathered

-- the desk after a change of names or of what was gathered, if there is one
abbrev pub renamed : Desk → Option Naming → Desk
renamed desk change = record desk {
  aliases = aliases_after change desk.aliases;
  own = own_after change desk.own;
  sets = sets_after change desk.sets;
  macros = macros_after change desk.macros;
  gathered = gathered_after change desk.gathered;
}
