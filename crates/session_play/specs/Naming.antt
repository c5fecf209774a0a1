-- The names of files that a commit is to change.
use Rattle.std.specs.Prelude.{ℕ, List, if◌then◌else◌}
use Rattle.std.specs.declared.option.Option.{Option}
use Rattle.std.specs.declared.option.Option.TheVariants.{Some, None}
use Rattle.folder_commit.specs.Names.{is_file_name}
use Rattle.mailx_vars.specs.Names.{is_short_name}
use Rattle.session_play.specs.declared.naming.NameFault.{NameFault}
use Rattle.session_play.specs.declared.naming.NameFault.TheVariants as fault

-- what is wrong with such a name, for an actor
abbrev pub target_fault : List ℕ → List ℕ → Option NameFault
target_fault actor name = if is_short_name name then (if is_file_name actor name then None else Some fault.Reserved) else Some fault.Bad
