use Rattle.std.proofs.Common.{◌≡◌, ◌++◌}
use Rattle.std.specs.List.{flat_map}
use Rattle.alias_groups.specs.Entries.{groups_in}
use Rattle.alias_groups.specs.Listing.{alias_line}
use Rattle.alias_groups.proofs.aliases.Aliases.lines.Given as goal

abbrev pub invariant-loop-name : goal.invariant-loop-name
invariant-loop-name l = l.out ++ flat_map alias_line (groups_in l.name-iterator) ≡ flat_map alias_line l.self
