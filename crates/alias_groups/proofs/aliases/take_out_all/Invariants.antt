use Rattle.std.proofs.Common.{◌≡◌, ◌+◌, take}
use Rattle.alias_groups.specs.Entries.{groups_in}
use Rattle.alias_groups.specs.Groups.{member_count}
use Rattle.alias_groups.specs.Removal.{without_these}
use Rattle.alias_groups.proofs.aliases.take_out_all.Given as goal

abbrev pub invariant-loop-name : goal.invariant-loop-name
invariant-loop-name l = (groups_in l.groups.entries ≡ without_these (groups_in l.fn.groups.entries) (take l.name-index l.names))
    × (member_count (groups_in l.groups.entries) + l.members ≡ member_count (groups_in l.fn.groups.entries))
