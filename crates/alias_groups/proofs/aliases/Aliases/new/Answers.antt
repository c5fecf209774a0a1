use Rattle.std.proofs.Common.{ap, sym}
use Rattle.alias_groups.specs.Entries.{groups_in}
use Rattle.alias_groups.specs.Groups.{member_count}
use Rattle.alias_groups.proofs.EntryLemmas.{Cache}
use Rattle.alias_groups.proofs.GroupLemmas.{are_none}
use Rattle.alias_groups.proofs.aliases.Aliases.new.Goals as goal

pub invariant_of-result : goal.invariant_of-result
invariant_of-result c = (
  are_none (groups_in c.in_ok-groups.groups.entries) (ap (λ (cache : Cache). groups_in cache.entries) c.in_ok-groups.ensures),
  sym (ap (λ (cache : Cache). member_count (groups_in cache.entries)) c.in_ok-groups.ensures),
)
