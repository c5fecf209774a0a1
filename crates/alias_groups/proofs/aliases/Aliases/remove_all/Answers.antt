use Rattle.std.proofs.Common.{arith}
use Rattle.alias_groups.specs.Entries.{groups_in}
use Rattle.alias_groups.proofs.RemovalLemmas.{are_these}
use Rattle.alias_groups.proofs.aliases.Aliases.remove_all.Goals as goal

pub invariant_of-self : goal.invariant_of-self
invariant_of-self c =
    let held = c.self.invariant in (
      are_these (groups_in c.self.inside.groups.entries) (groups_in c.take_out_all.new.groups.entries) c.args.names.now c.take_out_all.ensures.groups held.0,
      (let out = c.take_out_all.ensures.members in let has = held.1 in omega arith),
    )
