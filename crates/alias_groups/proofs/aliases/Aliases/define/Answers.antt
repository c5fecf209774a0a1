use Rattle.std.proofs.Common.{arith, rules}
use Rattle.alias_groups.specs.Entries.{groups_in}
use Rattle.alias_groups.proofs.GroupLemmas.{keeps_with}
use Rattle.alias_groups.proofs.RemovalLemmas.{room-for}
use Rattle.alias_groups.proofs.aliases.Aliases.define.Goals as goal

pub invariant_of-self-2 : goal.invariant_of-self-2
invariant_of-self-2 c =
    let held = c.self.invariant in
    keeps_with (groups_in c.self.inside.groups.entries)
    (groups_in c.put.new.groups.entries) c.args.name.now c.in_ok-more.more.items c.args.to.now c.self.inside.members c.in_ok-put.ensures.ok c.in_ok-more.ensures held.0 held.1
    (let has = held.1 in let room = room-for (groups_in c.self.inside.groups.entries) c.args.to.now (search rules) in omega arith)
