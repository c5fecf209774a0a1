use Rattle.std.proofs.Common.{arith}
use Rattle.alias_groups.specs.Entries.{groups_in}
use Rattle.alias_groups.proofs.GroupLemmas.{keeps_out}
use Rattle.alias_groups.proofs.aliases.Aliases.remove.Goals as goal

pub invariant_of-self : goal.invariant_of-self
invariant_of-self c =
    let held = c.self.invariant in
    keeps_out (groups_in c.self.inside.groups.entries)
    (groups_in c.take_out.new.groups.entries) c.args.name.now c.self.inside.members c.in-Some.members c.in-Some.ensures.groups c.in-Some.ensures.members held.0 held.1

pub invariant_of-self-in-None : goal.invariant_of-self-in-None
invariant_of-self-in-None c =
    let held = c.self.invariant in
    let kept = keeps_out (groups_in c.self.inside.groups.entries)
    (groups_in c.take_out.new.groups.entries) c.args.name.now c.self.inside.members 0 c.in-None.ensures.groups c.in-None.ensures.members held.0 held.1 in
    (kept.0, let e = kept.1 in omega arith)
