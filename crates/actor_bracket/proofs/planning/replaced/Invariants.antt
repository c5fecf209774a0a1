use Rattle.std.proofs.Common.{◌≡◌, take}
use Rattle.commit_record.specs.declared.way.Way.TheVariants.{Replace}
use Rattle.commit_machine.specs.Jobs.{entries_for}
use Rattle.actor_bracket.proofs.planning.replaced.Given as goal

abbrev pub invariant-loop-name : goal.invariant-loop-name
invariant-loop-name l = l.entries ≡ entries_for (λ n. Replace) (take l.name-index l.names)
