use Rattle.std.proofs.Common.{◌≡◌, List, take}
use Rattle.commit_machine.specs.Jobs.{entries_for, made_at, way_made}
use Rattle.core_steps.specs.declared.change.CoreChange.{CoreChange}
use Rattle.actor_bracket.specs.Stands.{mades_as}
use Rattle.actor_bracket.proofs.planning.decided.Given as goal

abbrev pub invariant-loop-name : goal.invariant-loop-name
invariant-loop-name l = (cs : List CoreChange) → l.entries ≡ entries_for (λ n. way_made (made_at (mades_as cs l.made) n)) (take l.name-index l.names)
