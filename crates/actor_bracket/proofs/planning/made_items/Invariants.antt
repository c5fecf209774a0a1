use Rattle.std.proofs.Common.{◌≡◌, List, map, take}
use Rattle.commit_machine.specs.Items.{made_item}
use Rattle.core_steps.specs.declared.change.CoreChange.{CoreChange}
use Rattle.actor_bracket.specs.Stands.{items_as, mades_as}
use Rattle.actor_bracket.proofs.planning.made_items.Given as goal

abbrev pub invariant-loop-name : goal.invariant-loop-name
invariant-loop-name l = (cs : List CoreChange) → items_as l.list ≡ map (made_item (mades_as cs l.made)) (take l.name-index l.name-items)
