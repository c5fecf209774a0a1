use Rattle.std.proofs.Common.{◌≡◌, map, take}
use Rattle.commit_machine.specs.Items.{found_item}
use Rattle.actor_bracket.specs.Stands.{items_as}
use Rattle.actor_bracket.proofs.folding.found_items.Given as goal

abbrev pub invariant-loop-entry : goal.invariant-loop-entry
invariant-loop-entry l = items_as l.list ≡ map found_item (take l.entry-index l.entries)
