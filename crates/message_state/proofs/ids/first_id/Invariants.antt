use Rattle.std.proofs.Common.{◌≡◌, length}
use Rattle.message_state.specs.Ids.{ids_of}
use Rattle.message_state.proofs.ids.first_id.Given as goal

abbrev pub invariant-loop-at : goal.invariant-loop-at
invariant-loop-at l = ids_of l.rest ≡ ids_of l.value

abbrev pub decreases-loop-at : goal.decreases-loop-at
decreases-loop-at l = length l.rest
