use Rattle.message_state.proofs.FoundLemmas.{AreFound}
use Rattle.message_state.proofs.fields.row_fields.Given as goal

abbrev pub invariant-loop-entry : goal.invariant-loop-entry
invariant-loop-entry l =
    (goal.iterator-loop-entry).can_next l.entry-iterator × (goal.iterator-loop-entry).is_finite l.entry-iterator
    × AreFound l.text l.entry-iterator l.fields
