use Rattle.std.proofs.Common.{◌≡◌, ◌++◌}
use Rattle.mail_headers.specs.Header.{from_line, entries_of}
use Rattle.message_state.proofs.StampLemmas.{kept_part}
use Rattle.message_state.proofs.stamp.with_value.Given as goal

abbrev pub invariant-loop-entry : goal.invariant-loop-entry
invariant-loop-entry l =
    (goal.iterator-loop-entry).can_next l.entry-iterator × (goal.iterator-loop-entry).is_finite l.entry-iterator
    × (l.text ++ kept_part l.name l.entry-iterator ≡ from_line l.header ++ kept_part l.name (entries_of l.header))
