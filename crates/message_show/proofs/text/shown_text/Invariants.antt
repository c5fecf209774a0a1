use Rattle.std.proofs.Common.{◌≡◌, ◌++◌}
use Rattle.mail_headers.specs.Header.{from_line, entries_of}
use Rattle.message_show.proofs.TextLemmas.{shown_part}
use Rattle.message_show.proofs.text.shown_text.Given as goal

abbrev pub invariant-loop-entry : goal.invariant-loop-entry
invariant-loop-entry l =
    (goal.iterator-loop-entry).can_next l.entry-iterator × (goal.iterator-loop-entry).is_finite l.entry-iterator
    × (l.text ++ shown_part l.sets l.how l.entry-iterator ≡ from_line l.header ++ shown_part l.sets l.how (entries_of l.header))
