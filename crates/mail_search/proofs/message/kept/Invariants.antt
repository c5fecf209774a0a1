use Rattle.std.proofs.Common.{◌≡◌, ◌++◌}
use Rattle.mail_headers.specs.Header.{entries_of}
use Rattle.mail_search.proofs.message.kept.Given as goal

-- what is kept and what is left are the whole header
abbrev pub invariant-loop-entry : goal.invariant-loop-entry
invariant-loop-entry l =
    (goal.iterator-loop-entry).can_next l.entry-iterator × (goal.iterator-loop-entry).is_finite l.entry-iterator
    × (l.kept ++ l.entry-iterator ≡ entries_of l.text)
