use Rattle.std.proofs.Common.{◌≡◌}
use Rattle.mail_search.specs.Meaning.{field_holds}
use Rattle.mail_search.specs.Entries.{holding_in}
use Rattle.mail_search.proofs.matching.text_holds.Given as goal

-- what is left tells of the whole header
abbrev pub invariant-loop-entry : goal.invariant-loop-entry
invariant-loop-entry l =
    (goal.iterator-loop-entry).can_next l.entry-iterator × (goal.iterator-loop-entry).is_finite l.entry-iterator
    × (holding_in l.name l.needle l.entry-iterator ≡ field_holds l.name l.needle l.text)
