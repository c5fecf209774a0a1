use Rattle.std.proofs.Common.{◌≡◌}
use Rattle.std.specs.List.{find}
use Rattle.spool_rules.specs.Users.{is_entry_of, entry_of}
use Rattle.spool_rules.proofs.users.entry_of.Given as goal

abbrev pub invariant-loop-line : goal.invariant-loop-line
invariant-loop-line l =
    (goal.iterator-loop-line).can_next l.line-iterator × (goal.iterator-loop-line).is_finite l.line-iterator
    × (find (is_entry_of l.name) l.line-iterator ≡ entry_of l.list l.name)
