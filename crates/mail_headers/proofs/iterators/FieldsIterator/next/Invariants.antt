use Rattle.std.proofs.Common.{◌≡◌, length}
use Rattle.std.specs.List.{filter_map}
use Rattle.mail_headers.specs.Header.{field_in}
use Rattle.mail_headers.proofs.iterators.FieldsIterator.next.Given as goal

abbrev pub invariant-loop-entry : goal.invariant-loop-entry
invariant-loop-entry l = filter_map field_in l.self-inside.entries ≡ filter_map field_in l.initial.self-inside.entries

abbrev pub decreases-loop-entry : goal.decreases-loop-entry
decreases-loop-entry l = length l.self-inside.entries
