use Rattle.std.proofs.Common.{◌≡◌, ◌-◌, []}
use Rattle.commit_record.specs.Reading.{entries_at}
use Rattle.commit_record.proofs.reader.entries_at.Given as goal

-- what is left gives, after what is found, what the whole gives
abbrev pub invariant-loop-line : goal.invariant-loop-line
invariant-loop-line l = entries_at (l.count - l._line) l.entries l.rest ≡ entries_at l.fn.count [] l.fn.bytes
