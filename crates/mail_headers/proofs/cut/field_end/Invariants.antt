use Rattle.std.proofs.Common.{◌-◌, length}
use Rattle.mail_headers.specs.Cutting.{IsInField}
use Rattle.mail_headers.proofs.cut.field_end.Given as goal

abbrev pub invariant-loop-end : goal.invariant-loop-end
invariant-loop-end l = IsInField l.text l.first_line_end l.end

abbrev pub decreases-loop-end : goal.decreases-loop-end
decreases-loop-end l = length l.text - l.end
