use Rattle.std.proofs.Common.{◌≡◌, length}
use Rattle.mail_headers.specs.Field.{trim_end}
use Rattle.compose_tilde.proofs.reading.without_last_blanks.Given as goal

abbrev pub invariant-loop-last : goal.invariant-loop-last
invariant-loop-last l = trim_end l.rest ≡ trim_end l.bytes

abbrev pub decreases-loop-last : goal.decreases-loop-last
decreases-loop-last l = length l.rest
