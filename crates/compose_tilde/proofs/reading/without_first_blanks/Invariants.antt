use Rattle.std.proofs.Common.{◌≡◌, length}
use Rattle.mail_headers.specs.Field.{trim_start}
use Rattle.compose_tilde.proofs.reading.without_first_blanks.Given as goal

abbrev pub invariant-loop-first : goal.invariant-loop-first
invariant-loop-first l = trim_start l.rest ≡ trim_start l.bytes

abbrev pub decreases-loop-first : goal.decreases-loop-first
decreases-loop-first l = length l.rest
