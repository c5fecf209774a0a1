use Rattle.std.proofs.Common.{◌-◌, length}
use Rattle.mail_headers.proofs.PartsLemmas.{NoneBefore}
use Rattle.mail_headers.proofs.header.body_place.Given as goal

abbrev pub invariant-loop-start : goal.invariant-loop-start
invariant-loop-start l = NoneBefore l.text l.start

abbrev pub decreases-loop-start : goal.decreases-loop-start
decreases-loop-start l = length l.text - l.start
