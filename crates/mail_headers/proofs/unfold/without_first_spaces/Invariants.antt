use Rattle.std.proofs.Common.{◌≡◌, length}
use Rattle.mail_headers.specs.Cutting.{IsFlat}
use Rattle.mail_headers.specs.Field.{without_feeds, trim_start}
use Rattle.mail_headers.proofs.unfold.without_first_spaces.Given as goal

abbrev pub invariant-loop-first : goal.invariant-loop-first
invariant-loop-first l = (trim_start (without_feeds l.rest) ≡ trim_start (without_feeds l.bytes)) × (IsFlat l.bytes → IsFlat l.rest)

abbrev pub decreases-loop-first : goal.decreases-loop-first
decreases-loop-first l = length l.rest
