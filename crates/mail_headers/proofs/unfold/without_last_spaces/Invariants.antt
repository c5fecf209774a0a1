use Rattle.std.proofs.Common.{◌≡◌, length}
use Rattle.mail_headers.specs.Cutting.{IsFlat}
use Rattle.mail_headers.specs.Field.{without_feeds, trim_end}
use Rattle.mail_headers.proofs.unfold.without_last_spaces.Given as goal

abbrev pub invariant-loop-last : goal.invariant-loop-last
invariant-loop-last l = (trim_end (without_feeds l.rest) ≡ trim_end (without_feeds l.bytes)) × (IsFlat l.bytes → IsFlat l.rest)

abbrev pub decreases-loop-last : goal.decreases-loop-last
decreases-loop-last l = length l.rest
