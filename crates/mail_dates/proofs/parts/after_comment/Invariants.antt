use Rattle.std.proofs.Common.{◌≡◌, ◌+◌, ◌≤◌, length}
use Rattle.mail_dates.specs.Parts.{Inside, without_comments}
use Rattle.mail_dates.proofs.parts.after_comment.Given as goal

abbrev pub invariant-loop-b : goal.invariant-loop-b
invariant-loop-b l = record {
  same : without_comments (Inside l.depth) l.rest ≡ without_comments (Inside 0) l.text;
  depth : l.depth + length l.rest ≤ length l.text;
}

abbrev pub decreases-loop-b : goal.decreases-loop-b
decreases-loop-b l = length l.rest
