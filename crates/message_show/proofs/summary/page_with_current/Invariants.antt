use Rattle.std.proofs.Common.{◌≡◌, ◌-◌}
use Rattle.message_show.specs.Summary.{page_text, with_current}
use Rattle.message_show.proofs.summary.page_with_current.Given as goal

abbrev pub invariant-loop-place : goal.invariant-loop-place
invariant-loop-place l = l.text ≡ page_text (with_current l.shown l.current) l.first (l.place - l.first) l.width
