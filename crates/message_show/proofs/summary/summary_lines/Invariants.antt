use Rattle.std.proofs.Common.{◌≡◌, take}
use Rattle.message_show.specs.Summary.{summaries}
use Rattle.message_show.proofs.summary.summary_lines.Given as goal

abbrev pub invariant-loop-k : goal.invariant-loop-k
invariant-loop-k l = l.text ≡ summaries l.shown (take l.k-index l.numbers) l.width
