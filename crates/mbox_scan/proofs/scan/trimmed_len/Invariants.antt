use Rattle.std.proofs.Common.{◌≡◌, ◌≤◌, ◌<◌, ℕ, get_or, length}
use Rattle.mbox_scan.proofs.scan.trimmed_len.Given as goal

abbrev pub invariant-loop-n : goal.invariant-loop-n
invariant-loop-n l = record { within : l.n ≤ length l.piece; feeds : (k : ℕ) → l.n ≤ k → k < length l.piece → get_or l.piece k 0 ≡ 10 }

abbrev pub decreases-loop-n : goal.decreases-loop-n
decreases-loop-n l = l.n
