use Rattle.std.proofs.Common.{◌<◌, ◌≢◌, ℕ, get_or}
use Rattle.desk_commands.proofs.setting.equals_in.Given as goal

abbrev pub invariant-loop-k : goal.invariant-loop-k
invariant-loop-k l = (j : ℕ) → j < l.k → get_or l.word j 0 ≢ 61
