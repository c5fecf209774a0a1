use Rattle.std.proofs.Common.{◌≡◌, ◌+◌, drop}
use Rattle.quit_rules.specs.Plans.{messages_of, unchanged_len}
use Rattle.quit_rules.proofs.plan.unchanged_len.Given as goal

abbrev pub invariant-loop-k : goal.invariant-loop-k
invariant-loop-k l = unchanged_len l.rules (messages_of l.folder) ≡ l.k + unchanged_len l.rules (drop l.k (messages_of l.folder))
