use Rattle.std.proofs.Common.{◌≡◌, ◌≤◌, take}
use Rattle.quit_rules.specs.Fates.{is_staying}
use Rattle.quit_rules.proofs.PlanLemmas.{count_where}
use Rattle.quit_rules.proofs.count.kept.Given as goal

abbrev pub invariant-loop-mark : goal.invariant-loop-mark
invariant-loop-mark l = record { is : l.count ≡ count_where is_staying l.rules (take l.mark-index l.marks); few : l.count ≤ l.mark-index }
