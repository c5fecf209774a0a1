use Rattle.std.proofs.Common.{◌≡◌, drop}
use Rattle.session_play.specs.Committing.{first_target_fault}
use Rattle.session_play.proofs.changing.first_target_fault.Given as goal

abbrev pub invariant-loop-change : goal.invariant-loop-change
invariant-loop-change l = first_target_fault l.actor (drop l.change-index l.changes) ≡ first_target_fault l.actor l.changes
