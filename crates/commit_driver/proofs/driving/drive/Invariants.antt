use Rattle.std.specs.Prelude.{option_copied}
use Rattle.folder_change.specs.Outcomes.{base_list}
use Rattle.commit_driver.specs.Steps.{weight}
use Rattle.commit_driver.proofs.DriveLemmas.{Driving}
use Rattle.commit_driver.proofs.driving.drive.Given as goal

abbrev pub invariant-loop-call : goal.invariant-loop-call
invariant-loop-call g l = Driving g.H.Host.world l.plan l.changes (base_list (option_copied l.base)) l.fn.host l.host l.place

abbrev pub decreases-loop-call : goal.decreases-loop-call
decreases-loop-call g l = weight l.place.step
