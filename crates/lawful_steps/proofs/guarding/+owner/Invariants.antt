use Rattle.std.proofs.Common.{length}
use Rattle.lawful_steps.proofs.guarding.+owner.Given as goal

abbrev pub decreases-owner : goal.decreases-owner
decreases-owner l = length l.locks.now
