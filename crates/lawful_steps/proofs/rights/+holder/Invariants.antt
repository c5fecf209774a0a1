use Rattle.std.proofs.Common.{length}
use Rattle.lawful_steps.proofs.rights.+holder.Given as goal

abbrev pub decreases-holder : goal.decreases-holder
decreases-holder l = length l.events.now
