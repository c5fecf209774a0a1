use Rattle.std.proofs.Common.{length}
use Rattle.lawful_steps.proofs.guarding.+file.Given as goal

abbrev pub decreases-file : goal.decreases-file
decreases-file l = length l.files.now
