use Rattle.std.proofs.Common.{length}
use Rattle.session_cases.proofs.committing.+put_changes.Given as goal

abbrev pub decreases-put_changes : goal.decreases-put_changes
decreases-put_changes l = length l.words.now
