use Rattle.std.proofs.Common.{◌≡◌, length}
use Rattle.folder_commit.proofs.run.room.Given as goal

abbrev pub invariant-loop-at : goal.invariant-loop-at
invariant-loop-at l = length l.files ≡ l.at
