use Rattle.std.proofs.Common.{◌≡◌, take}
use Rattle.commit_driver.specs.Holding.{ends_for}
use Rattle.commit_driver.proofs.decision.ends_for.Given as goal

-- those of the files so far
abbrev pub invariant-loop-at : goal.invariant-loop-at
invariant-loop-at l = l.ends ≡ ends_for (take l.at l.files) (take l.at l.stays)
