use Rattle.std.proofs.Common.{◌≡◌, take}
use Rattle.commit_driver.specs.Holding.{held_for}
use Rattle.commit_driver.proofs.decision.let_all_go.Given as goal

-- what is held of the files so far
abbrev pub invariant-loop-at : goal.invariant-loop-at
invariant-loop-at l = l.files ≡ held_for l.fn.files (take l.at l.stays)
