use Rattle.std.proofs.Common.{◌≡◌, take}
use Rattle.commit_driver.specs.Places.{file_ways}
use Rattle.commit_driver.proofs.decision.ways_of.Given as goal

-- those of the files so far
abbrev pub invariant-loop-at : goal.invariant-loop-at
invariant-loop-at l = l.ways ≡ file_ways (take l.at l.files) (take l.at l.tails)
