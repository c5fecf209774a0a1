use Rattle.std.proofs.Common.{◌≡◌, take}
use Rattle.commit_driver.specs.Places.{decided_entries}
use Rattle.commit_driver.proofs.decision.decided_entries.Given as goal

-- the entries so far
abbrev pub invariant-loop-at : goal.invariant-loop-at
invariant-loop-at l = l.decided ≡ decided_entries (take l.at l.entries) (take l.at l.ways)
