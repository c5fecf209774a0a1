use Rattle.std.proofs.Common.{◌≡◌, map, take}
use Rattle.commit_driver.specs.Places.{tails_for}
use Rattle.commit_driver.proofs.decision.tails_for.Given as goal

-- those of the files so far
abbrev pub invariant-loop-at : goal.invariant-loop-at
invariant-loop-at l = l.tails ≡ tails_for l.changes (map (λ e. e.name) (take l.at l.entries)) (take l.at l.files)
