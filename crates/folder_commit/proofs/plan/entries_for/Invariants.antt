use Rattle.std.proofs.Common.{◌≡◌, take}
use Rattle.commit_machine.specs.Edits.{first_names}
use Rattle.folder_commit.specs.Plans.{replaced}
use Rattle.folder_commit.proofs.plan.entries_for.Given as goal

abbrev pub invariant-loop-change : goal.invariant-loop-change
invariant-loop-change l = l.entries ≡ replaced (first_names (take l.change-index l.changes))
