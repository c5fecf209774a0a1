use Rattle.commit_machine.proofs.records.Edits.{edits_are_changes}
use Rattle.commit_machine.proofs.laws.edits_are_changes.Goals as goal

pub returns : goal.returns
returns c = edits_are_changes
