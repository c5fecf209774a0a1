use Rattle.commit_machine.proofs.runs.Rows.{row_is_safe}
use Rattle.commit_machine.proofs.laws.row_is_safe.Goals as goal

pub returns : goal.returns
returns c = row_is_safe
