use Rattle.commit_machine.proofs.runs.Rows.{row_moments}
use Rattle.commit_machine.proofs.laws.row_moments.Goals as goal

pub returns : goal.returns
returns c = row_moments
