use Rattle.commit_machine.proofs.runs.Rows.{row_stops}
use Rattle.commit_machine.proofs.laws.row_stops.Goals as goal

pub returns : goal.returns
returns c = row_stops
