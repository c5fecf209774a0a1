use Rattle.commit_machine.proofs.runs.Rows.{row_stops_between}
use Rattle.commit_machine.proofs.laws.row_stops_between.Goals as goal

pub returns : goal.returns
returns c = row_stops_between
