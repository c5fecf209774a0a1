use Rattle.commit_machine.proofs.runs.Safety.{events_have_rows}
use Rattle.commit_machine.proofs.safety.events_have_rows.Goals as goal

pub returns : goal.returns
returns c = events_have_rows
