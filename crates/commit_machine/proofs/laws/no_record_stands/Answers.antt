use Rattle.commit_machine.proofs.runs.Ends.{no_record_stands}
use Rattle.commit_machine.proofs.laws.no_record_stands.Goals as goal

pub returns : goal.returns
returns c = no_record_stands
