use Rattle.run_laws.proofs.DeliveryLemmas.{deliveries_are_programs}
use Rattle.run_laws.proofs.laws.deliveries_are_programs.Goals as goal

pub returns : goal.returns
returns c = deliveries_are_programs
