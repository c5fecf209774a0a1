use Rattle.run_laws.proofs.DeliveryLemmas.{deliveries_show_steps}
use Rattle.run_laws.proofs.laws.deliveries_show_steps.Goals as goal

pub returns : goal.returns
returns c = deliveries_show_steps
