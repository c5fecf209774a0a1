use Rattle.send_rules.proofs.AddressingLemmas.{in-order}
use Rattle.send_rules.proofs.laws.addressees_in_order.Goals as goal

pub returns : goal.returns
returns c = in-order
