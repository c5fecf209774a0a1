use Rattle.core_fact.proofs.Interleavings.{every_interleaving}
use Rattle.core_fact.proofs.laws.every_interleaving.Goals as goal

pub returns : goal.returns
returns c = every_interleaving
