use Rattle.core_fact.proofs.Interleavings.{every_interleaving}
use Rattle.core_fact.proofs.Runs.{programs-interleave}
use Rattle.core_fact.proofs.laws.programs_interleave.Goals as goal

pub returns : goal.returns
returns c = programs-interleave every_interleaving
