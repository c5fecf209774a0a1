use Rattle.core_fact.proofs.Betweens.{programs-settle, programs-keep-messages}
use Rattle.core_fact.proofs.Interleavings.{every_interleaving}
use Rattle.core_fact.proofs.Messages.{messages_stay}
use Rattle.core_fact.proofs.laws.programs_settle.Goals as goal

pub returns-clause-files : goal.returns-clause-files
returns-clause-files c = programs-settle every_interleaving

pub returns-clause-messages : goal.returns-clause-messages
returns-clause-messages c = programs-keep-messages every_interleaving messages_stay
