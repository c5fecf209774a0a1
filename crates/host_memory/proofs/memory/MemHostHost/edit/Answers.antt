use Rattle.host_memory.specs.MemHosts.{edits_left}
use Rattle.host_memory.proofs.EditLemmas.{answer-fits}
use Rattle.host_memory.proofs.memory.MemHostHost.edit.Goals as goal

pub returns-in-Ok-Some-clause-cause : goal.returns-in-Ok-Some-clause-cause
returns-in-Ok-Some-clause-cause c = answer-fits c.args.text.now c.in-Ok-Some.field-0 c.in-Ok-Some.answer (edits_left c.args.self.now) c.in-Ok-Some.field-0-is c.in-Ok-Some.ensures.given
