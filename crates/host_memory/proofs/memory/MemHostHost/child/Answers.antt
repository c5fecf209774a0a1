use Rattle.host_memory.specs.MemHosts.{answers_left}
use Rattle.host_memory.proofs.ChildLemmas.{answer-fits}
use Rattle.host_memory.proofs.memory.MemHostHost.child.Goals as goal

pub returns-in-Ok-Some-clause-cause : goal.returns-in-Ok-Some-clause-cause
returns-in-Ok-Some-clause-cause c = answer-fits c.in-Ok-Some.field-0 c.in-Ok-Some.answer (answers_left c.args.self.now) c.in-Ok-Some.field-0-is c.in-Ok-Some.ensures.given
