use Rattle.std.proofs.Common.{◌∙◌}
use Rattle.commit_machine.proofs.records.Names.{by_front, other_front}
use Rattle.commit_machine.proofs.names.is_record_name.Goals as goal

pub returns-in-Some : goal.returns-in-Some
returns-in-Some c = c.is_record_end.ensures ∙ by_front c.args.actor.now c.args.name.now c.in-Some.end.now c.in-Some.ensures.cases.0 c.in-Some.ensures.cases.1

pub returns-in-None : goal.returns-in-None
returns-in-None c = other_front c.args.actor.now c.args.name.now c.in-None.ensures.cases
