use Rattle.actor_core.proofs.StepLemmas.{kept_member}
use Rattle.actor_core.proofs.taking.put_doing.Goals as goal

pub returns-clause-err : goal.returns-clause-err
returns-clause-err c = kept_member c.args.members.now c.args.at c.get_mut-member.result.now c.put_next.new.doing c.put_next.result c.get_mut-member.ensures.value c.put_next.ensures.err
