use Rattle.alias_groups.proofs.StepLemmas.{step_closed}
use Rattle.alias_groups.proofs.walk.Walk.step.Goals as goal

pub returns-in_ok-close-in-None-clause-next : goal.returns-in_ok-close-in-None-clause-next
returns-in_ok-close-in-None-clause-next c =
    step_closed c.args.aliases.now c.args.dropped.now c.args.self.now c.close.new.self c.args.left.now c.in_ok-close-in-None.field-0 c.requires c.in-None.ensures.cases c.in_ok-close-in-None.ensures
