use Rattle.command_desk.specs.declared.steps.Steps.{Steps}
use Rattle.command_desk.proofs.DeskLemmas.{if-ok}
use Rattle.command_desk.proofs.EffectLemmas.{desk-after}
use Rattle.read_commands.proofs.origin.perform_defined.Goals as goal

pub returns-clause-desk : goal.returns-clause-desk
returns-clause-desk c = if-ok c.definition_line.result (λ (steps : Steps) within. desk-after c.args.desk.now steps.effects c.requires within) c.definition_line.ensures.within
