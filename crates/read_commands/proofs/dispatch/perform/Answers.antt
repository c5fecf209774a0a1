use Rattle.command_desk.specs.declared.steps.Steps.{Steps}
use Rattle.command_desk.proofs.DeskLemmas.{if-ok}
use Rattle.command_desk.proofs.EffectLemmas.{desk-after}
use Rattle.read_commands.proofs.dispatch.perform.Goals as goal

pub returns-else-has_words_too_many-clause-desk : goal.returns-else-has_words_too_many-clause-desk
returns-else-has_words_too_many-clause-desk c = if-ok c.dispatch.result (λ (steps : Steps) within. desk-after c.args.desk.now steps.effects c.requires within) c.dispatch.ensures.within
