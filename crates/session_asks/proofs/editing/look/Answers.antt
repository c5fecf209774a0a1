use Rattle.command_desk.proofs.EffectLemmas.{desk-after}
use Rattle.session_asks.proofs.editing.look.Goals as goal

pub apply-requires-clause-after : goal.apply-requires-clause-after
apply-requires-clause-after c = desk-after c.args.desk.now c.in_ok-effects.effects c.requires.desk c.in_ok-effects.ensures.within

pub returns-in-Ok-clause-ok : goal.returns-in-Ok-clause-ok
returns-in-Ok-clause-ok c = rw c.in_ok-effects.ensures.effects at c.in-Ok.ensures.ok

pub returns-in-Ok-clause-valid : goal.returns-in-Ok-clause-valid
returns-in-Ok-clause-valid c = rw c.in-Ok.ensures.ok (desk-after c.args.desk.now c.in_ok-effects.effects c.requires.desk c.in_ok-effects.ensures.within)
