use Rattle.std.proofs.Common.{◌∙◌}
use Rattle.mail_delivery.proofs.StepLemmas.{any-changed}
use Rattle.mail_delivery.proofs.delivery.is_changed.Goals as goal

pub returns : goal.returns
returns c = c.some_has.ensures ∙ any-changed c.args.changes.now c.args.name.now
