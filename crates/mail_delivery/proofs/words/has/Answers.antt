use Rattle.std.proofs.Common.{◌∙◌}
use Rattle.mail_delivery.proofs.WordLemmas.{any-has}
use Rattle.mail_delivery.proofs.words.has.Goals as goal

pub returns : goal.returns
returns c = c.some_is.ensures ∙ any-has c.args.names.now c.args.name.now
