use Rattle.mailx_vars.proofs.PairLemmas.{no_settings}
use Rattle.mailx_vars.proofs.settings.none.Goals as goal

pub returns-clause-settings : goal.returns-clause-settings
returns-clause-settings c = no_settings c.in_ok-with_capacity.field-0.items c.in_ok-with_capacity.ensures.items
