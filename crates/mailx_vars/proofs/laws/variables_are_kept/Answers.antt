use Rattle.mailx_vars.proofs.SettingLemmas.{set-again, set-gives, set-order, unset-takes}
use Rattle.mailx_vars.proofs.laws.variables_are_kept.Goals as goal

pub returns : goal.returns
returns c = record { gives = set-gives; takes = unset-takes; order = set-order; last = set-again }
