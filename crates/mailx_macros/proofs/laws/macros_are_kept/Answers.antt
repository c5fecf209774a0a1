use Rattle.mailx_macros.proofs.LawLemmas.{body-is-found, undef-takes}
use Rattle.mailx_macros.proofs.laws.macros_are_kept.Goals as goal

pub returns : goal.returns
returns c = record { found = body-is-found; takes = undef-takes }
