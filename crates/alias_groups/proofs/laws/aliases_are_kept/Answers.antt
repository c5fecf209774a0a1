use Rattle.alias_groups.proofs.LawLemmas.{define-appends, remove-takes}
use Rattle.alias_groups.proofs.laws.aliases_are_kept.Goals as goal

pub returns : goal.returns
returns c = record { appends = define-appends; takes = remove-takes }
