use Rattle.alias_groups.proofs.LawLemmas.{each-once}
use Rattle.alias_groups.proofs.laws.each_name_once.Goals as goal

pub returns : goal.returns
returns c = each-once
