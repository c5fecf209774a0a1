use Rattle.quit_rules.proofs.QuitLawLemmas.{unchanged-left}
use Rattle.quit_rules.proofs.laws.what_is_unchanged_stays.Goals as goal

pub returns : goal.returns
returns c = unchanged-left
