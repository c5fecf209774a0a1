use Rattle.filing_laws.proofs.OtherLemmas.{each_flag_alone}
use Rattle.filing_laws.proofs.laws.each_flag_stands_alone.Goals as goal

pub returns : goal.returns
returns c = each_flag_alone
