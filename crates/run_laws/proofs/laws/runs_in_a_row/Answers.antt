use Rattle.run_laws.proofs.RowLemmas.{rows_add_up, another_may_begin, ended_is_accepted}
use Rattle.run_laws.proofs.WhichLemmas.{says_which}
use Rattle.run_laws.proofs.laws.runs_in_a_row.Goals as goal

pub returns : goal.returns
returns c = record { add_up = rows_add_up; another = another_may_begin; accepted = ended_is_accepted; which = says_which }
