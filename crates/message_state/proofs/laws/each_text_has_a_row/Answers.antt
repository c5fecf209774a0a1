use Rattle.message_state.proofs.RowLemmas.{some-row}
use Rattle.message_state.proofs.laws.each_text_has_a_row.Goals as goal

pub returns : goal.returns
returns c = some-row c.each_value_is_read.ensures
