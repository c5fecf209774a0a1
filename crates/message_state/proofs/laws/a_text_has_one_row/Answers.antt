use Rattle.message_state.proofs.RowLemmas.{one-row}
use Rattle.message_state.proofs.laws.a_text_has_one_row.Goals as goal

pub returns : goal.returns
returns c = one-row (record { list = c.one_reading.ensures.list; either = c.one_reading.ensures.either })
