use Rattle.message_laws.proofs.RowLemmas.{rows_keep_messages}
use Rattle.message_laws.proofs.laws.rows_keep_messages.Goals as goal

pub returns : goal.returns
returns c = rows_keep_messages
