use Rattle.message_state.proofs.ProperLemmas.{stamped-proper}
use Rattle.message_state.proofs.laws.stamps_keep_texts_proper.Goals as goal

pub returns : goal.returns
returns c = stamped-proper
