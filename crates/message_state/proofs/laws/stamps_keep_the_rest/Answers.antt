use Rattle.message_state.proofs.StampLawLemmas.{stamp-rest, stamp-keeps_flags, stamp-keeps_letters, stamp-others}
use Rattle.message_state.proofs.laws.stamps_keep_the_rest.Goals as goal

pub returns : goal.returns
returns c = record { the_rest = stamp-rest; flags = stamp-keeps_flags; letters = stamp-keeps_letters; others = stamp-others }
