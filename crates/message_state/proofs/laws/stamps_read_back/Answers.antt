use Rattle.message_state.proofs.StampLawLemmas.{stamp-reads, stamp-flags, stamp-marks, stamp-once, stamp-left}
use Rattle.message_state.proofs.laws.stamps_read_back.Goals as goal

pub returns : goal.returns
returns c = record { reads = stamp-reads; flags = stamp-flags; marks = stamp-marks; once = stamp-once; left = stamp-left }
