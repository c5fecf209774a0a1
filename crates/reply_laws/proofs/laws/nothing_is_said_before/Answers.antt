use Rattle.reply_laws.proofs.PlayingLemmas.{commits_first, edits_after, opens_after}
use Rattle.reply_laws.proofs.laws.nothing_is_said_before.Goals as goal

pub returns : goal.returns
returns c = record { first = commits_first; opens = opens_after; edits = edits_after }
