use Rattle.play_safety.proofs.ReplyLemmas.{plays_reply_after}
use Rattle.play_safety.proofs.laws.replies_follow.Goals as goal

pub returns : goal.returns
returns c = plays_reply_after
