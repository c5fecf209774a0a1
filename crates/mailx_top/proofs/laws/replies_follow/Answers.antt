use Rattle.play_safety.proofs.ReplyLemmas.{all-replies-follow}
use Rattle.mailx_top.proofs.laws.replies_follow.Goals as goal

pub returns : goal.returns
returns c = λ start env s d es safe. all-replies-follow safe.plays safe.rest safe.answered
