use Rattle.message_state.proofs.CommentLemmas.{comment-is-space, open-stays}
use Rattle.message_state.proofs.laws.comments_are_the_same.Goals as goal

pub returns : goal.returns
returns c = record { closed = comment-is-space; unclosed = open-stays }
