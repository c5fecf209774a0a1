use Rattle.thread_view.proofs.RunLemmas.{follows, together}
use Rattle.thread_view.proofs.laws.threads_stand_together.Goals as goal

pub returns : goal.returns
returns c = record {
  follow = λ rows order depth view i j low high from. follows view.path order view.ascend i j low high from;
  together = λ rows order depth view i k j low up high from. together view.path order view.ascend i k j low up high from;
}
