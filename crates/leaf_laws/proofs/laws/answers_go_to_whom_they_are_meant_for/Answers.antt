use Rattle.leaf_laws.proofs.AnswerLemmas.{nobody-else, others-stay}
use Rattle.leaf_laws.proofs.laws.answers_go_to_whom_they_are_meant_for.Goals as goal

pub returns : goal.returns
returns c = record { stay = others-stay; only = nobody-else }
