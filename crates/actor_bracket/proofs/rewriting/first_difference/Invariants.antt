use Rattle.folder_change.proofs.DifferenceLemmas.{IsWalked}
use Rattle.actor_bracket.proofs.rewriting.first_difference.Given as goal

abbrev pub invariant-loop-k : goal.invariant-loop-k
invariant-loop-k l = IsWalked l.base l.initial.texts l.texts l.k
