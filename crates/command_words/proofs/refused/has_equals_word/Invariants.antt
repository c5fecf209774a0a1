use Rattle.std.proofs.Common.{◌≡◌, drop, map, ℕ, List}
use Rattle.std.specs.Borrow.{Bor}
use Rattle.command_words.specs.Words.{has_equals}
use Rattle.command_words.proofs.refused.has_equals_word.Given as goal

abbrev pub invariant-loop-word : goal.invariant-loop-word
invariant-loop-word l = has_equals (map (λ (s : Bor (List ℕ)). s.now) (drop l.word-index l.words)) ≡ has_equals (map (λ (s : Bor (List ℕ)). s.now) l.words)
