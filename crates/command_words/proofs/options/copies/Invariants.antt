use Rattle.std.proofs.Common.{◌≡◌, take, map, ℕ, List}
use Rattle.std.specs.Borrow.{Bor}
use Rattle.command_words.proofs.options.copies.Given as goal

abbrev pub invariant-loop-text : goal.invariant-loop-text
invariant-loop-text l = l.copies ≡ map (λ (s : Bor (List ℕ)). s.now) (take l.text-index l.texts)
