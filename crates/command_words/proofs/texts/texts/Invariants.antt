use Rattle.std.proofs.Common.{◌≡◌, take, map, length, true, ℕ, List, vec_len, vec_capacity}
use Rattle.std.specs.Borrow.{Bor}
use Rattle.std.specs.List.{list_all}
use Rattle.std.specs.Str.{is_utf8}
use Rattle.command_words.proofs.texts.texts.Given as goal

abbrev pub invariant-loop-word : goal.invariant-loop-word
invariant-loop-word l =
    (map (λ (s : Bor (List ℕ)). s.now) l.texts.items ≡ take l.word-index l.words)
    × (list_all is_utf8 (take l.word-index l.words) ≡ true)
    × (vec_len l.texts ≡ l.word-index)
    × (vec_capacity l.texts ≡ length l.words)
