use Rattle.std.proofs.Common.{◌≡◌, ℕ, ◌<◌, map, take, get_or, false, is_none, List}
use Rattle.message_list.specs.ListWords.{kind_of, HaveKinds}
use Rattle.message_list.proofs.read.read_list.Given as goal

-- the words so far are good, and the items are they
abbrev pub invariant-loop-word : goal.invariant-loop-word
invariant-loop-word l = record {
  in_order : map (λ item. item.word) l.items ≡ take l.word-index l.words;
  kinds : HaveKinds l.items;
  good : (k : ℕ) (d : List ℕ) → k < l.word-index → is_none (kind_of (get_or l.words k d)) ≡ false;
}
