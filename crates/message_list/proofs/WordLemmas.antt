-- The words of a list that are read so far.
use Rattle.std.proofs.Common.{◌≡◌, ℕ, ◌+◌, ◌<◌, true, false, List, [], ◌∷◌, ◌++◌, map, take, length, get_or, Some, is_none, sym, ap, ◌∙◌}
use Rattle.std.proofs.lemmas.List.{take_more, map-append}
use Rattle.message_list.specs.declared.list.Item.{Item}
use Rattle.message_list.specs.declared.list.ListError.{ListError}
use Rattle.message_list.specs.declared.list.ListError.TheVariants.{Syntax, NoSuch, NoneMatch, Memory}
use Rattle.message_list.specs.ListWords.{kind_of, IsBadList, IsBadWord}
use Rattle.message_list.proofs.ListFacts.{find_first}

-- a bad word after good ones
pub bad_list : (words : List (List ℕ)) (i : ℕ) (word : List ℕ) (e : ListError) → i < length words → word ≡ get_or words i word
    → ((k : ℕ) → k < i → is_none (kind_of (get_or words k word)) ≡ false) → is_none (kind_of word) ≡ true → IsBadWord word e → IsBadList words e
bad_list words i word (Syntax w) lt here before bad is =
    find_first (λ x. is_none (kind_of x)) words i word lt before (ap (λ (x : List ℕ). is_none (kind_of x)) (sym here) ∙ bad) ∙ ap Some (sym here ∙ sym is)
bad_list words i word (NoSuch w) lt here before bad is = is
bad_list words i word NoneMatch lt here before bad is = is
bad_list words i word Memory lt here before bad is = tt

-- one more item
pub words_more : (words : List (List ℕ)) (i : ℕ) (word : List ℕ) (items new : List Item) (item : Item) → i < length words → word ≡ get_or words i word
    → map (λ x. x.word) items ≡ take i words → new ≡ items ++ item ∷ [] → item.word ≡ word → map (λ x. x.word) new ≡ take (i + 1) words
words_more words i word items new item lt here so_far push same =
    ap (map (λ x. x.word)) push ∙ map-append (λ x. x.word) items (item ∷ []) ∙ ap (λ (ws : List (List ℕ)). ws ++ item.word ∷ []) so_far
    ∙ ap (λ (w : List ℕ). take i words ++ w ∷ []) (same ∙ here) ∙ sym (take_more words i word lt)
