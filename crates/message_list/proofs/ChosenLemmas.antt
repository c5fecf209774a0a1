-- The words of a list and what they select.
use Rattle.std.proofs.Common.{◌≡◌, ◌<◌, ℕ, List, [], ◌∷◌, length, map, refl, sym, ap, ◌∙◌, arith}
use Rattle.std.specs.Prelude.{false, Bool, if◌then◌else◌, is_none, option_to_list}
use Rattle.std.specs.List.{cons_option}
use Rattle.std.specs.Option.{option_map}
use Rattle.std.specs.declared.option.Option.TheVariants.{Some, None}
use Rattle.std.specs.declared.result.Result.TheVariants.{Ok, Err}
use Rattle.std.proofs.lemmas.List.Elements.{All-head, All-tail}
use Rattle.message_state.specs.declared.shown.Shown.{Shown}
use Rattle.message_list.specs.declared.list.Item.{Item}
use Rattle.message_list.specs.declared.list.ListError.{ListError}
use Rattle.message_list.specs.declared.list.ListError.TheVariants.{Syntax, NoSuch, NoneMatch, Memory}
use Rattle.message_list.specs.declared.list.Purpose.{Purpose}
use Rattle.message_list.specs.ListWords.{kind_of, first_bad, HaveKinds, AreItems, IsBadList}
use Rattle.message_list.specs.Selections.{selection, first_missing, IsUnmet}
use Rattle.message_list.specs.Choosing.{items_of, unless, some_message, chosen, IsChosen}

-- a word whose kind is known is no bad word, and is an item
find-on : (word : List ℕ) (words : List (List ℕ)) → is_none (kind_of word) ≡ false → first_bad (word ∷ words) ≡ first_bad words
find-on word words known = ap (λ (b : Bool). if b then Some word else first_bad words) known

item-on : (item : Item) (words : List (List ℕ)) → kind_of item.word ≡ Some item.kind → items_of (item.word ∷ words) ≡ item ∷ items_of words
item-on item words known = ap (λ k. cons_option (option_map (λ kind. record { word = item.word; kind = kind }) k) (items_of words)) known

items-are : (items : List Item) → HaveKinds items → items_of (map (λ item. item.word) items) ≡ items
items-are [] kinds = refl
items-are (item ∷ items) kinds =
    item-on item (map (λ item. item.word) items) (All-head (λ (item : Item). kind_of item.word ≡ Some item.kind) item items kinds)
    ∙ ap (λ (l : List Item). item ∷ l) (items-are items (All-tail (λ (item : Item). kind_of item.word ≡ Some item.kind) item items kinds))

none-bad : (items : List Item) → HaveKinds items → first_bad (map (λ item. item.word) items) ≡ None
none-bad [] kinds = refl
none-bad (item ∷ items) kinds =
    find-on item.word (map (λ item. item.word) items) (ap (λ k. is_none k) (All-head (λ (item : Item). kind_of item.word ≡ Some item.kind) item items kinds))
    ∙ none-bad items (All-tail (λ (item : Item). kind_of item.word ≡ Some item.kind) item items kinds)

items-of : (words : List (List ℕ)) (items : List Item) → AreItems words items → items_of words ≡ items
items-of words items are = ap items_of (sym are.in_order) ∙ items-are items are.kinds

no-bad : (words : List (List ℕ)) (items : List Item) → AreItems words items → first_bad words ≡ None
no-bad words items are = ap first_bad (sym are.in_order) ∙ none-bad items are.kinds

-- words that are no list
pub chosen-bad : (purpose : Purpose) (shown : Shown) (texts : List (List ℕ)) (words : List (List ℕ)) (e : ListError) → IsBadList words e → IsChosen (Err e) (chosen purpose shown texts words)
unfolding chosen
chosen-bad purpose shown texts words (Syntax word) is =
    ap (λ o. unless o Syntax (unless (first_missing shown texts purpose (items_of words)) NoSuch (some_message (selection shown texts purpose (items_of words))))) is
chosen-bad purpose shown texts words (NoSuch word) never = absurd never
chosen-bad purpose shown texts words NoneMatch never = absurd never
chosen-bad purpose shown texts words Memory is = tt

-- what a list that was read comes to
chosen-read : (purpose : Purpose) (shown : Shown) (texts : List (List ℕ)) (words : List (List ℕ)) (items : List Item) → AreItems words items
    → chosen purpose shown texts words ≡ unless (first_missing shown texts purpose items) NoSuch (some_message (selection shown texts purpose items))
unfolding chosen
chosen-read purpose shown texts words items are =
    ap (λ o. unless o Syntax (unless (first_missing shown texts purpose (items_of words)) NoSuch (some_message (selection shown texts purpose (items_of words))))) (no-bad words items are)
    ∙ ap (λ (l : List Item). unless (first_missing shown texts purpose l) NoSuch (some_message (selection shown texts purpose l))) (items-of words items are)

some-there : (ns : List ℕ) → 0 < length ns → some_message ns ≡ Ok ns
some-there [] some = absurd (omega arith)
some-there (n ∷ ns) some = refl

-- a list that selects messages
pub chosen-met : (purpose : Purpose) (shown : Shown) (texts : List (List ℕ)) (words : List (List ℕ)) (items : List Item) (ns : List ℕ)
    → AreItems words items → ns ≡ selection shown texts purpose items → first_missing shown texts purpose items ≡ None → 0 < length ns
    → chosen purpose shown texts words ≡ Ok ns
chosen-met purpose shown texts words items ns are is met some =
    chosen-read purpose shown texts words items are
    ∙ ap (λ o. unless o NoSuch (some_message (selection shown texts purpose items))) met
    ∙ ap some_message (sym is)
    ∙ some-there ns some

-- a list that selects none
pub chosen-unmet : (purpose : Purpose) (shown : Shown) (texts : List (List ℕ)) (words : List (List ℕ)) (items : List Item) (e : ListError)
    → AreItems words items → IsUnmet shown texts purpose items e → IsChosen (Err e) (chosen purpose shown texts words)
chosen-unmet purpose shown texts words items (Syntax word) are never = absurd never
chosen-unmet purpose shown texts words items (NoSuch word) are is =
    chosen-read purpose shown texts words items are ∙ ap (λ o. unless o NoSuch (some_message (selection shown texts purpose items))) is
chosen-unmet purpose shown texts words items NoneMatch are (empty, none) =
    chosen-read purpose shown texts words items are
    ∙ ap (λ (l : List Item). unless (first_missing shown texts purpose l) NoSuch (some_message (selection shown texts purpose l))) empty
    ∙ ap (λ o. some_message (option_to_list o)) none
chosen-unmet purpose shown texts words items Memory are is = tt
