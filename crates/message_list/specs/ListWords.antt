-- The words of a message list.
use Rattle.std.specs.Prelude.{◌≡◌, ℕ, Bool, ◌==◌, List, [], ◌∷◌, length, map, All, codes, Option, Some, None, is_none, unwrap_or, if◌then◌else◌}
use Rattle.std.specs.Option.{option_or, option_map}
use Rattle.std.specs.List.{list_any, find, before_first, after_first}
use Rattle.mail_text.specs.Number.{is_numeral, number_of}
use Rattle.mail_search.specs.Criteria.{criterion_of}
use Rattle.message_list.specs.declared.list.End.{End}
use Rattle.message_list.specs.declared.list.End.TheVariants as at
use Rattle.message_list.specs.declared.list.Kind.{Kind}
use Rattle.message_list.specs.declared.list.Kind.TheVariants as is
use Rattle.message_list.specs.declared.list.Item.{Item}
use Rattle.message_list.specs.declared.list.ListError.{ListError}
use Rattle.message_list.specs.declared.list.ListError.TheVariants.{Syntax, NoSuch, NoneMatch, Memory}

-- the number in decimal digits; one past 64 bits is no message's, and the last of 64 bits stands for it
abbrev pub number_in : List ℕ → ℕ
number_in digits = unwrap_or (number_of digits) 18_446_744_073_709_551_615

-- `.` `^` `$` as an end of a range
abbrev pub end_mark : List ℕ → Option End
end_mark (b ∷ []) = if b == 46 then Some at.Current else (if b == 94 then Some at.First else (if b == 36 then Some at.Last else None))
end_mark text = None

-- an end of a range: digits, or one of these marks
abbrev pub end_of : List ℕ → Option End
end_of text = if is_numeral text then Some (at.Number (number_in text)) else end_mark text

-- two ends
abbrev pub ends : Option End → Option End → Option Kind
ends (Some a) (Some b) = Some (is.Range a b)
ends a b = None

abbrev pub is_dash : ℕ → Bool
is_dash b = b == 45

-- a range: an end, `-` and an end
abbrev pub range_of : List ℕ → Option Kind
range_of word = ends (end_of (before_first is_dash word)) (end_of (after_first is_dash word))

-- `+` `-` `.` `^` `$` `*`
abbrev pub mark_of : List ℕ → Option Kind
mark_of (b ∷ []) =
    if b == 43 then Some is.Next
    else (if b == 45 then Some is.Previous
    else (if b == 46 then Some is.Current
    else (if b == 94 then Some is.First
    else (if b == 36 then Some is.Last
    else (if b == 42 then Some is.All else None)))))
mark_of word = None

-- digits, a mark, a range, and any other word is an address
abbrev pub plain_kind : List ℕ → Kind
plain_kind word = if is_numeral word then is.Number (number_in word) else unwrap_or (option_or (mark_of word) (range_of word)) is.Address

-- the letter after a `:`, one of eight and alone
abbrev pub letter_of : List ℕ → Option Kind
letter_of (letter ∷ []) = if list_any (λ b. b == letter) (codes "adfnortu") then Some (is.Letter letter) else None
letter_of text = None

-- a word that begins with `(` is a search criterion, or bad
abbrev pub search_kind : List ℕ → Option Kind
search_kind word = option_map is.Search (criterion_of word)

-- the kind of another word, and none of a bad one: the empty word, `/` alone, `:` without one of the eight letters
abbrev pub word_kind : List ℕ → Option Kind
word_kind [] = None
word_kind (b ∷ rest) =
    if b == 47 then (if length rest == 0 then None else Some is.Subject)
    else (if b == 58 then letter_of rest
    else Some (plain_kind (b ∷ rest)))

-- the kind of a word, if it isn't bad
abbrev pub kind_of : List ℕ → Option Kind
kind_of [] = None
kind_of (b ∷ rest) = if b == 40 then search_kind (b ∷ rest) else word_kind (b ∷ rest)

-- the first bad word
abbrev pub first_bad : List (List ℕ) → Option (List ℕ)
first_bad words = find (λ word. is_none (kind_of word)) words

-- each item has the kind of its word
abbrev pub HaveKinds : List Item → Type 0
HaveKinds items = All (λ item. kind_of item.word ≡ Some item.kind) items

-- the items are the words in order, each with its kind
pub record AreItems (words : List (List ℕ)) (items : List Item) : Type 0 where
  pub in_order : map (λ item. item.word) items ≡ words
  pub kinds : HaveKinds items

-- why words give no list: the first bad one, or that memory ran out
abbrev pub IsBadList : List (List ℕ) → ListError → Type 0
IsBadList words (Syntax word) = first_bad words ≡ Some word
IsBadList words (NoSuch word) = ⊥
IsBadList words NoneMatch = ⊥
IsBadList words Memory = Unit {0}

-- the refusal of a bad word, or that memory ran out
abbrev pub IsBadWord : List ℕ → ListError → Type 0
IsBadWord bad (Syntax word) = word ≡ bad
IsBadWord bad (NoSuch word) = ⊥
IsBadWord bad NoneMatch = ⊥
IsBadWord bad Memory = Unit {0}
