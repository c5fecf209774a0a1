-- The texts of a mailbox: a message starts at `From ` at the first byte or after two line feeds.
use Rattle.std.specs.Prelude.{◌≡◌, ℕ, ◌-◌, Bool, true, ◌||◌, ◌&&◌, ◌==◌, nat_eq, false, List, [], ◌∷◌, ◌++◌, Option, Some, None, length, take, drop, slice_range, filter, if◌then◌else◌}
use Rattle.std.specs.List.{starts_with, ends_with, range_with_len, suffix_len, flat_map}
use Rattle.std.specs.Str.{bytes_eq}

-- the most messages of a folder
abbrev pub message_limit : ℕ
message_limit = 1000000

-- the bytes of `From `
abbrev pub from_mark : List ℕ
from_mark = 70 ∷ 114 ∷ 111 ∷ 109 ∷ 32 ∷ []

-- two line feeds
abbrev pub two_feeds : List ℕ
two_feeds = 10 ∷ 10 ∷ []

-- what stands between two messages, and the mark of the second
abbrev pub break_mark : List ℕ
break_mark = two_feeds ++ from_mark

-- `From ` stands at p, and p is 0 or the bytes before p end with two line feeds
unfoldable pub is_start : List ℕ → ℕ → Bool
is_start b p = starts_with nat_eq (drop p b) from_mark && (p == 0 || ends_with nat_eq (take p b) two_feeds)

-- the places where a message starts, in order
unfoldable pub starts : List ℕ → List ℕ
starts b = filter (is_start b) (range_with_len 0 (length b))

-- the byte is a line feed
abbrev pub is_feed : ℕ → Bool
is_feed x = x == 10

-- the bytes without their trailing line feeds
unfoldable pub trimmed : List ℕ → List ℕ
trimmed b = take (length b - suffix_len is_feed b) b

-- the pieces of b from each of these places to the next or to the end, each without its trailing line feeds
unfoldable pub pieces : List ℕ → List ℕ → List (List ℕ)
pieces b [] = []
pieces b (p ∷ []) = trimmed (drop p b) ∷ []
pieces b (p ∷ q ∷ later) = trimmed (slice_range b p q) ∷ pieces b (q ∷ later)

-- the pieces of b from its starts
unfoldable pub texts_of : List ℕ → List (List ℕ)
texts_of b = pieces b (starts b)

-- the bytes are a mailbox: there are none, or a message starts at their first byte
unfoldable pub is_mailbox : List ℕ → Bool
is_mailbox b = length b == 0 || is_start b 0

-- the texts of a mailbox, in order; other bytes have no list
unfoldable pub list_of : List ℕ → Option (List (List ℕ))
list_of b = if is_mailbox b then Some (texts_of b) else None

-- a list of one text, which is this one
abbrev pub is_alone : List ℕ → Option (List (List ℕ)) → Bool
is_alone t (Some (x ∷ [])) = bytes_eq x t
is_alone t texts = false

-- the bytes are one message, and nothing else
abbrev pub is_message : List ℕ → Bool
is_message t = is_alone t (list_of t)

-- bytes that come after those of a mailbox only add messages: the joined bytes have a list, which begins with the mailbox's
abbrev pub Adds : List ℕ → List ℕ → Type 0
Adds b tail = (came : List (List ℕ)) × (list_of (b ++ tail) ≡ Some (texts_of b ++ came))

-- the texts of the first bytes are the first texts of the others, which have n more
abbrev pub HasMore : List ℕ → List ℕ → ℕ → Type 0
HasMore b grown n = (came : List (List ℕ)) × (texts_of grown ≡ texts_of b ++ came) × (length came ≡ n)

-- a text as it is written: two line feeds follow it
abbrev pub written : List ℕ → List ℕ
written t = t ++ two_feeds

-- the bytes of a mailbox with these texts
unfoldable pub join : List (List ℕ) → List ℕ
join l = flat_map written l

-- a text that can be written and read back: it begins with `From `, ends in no line feed, and its
-- first byte is its only start
pub record IsProper (t : List ℕ) : Type 0 where
  pub begins : starts_with nat_eq t from_mark ≡ true
  pub ends : trimmed t ≡ t
  pub one_start : starts t ≡ 0 ∷ []
