-- The places of a mailbox's texts.
use Rattle.std.specs.Prelude.{◌≡◌, ℕ, ◌+◌, ◌≤◌, IsTrue, List, ◌++◌, length, map, drop, slice_range, All}
use Rattle.mbox_scan.specs.declared.span.Span.{Span}
use Rattle.mbox_scan.specs.Mailbox.{is_mailbox, texts_of, message_limit}

abbrev pub text_at : List ℕ → Span → List ℕ
text_at b s = slice_range b s.start (s.start + s.len)

-- the span ends within the bytes
abbrev pub IsWithin : List ℕ → Span → Type 0
IsWithin b s = s.start + s.len ≤ length b

-- the spans of all texts of a mailbox, which are few enough
pub record IsScanned (b : List ℕ) (spans : List Span) : Type 0 where
  pub mailbox : IsTrue (is_mailbox b)
  pub texts : map (text_at b) spans ≡ texts_of b
  pub within : All (IsWithin b) spans
  pub few : length spans ≤ message_limit

-- the spans of the texts before a place of a mailbox: the others are those of the mailbox that follows there
pub record IsScannedTo (b : List ℕ) (spans : List Span) (start : ℕ) : Type 0 where
  pub start_within : start ≤ length b
  pub mailbox : IsTrue (is_mailbox (drop start b))
  pub so_far : map (text_at b) spans ++ texts_of (drop start b) ≡ texts_of b
  pub within : All (IsWithin b) spans
  pub few : length spans ≤ message_limit

-- at this place of the tail a mailbox starts, whose texts are all that the tail adds
pub record IsAddedFrom (b tail : List ℕ) (start : ℕ) : Type 0 where
  pub start_within : start ≤ length tail
  pub whole : IsTrue (is_mailbox (b ++ tail))
  pub mailbox : IsTrue (is_mailbox (drop start tail))
  pub texts : texts_of (b ++ tail) ≡ texts_of b ++ texts_of (drop start tail)
