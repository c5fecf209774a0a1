-- How the walk over a view finds what a word names: by the places where a message can stand, and by its row.
use Rattle.std.specs.Prelude.{◌≡◌, ℕ, ◌-◌, ◌<◌, ◌≤◌, Bool, true, false, ◌&&◌, ◌||◌, nat_le, nat_lt, List, [], length, drop, slice_index, slice_index_or}
use Rattle.mail_text.specs.Holding.{holds_ascii}
use Rattle.mail_search.specs.Meaning.{key_holds}
use Rattle.message_state.specs.declared.row.Row.{Row}
use Rattle.message_state.specs.declared.shown.Shown.{Shown}
use Rattle.message_list.specs.declared.list.Kind.{Kind}
use Rattle.message_list.specs.declared.list.Kind.TheVariants.{Address, Subject, Letter, Search}
use Rattle.message_list.specs.declared.list.Item.{Item}
use Rattle.message_list.specs.declared.list.Purpose.{Purpose}
use Rattle.message_list.specs.declared.span.Span.{Span}
use Rattle.message_list.specs.declared.span.Landmarks.{Landmarks}
use Rattle.message_list.specs.Places.{row_passes, is_for, in_base, first_of, last_of, next_of, previous_of}
use Rattle.message_list.specs.Naming.{is_author, has_letter, facts_of, text_at, kind_names, names}
use Rattle.message_list.specs.Selections.{is_named}

-- what a word of this kind asks of a text and its row
abbrev pub kind_fits : Kind → List ℕ → List ℕ → Row → Bool
kind_fits Address word text row = is_author word row.texts.author
kind_fits Subject word text row = holds_ascii (drop 1 word) row.texts.subject
kind_fits (Letter letter) word text row = has_letter letter row.mark
kind_fits (Search key) word text row = key_holds text (facts_of row) key
kind_fits kind word text row = true

-- a word of this kind names message n as far as neither its row nor its text is asked
abbrev pub kind_reaches : Shown → Purpose → Kind → ℕ → Bool
kind_reaches shown purpose Address n = true
kind_reaches shown purpose Subject n = true
kind_reaches shown purpose (Letter letter) n = true
kind_reaches shown purpose (Search key) n = true
kind_reaches shown purpose kind n = kind_names kind [] shown [] purpose n

-- message n is in the base set, and its row and its text are what the word asks
abbrev pub kind_hit : Shown → List (List ℕ) → Purpose → Kind → List ℕ → ℕ → Bool
kind_hit shown texts purpose kind word n = row_passes (λ row. is_for purpose row.mark && kind_fits kind word (text_at texts n) row) shown n

abbrev pub is_hit : Shown → List (List ℕ) → Purpose → Item → ℕ → Bool
is_hit shown texts purpose item n = kind_hit shown texts purpose item.kind item.word n

-- the item's word names message n of the base set
abbrev pub selects : Shown → List (List ℕ) → Purpose → Item → ℕ → Bool
selects shown texts purpose item n = names shown texts purpose item n && in_base shown purpose n

-- one of the words names message n of the base set
abbrev pub is_selected : Shown → List (List ℕ) → Purpose → List Item → ℕ → Bool
is_selected shown texts purpose items n = is_named shown texts purpose items n && in_base shown purpose n

-- the place is in the span
abbrev pub is_within : Span → ℕ → Bool
is_within span p = nat_le span.from p && nat_lt p span.to

-- the place of message n is that at n - 1
pub record ArePlaces (shown : Shown) (places : List ℕ) : Type 0 where
  pub long : length places ≡ length shown.order
  pub at : (p : ℕ) → p < length shown.order → slice_index places (slice_index shown.order p - 1) ≡ p

-- the messages that words name by their place
pub record AreLandmarks (shown : Shown) (marks : Landmarks) : Type 0 where
  pub first : marks.first ≡ first_of shown marks.purpose
  pub last : marks.last ≡ last_of shown marks.purpose
  pub next : marks.next ≡ next_of shown marks.purpose shown.current
  pub previous : marks.previous ≡ previous_of shown marks.purpose shown.current
  pub places : ArePlaces shown marks.places.items

-- at the places of the view the test holds just in the span
pub record IsSpanOf (shown : Shown) (test : ℕ → Bool) (span : Span) : Type 0 where
  pub ordered : span.from ≤ span.to
  pub within : span.to ≤ length shown.order
  pub places : (p : ℕ) → p < length shown.order → test (slice_index shown.order p) ≡ is_within span p

-- the place of each message that the item selects has a mark now, beside those that had one
pub record AddsMarks (shown : Shown) (texts : List (List ℕ)) (purpose : Purpose) (item : Item) (old new : List Bool) : Type 0 where
  pub long : length new ≡ length old
  pub marks : (p : ℕ) → p < length shown.order
      → slice_index_or new p false ≡ (slice_index_or old p false || selects shown texts purpose item (slice_index shown.order p))

-- the places of the messages that pass the test have marks
abbrev pub AreMarks : List ℕ → (ℕ → Bool) → List Bool → Type 0
AreMarks order test marks = (p : ℕ) → p < length order → slice_index_or marks p false ≡ test (slice_index order p)
