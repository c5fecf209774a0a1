-- Which messages a word of a list names.
-- A range whose end is no message of the view, or is turned, names nothing. `.`, `+` and `-` start from the current message even if that is deleted.
-- A word without `@` is compared with the whole bare address too.
use Rattle.std.specs.Prelude.{ℕ, ◌-◌, Bool, true, false, not, ◌&&◌, ◌||◌, ◌==◌, nat_le, List, [], drop, slice_get, Option, Some, None, unwrap_or}
use Rattle.std.specs.Option.{option_and_then}
use Rattle.std.specs.List.{list_any}
use Rattle.mail_text.specs.Ascii.{same_ascii}
use Rattle.mail_text.specs.Holding.{holds_ascii}
use Rattle.mail_search.specs.declared.criterion.Facts.{Facts}
use Rattle.message_state.specs.declared.row.Row.{Row}
use Rattle.mail_search.specs.Meaning.{key_holds}
use Rattle.message_state.specs.declared.mark.Flags.{Flags}
use Rattle.message_state.specs.declared.mark.Mark.{Mark}
use Rattle.message_state.specs.declared.mark.State.{State}
use Rattle.message_state.specs.declared.mark.State.TheVariants.{New, Unread, Read, Deleted}
use Rattle.message_state.specs.declared.shown.Shown.{Shown}
use Rattle.message_state.specs.LiveRows.{is_live}
use Rattle.message_state.specs.States.{place}
use Rattle.message_list.specs.declared.list.End.{End}
use Rattle.message_list.specs.declared.list.End.TheVariants as at
use Rattle.message_list.specs.declared.list.Kind.{Kind}
use Rattle.message_list.specs.declared.list.Kind.TheVariants.{Number, Range, Next, Previous, Current, First, Last, All, Address, Subject, Letter, Search}
use Rattle.message_list.specs.declared.list.Item.{Item}
use Rattle.message_list.specs.declared.list.Purpose.{Purpose}
use Rattle.message_list.specs.LocalParts.{local_part}
use Rattle.message_list.specs.Places.{row_passes, place_of, first_of, last_of, next_of, previous_of}

-- the message is this one
abbrev pub is_message : Option ℕ → ℕ → Bool
is_message None n = false
is_message (Some k) n = n == k

-- the message at an end of a range
abbrev pub end_message : Shown → Purpose → End → Option ℕ
end_message shown purpose (at.Number k) = Some k
end_message shown purpose at.Current = Some shown.current
end_message shown purpose at.First = first_of shown purpose
end_message shown purpose at.Last = last_of shown purpose

-- the place of an end of a range in the view; none if it is no message of the view
abbrev pub end_place : Shown → Purpose → End → Option ℕ
end_place shown purpose end = option_and_then (place_of shown) (end_message shown purpose end)

-- the place lies from the first end to the second
abbrev pub is_between : Option ℕ → Option ℕ → Option ℕ → Bool
is_between (Some a) (Some b) (Some p) = nat_le a p && nat_le p b
is_between a b p = false

-- the author is the word, or, if the word has no `@`, the author's local part is; the case of ASCII letters aside
abbrev pub is_author : List ℕ → List ℕ → Bool
is_author word author = same_ascii author word || (not (list_any (λ b. b == 64) word) && same_ascii (local_part author) word)

-- d is deleted, n new, o neither read nor new, r read, u unread
abbrev pub has_state_letter : ℕ → State → Bool
has_state_letter letter state =
    (letter == 100 && place state == place Deleted)
    || (letter == 110 && place state == place New)
    || (letter == 111 && not (place state == place Read) && not (place state == place New))
    || (letter == 114 && place state == place Read)
    || (letter == 117 && place state == place Unread)

-- a is answered, f flagged, t a draft
abbrev pub has_flag_letter : ℕ → Flags → Bool
has_flag_letter letter flags = (letter == 97 && flags.answered) || (letter == 102 && flags.flagged) || (letter == 116 && flags.draft)

-- the letter is one of the state or of a flag
abbrev pub has_letter : ℕ → Mark → Bool
has_letter letter mark = has_state_letter letter mark.state || has_flag_letter letter mark.flags

-- what a criterion asks of a row
abbrev pub facts_of : Row → Facts
facts_of row = record {
  seen = row.mark.seen;
  deleted = not (is_live row.mark);
  answered = row.mark.flags.answered;
  flagged = row.mark.flags.flagged;
  draft = row.mark.flags.draft;
  moment = row.moment;
}

-- the text of message n of these texts, numbered from 1
abbrev pub text_at : List (List ℕ) → ℕ → List ℕ
text_at texts n = unwrap_or (slice_get texts (n - 1)) []

-- a word of this kind names message n
abbrev pub kind_names : Kind → List ℕ → Shown → List (List ℕ) → Purpose → ℕ → Bool
kind_names (Number k) word shown texts purpose n = n == k
kind_names (Range a b) word shown texts purpose n = is_between (end_place shown purpose a) (end_place shown purpose b) (place_of shown n)
kind_names Next word shown texts purpose n = is_message (next_of shown purpose shown.current) n
kind_names Previous word shown texts purpose n = is_message (previous_of shown purpose shown.current) n
kind_names Current word shown texts purpose n = n == shown.current
kind_names First word shown texts purpose n = is_message (first_of shown purpose) n
kind_names Last word shown texts purpose n = is_message (last_of shown purpose) n
kind_names All word shown texts purpose n = true
kind_names Address word shown texts purpose n = row_passes (λ row. is_author word row.texts.author) shown n
kind_names Subject word shown texts purpose n = row_passes (λ row. holds_ascii (drop 1 word) row.texts.subject) shown n
kind_names (Letter letter) word shown texts purpose n = row_passes (λ row. has_letter letter row.mark) shown n
kind_names (Search key) word shown texts purpose n = row_passes (λ row. key_holds (text_at texts n) (facts_of row) key) shown n

-- the item's word names message n
abbrev pub names : Shown → List (List ℕ) → Purpose → Item → ℕ → Bool
names shown texts purpose item n = kind_names item.kind item.word shown texts purpose n
