-- Which messages meet a criterion.
use Rattle.std.specs.Prelude.{ℕ, ◌+◌, Bool, true, false, not, ◌&&◌, ◌||◌, if◌then◌else◌, nat_lt, List, [], length, drop, Option, Some, None, ℤ, ◌+ℤ◌, int_lt, int_le}
use Rattle.std.specs.Ordering.{int_eq}
use Rattle.std.specs.List.{list_any}
use Rattle.std.specs.Option.{unwrap_or}
use Rattle.mail_text.specs.Ascii.{same_ascii}
use Rattle.mail_text.specs.Holding.{holds_ascii}
use Rattle.mail_headers.specs.Field.{unfolded}
use Rattle.mail_headers.specs.Header.{fields_of, body_of, from_line}
use Rattle.mail_dates.specs.Clock.{day_number}
use Rattle.mail_dates.specs.FromLines.{arrival_of}
use Rattle.mail_dates.specs.Messages.{after_from}
use Rattle.mail_dates.specs.declared.moment.Moment.{Moment}
use Rattle.mail_search.specs.declared.criterion.Fact.{Fact}
use Rattle.mail_search.specs.declared.criterion.Fact.TheVariants.{Seen, Deleted, Answered, Flagged, Draft}
use Rattle.mail_search.specs.declared.criterion.Facts.{Facts}
use Rattle.mail_search.specs.declared.criterion.Clock.{Clock}
use Rattle.mail_search.specs.declared.criterion.Clock.TheVariants.{Arrival, Message}
use Rattle.mail_search.specs.declared.criterion.Order.{Order}
use Rattle.mail_search.specs.declared.criterion.Order.TheVariants.{Before, On, Since}
use Rattle.mail_search.specs.declared.criterion.Test.{Test}
use Rattle.mail_search.specs.declared.criterion.Test.TheVariants.{All, Is, Field, Body, Text, Larger, Smaller, Day}
use Rattle.mail_search.specs.Keys.{Key, test, negation, either, both}

-- what is known of the message
abbrev pub fact_in : Facts → Fact → Bool
fact_in facts Seen = facts.seen
fact_in facts Deleted = facts.deleted
fact_in facts Answered = facts.answered
fact_in facts Flagged = facts.flagged
fact_in facts Draft = facts.draft

-- some field of this name, unfolded, holds the string
abbrev pub field_holds : List ℕ → List ℕ → List ℕ → Bool
field_holds name string text = list_any (λ f. same_ascii f.name name && holds_ascii string (unfolded f)) (fields_of text)

-- the body, empty if there is none
abbrev pub body_in : List ℕ → List ℕ
body_in text = unwrap_or (body_of text) []

-- the text after its first line
abbrev pub after_first_line : List ℕ → List ℕ
after_first_line text = drop (length (from_line text) + 1) text

-- the bytes of a message of this text, its last line feed with them
abbrev pub size_of : List ℕ → ℕ
size_of text = length text + 1

-- when the message came, by its From line, or the message's own moment, as it is known
abbrev pub moment_by : Clock → List ℕ → Facts → Option Moment
moment_by Arrival text facts = arrival_of (after_from text)
moment_by Message text facts = facts.moment

-- the day of a moment at the moment's own offset
abbrev pub day_at : Moment → ℤ
day_at m = day_number (m.seconds +ℤ m.offset)

-- a day is before another, the other, or not before it
abbrev pub is_in_order : Order → ℤ → ℤ → Bool
is_in_order Before day limit = int_lt day limit
is_in_order On day limit = int_eq day limit
is_in_order Since day limit = int_le limit day

-- the day of a moment is in this order to another; without a moment it is in none
abbrev pub day_passes : Order → ℤ → Option Moment → Bool
day_passes order limit None = false
day_passes order limit (Some m) = is_in_order order (day_at m) limit

-- a message of this text and these facts passes the test
abbrev pub passes : List ℕ → Facts → Test → Bool
passes text facts All = true
passes text facts (Is fact wanted) = if wanted then fact_in facts fact else not (fact_in facts fact)
passes text facts (Field name string) = field_holds name string text
passes text facts (Body string) = holds_ascii string (body_in text)
passes text facts (Text string) = holds_ascii string (after_first_line text)
passes text facts (Larger limit) = nat_lt limit (size_of text)
passes text facts (Smaller limit) = nat_lt (size_of text) limit
passes text facts (Day clock order limit) = day_passes order limit (moment_by clock text facts)

-- the key holds of a message of this text and these facts
unfoldable pub key_holds : List ℕ → Facts → Key → Bool
key_holds text facts (test t) = passes text facts t
key_holds text facts (negation k) = not (key_holds text facts k)
key_holds text facts (either a b) = key_holds text facts a || key_holds text facts b
key_holds text facts (both a b) = key_holds text facts a && key_holds text facts b
