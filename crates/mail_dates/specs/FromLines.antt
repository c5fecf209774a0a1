-- The line after `From `, which begins a message of a mailbox: who sent it, and when it came.
use Rattle.std.specs.Prelude.{ℕ, Bool, true, false, ◌||◌, ◌&&◌, ◌==◌, if◌then◌else◌, List, [], ◌∷◌, filter, codes, Option, None, Some, is_some, ℤ, pos}
use Rattle.std.specs.Char.{is_ascii_alphabetic}
use Rattle.std.specs.List.{list_all, slice_split}
use Rattle.mail_dates.specs.declared.moment.Moment.{Moment}
use Rattle.mail_dates.specs.Values.{◌>>=◌, digits, day_value, month_value, is_day_name, date_value, time_value, moment_value}
use Rattle.mail_text.specs.Ascii.{is_blank}

abbrev pub is_not_empty : List ℕ → Bool
is_not_empty [] = false
is_not_empty (b ∷ bs) = true

-- the words of a line, with blanks between them
unfoldable pub words_of : List ℕ → List (List ℕ)
words_of line = filter is_not_empty (slice_split is_blank line)

-- `hh:mm` or `hh:mm:ss`, by the parts between the colons
abbrev pub clock_of : List (List ℕ) → Option ℕ
clock_of (hour ∷ minute ∷ []) = time_value hour minute (codes "00")
clock_of (hour ∷ minute ∷ second ∷ []) = time_value hour minute second
clock_of parts = None

unfoldable pub clock_value : List ℕ → Option ℕ
clock_value word = clock_of (slice_split (λ b. b == 58) word)

-- a sign and four digits
abbrev pub is_zone_number : List ℕ → Bool
is_zone_number [] = false
is_zone_number (b ∷ bs) = ((b == 43) || (b == 45)) && is_some (digits 4 bs)

-- a zone: a word of letters, or a sign and four digits
abbrev pub is_zone : List ℕ → Bool
is_zone word = (is_not_empty word && list_all is_ascii_alphabetic word) || is_zone_number word

-- a year of four digits
abbrev pub year_first : List (List ℕ) → Option ℕ
year_first [] = None
year_first (year ∷ words) = digits 4 year

-- a year of four digits, or a zone and such a year; what follows the year is passed over
abbrev pub year_in : List (List ℕ) → Option ℕ
year_in [] = None
year_in (word ∷ words) = if is_zone word then year_first words else digits 4 word

-- the day number of a year, a month and a day, if each is given
unfoldable pub day_number_of : Option ℕ → Option ℕ → Option ℕ → Option ℤ
day_number_of year month day = do
  y ← year
  m ← month
  d ← day
  date_value y m d

-- day-name month day time [ zone ] year: the time counts as that of UTC
unfoldable pub arrival : List (List ℕ) → Option Moment
arrival (name ∷ month ∷ day ∷ time ∷ words) =
    if is_day_name name
    then moment_value (day_number_of (year_in words) (month_value month) (day_value day)) (clock_value time)
    (Some (pos 0))
    else None
arrival words = None

-- the sender is the first word; a line with no word has the empty sender
abbrev pub sender_first : List (List ℕ) → List ℕ
sender_first [] = []
sender_first (sender ∷ words) = sender

-- the date stands after the sender
abbrev pub arrival_behind : List (List ℕ) → Option Moment
arrival_behind [] = None
arrival_behind (sender ∷ words) = arrival words

abbrev pub sender_of : List ℕ → List ℕ
sender_of line = sender_first (words_of line)

abbrev pub arrival_of : List ℕ → Option Moment
arrival_of line = arrival_behind (words_of line)
