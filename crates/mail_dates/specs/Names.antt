-- The names of days and months: RFC 5322, section 3.3.
use Rattle.std.specs.Prelude.{ℕ, ◌-◌, List, [], ◌∷◌, codes, slice_index_or}

abbrev pub day_names : List (List ℕ)
day_names = codes "Mon" ∷ codes "Tue" ∷ codes "Wed" ∷ codes "Thu" ∷ codes "Fri" ∷ codes "Sat" ∷ codes "Sun" ∷ []

abbrev pub month_names : List (List ℕ)
month_names =
    codes "Jan" ∷ codes "Feb" ∷ codes "Mar" ∷ codes "Apr" ∷ codes "May" ∷ codes "Jun"
    ∷ codes "Jul" ∷ codes "Aug" ∷ codes "Sep" ∷ codes "Oct" ∷ codes "Nov" ∷ codes "Dec" ∷ []

-- the name of a day, from 0 for Monday
unfoldable pub day_name : ℕ → List ℕ
day_name weekday = slice_index_or day_names weekday []

-- the name of a month, from 1 for January
unfoldable pub month_name : ℕ → List ℕ
month_name month = slice_index_or month_names (month - 1) []
