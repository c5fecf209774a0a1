-- A date read part by part is the date of the grammar.
use Rattle.std.proofs.Common.{◌≡◌, ℕ, Bool, true, false, cond, List, [], ◌∷◌, Option, None, Some, ℤ, refl}
use Rattle.std.specs.Prelude.{codes}
use Rattle.mail_dates.specs.declared.moment.Moment.{Moment}
use Rattle.mail_dates.specs.Parts.{Part, Number, Word, Comma, Colon}
use Rattle.mail_dates.specs.Values.{◌>>=◌, is_day_name, time_value, moment_of, moment_value}
use Rattle.mail_dates.specs.DateFields.{written_date, zone_value, time, date, date_time}
use Rattle.mail_dates.specs.Reading.{after_day_name, calendar_first, clock_end, clock_first, zone_last, colon_first}

-- the zone and the moment, after the time
abbrev from_time : ℤ → ℕ × List Part → Option Moment
from_time day read = zone_last read.1 >>= (λ offset. Some (moment_of day read.0 offset))

-- the time and what follows it, after the day
abbrev from_day : ℤ × List Part → Option Moment
from_day read = clock_first read.1 >>= from_time read.0

abbrev pub date_by_steps : List Part → Option Moment
date_by_steps parts = after_day_name parts >>= (λ rest. calendar_first rest >>= from_day)

time_and_zone : (day : ℤ) (t : Option ℕ) (zone : Part) → moment_value (Some day) t (zone_value zone) ≡ ((t >>= (λ seconds. Some (seconds, zone ∷ []))) >>= from_time day)
unfolding moment_value
time_and_zone day None zone = refl
time_and_zone day (Some seconds) zone = refl

no_zone : (day : ℤ) (t : Option ℕ) → moment_value (Some day) t None ≡ None
unfolding moment_value
no_zone day None = refl
no_zone day (Some seconds) = refl

not_one_zone : (day : ℤ) (t : Option ℕ) (parts : List Part) → zone_last parts ≡ None → None ≡ ((t >>= (λ seconds. Some (seconds, parts))) >>= from_time day)
not_one_zone day None parts h = refl
not_one_zone day (Some seconds) parts h = rw h refl

after_minute : (day : ℤ) (hour minute : List ℕ) (parts : List Part)
    → time (Some day) (Number hour ∷ Colon ∷ Number minute ∷ parts) ≡ (clock_end hour (minute, parts) (colon_first parts) >>= from_time day)
unfolding time
after_minute day hour minute [] = not_one_zone day (time_value hour minute (codes "00")) [] refl
after_minute day hour minute (Colon ∷ []) = no_zone day (time_value hour minute (codes "00"))
after_minute day hour minute (Colon ∷ Number second ∷ []) = not_one_zone day (time_value hour minute second) [] refl
after_minute day hour minute (Colon ∷ Number second ∷ zone ∷ []) = time_and_zone day (time_value hour minute second) zone
after_minute day hour minute (Colon ∷ Number second ∷ part ∷ next ∷ parts) = not_one_zone day (time_value hour minute second) (part ∷ next ∷ parts) refl
after_minute day hour minute (Colon ∷ parts) = refl
after_minute day hour minute (zone ∷ []) = time_and_zone day (time_value hour minute (codes "00")) zone
after_minute day hour minute (part ∷ next ∷ parts) = not_one_zone day (time_value hour minute (codes "00")) (part ∷ next ∷ parts) refl

time-steps : (day : ℤ) (parts : List Part) → time (Some day) parts ≡ (clock_first parts >>= from_time day)
unfolding time clock_first
time-steps day (Number hour ∷ Colon ∷ Number minute ∷ parts) = after_minute day hour minute parts
time-steps day parts = refl

time-none : (parts : List Part) → time None parts ≡ None
unfolding time moment_value
time-none (Number hour ∷ Colon ∷ Number minute ∷ Colon ∷ Number second ∷ zone ∷ []) = refl
time-none (Number hour ∷ Colon ∷ Number minute ∷ zone ∷ []) = refl
time-none parts = refl

from_written : (day : Option ℤ) (parts : List Part) → time day parts ≡ ((day >>= (λ d. Some (d, parts))) >>= from_day)
from_written None parts = time-none parts
from_written (Some d) parts = time-steps d parts

date-steps : (parts : List Part) → date parts ≡ (calendar_first parts >>= from_day)
unfolding date calendar_first
date-steps (Number day ∷ Word month ∷ Number year ∷ parts) = from_written (written_date year month day) parts
date-steps parts = refl

day_name_checked : (is_name : Bool) (parts : List Part) → cond is_name (date parts) None ≡ (cond is_name (Some parts) None >>= (λ rest. calendar_first rest >>= from_day))
day_name_checked true parts = date-steps parts
day_name_checked false parts = refl

pub date_time-steps : (parts : List Part) → date_time parts ≡ date_by_steps parts
unfolding date_time
date_time-steps (Word name ∷ Comma ∷ parts) = day_name_checked (is_day_name name) parts
date_time-steps parts = date-steps parts
