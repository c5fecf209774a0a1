-- A printed date reads as the moment.
use Rattle.std.proofs.lemmas.Bool.{agree_below_at, and_parts, eqb-true, ltb-true, ne_eqb, lt-ltb, le-ltb}
use Rattle.std.proofs.lemmas.Bool.Decides.{nat_tests}
use Rattle.std.specs.List.{list_all}
use Rattle.std.proofs.Common.{◌≡◌, ◌==◌, ◌&&◌, nat_lt, nat_le, false, ℤ, pos, negsuc, ◌*ℤ◌, int_div, int_lt, unsigned_abs, Option, None, ℕ, suc, ◌+◌, ◌*◌, ◌/◌, ◌%◌, ◌<◌, ◌++◌, Bool, true, List, [], ◌∷◌, length, refl, ap, ◌∙◌, arith, append_assoc, Some}
use Rattle.std.specs.Prelude.{codes, if◌then◌else◌}
use Rattle.std.specs.Char.{is_ascii_digit, is_ascii_alphabetic}
use Rattle.mail_dates.specs.Parts.{Number, Word, Signed, Comma, Colon, date_parts}
use Rattle.mail_dates.specs.DateFields.{time, date, date_time, date_of}
use Rattle.mail_dates.specs.Printed.{two, four, zone_text, calendar_form, date_form}
use Rattle.mail_dates.specs.Names.{day_name, month_name}
use Rattle.mail_dates.specs.Values.{digits, is_day_name, month_value, year_value, day_value, date_value, time_value, moment_of, moment_value, zone_digits_value, zone_number_value}
use Rattle.jiff_core.specs.Calendar.{IsWithin}
use Rattle.jiff_core.proofs.SignedLemmas.{signed_arith, one_part}
use Rattle.mail_dates.specs.declared.moment.Moment.{Moment}
use Rattle.mail_dates.specs.Clock.{IsPrintable, in_whole_minutes, clock_seconds, day_number, second_of_day}
use Rattle.mail_dates.specs.Laws.{with_whole_minutes, ReadsBack}
use Rattle.mail_dates.proofs.ShownParts.{shown}
use Rattle.mail_dates.proofs.PartLemmas.{IsRun, is_sign, signed_at_end, name_comma, word_space, number_space, number_colon}

-- the parts of the form of a date, by the texts that it is made of
parts_of_form : (name day month year hour minute second zone : List ℕ) (sign : ℕ)
    → IsRun is_ascii_alphabetic name → IsRun is_ascii_digit day → IsRun is_ascii_alphabetic month → IsRun is_ascii_digit year
    → IsRun is_ascii_digit hour → IsRun is_ascii_digit minute → IsRun is_ascii_digit second → is_sign sign ≡ true → IsRun is_ascii_digit zone
    → date_parts (name ++ codes ", " ++ day ++ codes " " ++ month ++ codes " " ++ year ++ codes " " ++ (hour ++ codes ":" ++ minute ++ codes ":" ++ second) ++ codes " " ++ (sign ∷ zone))
    ≡ Word name ∷ Comma ∷ Number day ∷ Word month ∷ Number year ∷ Number hour ∷ Colon ∷ Number minute ∷ Colon ∷ Number second ∷ Signed sign zone ∷ []
parts_of_form name day month year hour minute second zone sign n d m y h mi s is z =
    simp append_assoc
    (name_comma name _ _ n (number_space day _ _ d
    (word_space month _ _ m (number_space year _ _ y (number_colon hour _ _ h (number_colon minute _ _ mi (number_space second _ _ s (signed_at_end sign zone is z))))))))

-- each name of a day is a word, and reads as one
pub day_is_word : (weekday : ℕ) → weekday < 7 → list_all is_ascii_alphabetic (day_name weekday) && nat_lt 0 (length (day_name weekday)) ≡ true
unfolding day_name
day_is_word weekday h = agree_below_at (λ w. list_all is_ascii_alphabetic (day_name w) && nat_lt 0 (length (day_name w))) (λ _. true) 7 weekday refl h

pub day_reads : (weekday : ℕ) → weekday < 7 → is_day_name (day_name weekday) ≡ true
unfolding day_name is_day_name
day_reads weekday h = agree_below_at (λ w. is_day_name (day_name w)) (λ _. true) 7 weekday refl h

-- each name of a month is a word, and reads as its number
pub month_is_word : (place : ℕ) → place < 12 → list_all is_ascii_alphabetic (month_name (place + 1)) && nat_lt 0 (length (month_name (place + 1))) ≡ true
unfolding month_name
month_is_word place h = agree_below_at (λ k. list_all is_ascii_alphabetic (month_name (k + 1)) && nat_lt 0 (length (month_name (k + 1)))) (λ _. true) 12 place refl h

abbrev is_number_of : ℕ → Option ℕ → Bool
is_number_of n None = false
is_number_of n (Some m) = m == n

number_is : (n : ℕ) (o : Option ℕ) → is_number_of n o ≡ true → o ≡ Some n
number_is n None h = cc
number_is n (Some m) h = ap Some (eqb-true m n h)

pub month_reads : (place : ℕ) → place < 12 → month_value (month_name (place + 1)) ≡ Some (place + 1)
unfolding month_name month_value
month_reads place h =
    number_is (place + 1) (month_value (month_name (place + 1))) (agree_below_at (λ k. is_number_of (k + 1) (month_value (month_name (k + 1)))) (λ _. true) 12 place refl h)

pub run_from_test : (test : ℕ → Bool) (bytes : List ℕ) → list_all test bytes && nat_lt 0 (length bytes) ≡ true → IsRun test bytes
run_from_test test bytes h =
    let both = and_parts (list_all test bytes) (nat_lt 0 (length bytes)) h in
    record { all = both.0; some = ltb-true 0 (length bytes) both.1 }

-- two digits write a number below 100
digits_of_two : (n : ℕ) → n < 100 → list_all is_ascii_digit (two n) ≡ true
digits_of_two n h = grind (arith, nat_tests)

two_reads : (n : ℕ) → n < 100 → digits 2 (two n) ≡ Some n
unfolding digits
two_reads n h = rw (digits_of_two n h) (ap Some (omega arith))

pub run_of_two : (n : ℕ) → n < 100 → IsRun is_ascii_digit (two n)
run_of_two n h = record { all = digits_of_two n h; some = omega arith }

-- and four digits one below 10,000
digits_of_four : (n : ℕ) → n < 10000 → list_all is_ascii_digit (four n) ≡ true
digits_of_four n h = grind (arith, nat_tests)

pub four_reads : (n : ℕ) → n < 10000 → digits 4 (four n) ≡ Some n
unfolding digits
four_reads n h = rw (digits_of_four n h) (ap Some (omega arith))

pub run_of_four : (n : ℕ) → n < 10000 → IsRun is_ascii_digit (four n)
run_of_four n h = record { all = digits_of_four n h; some = omega arith }

year_reads : (n : ℕ) → 0 < n → n < 10000 → year_value (four n) ≡ Some n
unfolding year_value
year_reads n some h = rw (four_reads n h, ne_eqb n 0 (λ e. omega arith)) refl

pub day_of_month_reads : (n : ℕ) → n < 100 → day_value (two n) ≡ Some n
unfolding day_value
day_of_month_reads n h = two_reads n h

pub time_reads : (s : ℕ) → s < 86400 → time_value (two (s / 3600)) (two (s / 60 % 60)) (two (s % 60)) ≡ Some s
unfolding time_value
time_reads s h =
    let is_time : nat_lt (s / 3600) 24 && nat_lt (s / 60 % 60) 60 && nat_le (s % 60) 60 ≡ true = grind (arith, nat_tests) in
    rw (two_reads (s / 3600) (omega arith), two_reads (s / 60 % 60) (omega arith), two_reads (s % 60) (omega arith), is_time) (ap Some (omega arith))

-- hours and minutes of a zone
digits_of_pair : (h m : ℕ) → h < 100 → m < 100 → list_all is_ascii_digit (two h ++ two m) ≡ true
digits_of_pair h m l k = grind (arith, nat_tests)

pair_reads : (h m : ℕ) → h < 100 → m < 100 → digits 4 (two h ++ two m) ≡ Some (h * 100 + m)
unfolding digits
pair_reads h m l k = rw (digits_of_pair h m l k) (ap Some (omega arith))

pub run_of_pair : (h m : ℕ) → h < 100 → m < 100 → IsRun is_ascii_digit (two h ++ two m)
run_of_pair h m l k = record { all = digits_of_pair h m l k; some = omega arith }

zone_digits_read : (h m : ℕ) → h < 24 → m < 60 → zone_digits_value (two h ++ two m) ≡ Some (h * 3600 + m * 60)
unfolding zone_digits_value
zone_digits_read h m l k =
    let hours : (h * 100 + m) / 100 ≡ h = omega arith in
    let minutes : (h * 100 + m) % 100 ≡ m = omega arith in
    rw (pair_reads h m (omega arith) (omega arith), hours, minutes, lt-ltb h 24 l, lt-ltb m 60 k) refl

-- the sign of a zone
abbrev pub zone_sign : ℤ → ℕ
zone_sign minutes = if int_lt minutes (pos 0) then 45 else 43

abbrev pub zone_pair : ℤ → List ℕ
zone_pair minutes = two (unsigned_abs minutes / 60) ++ two (unsigned_abs minutes % 60)

is_sign-zone : (minutes : ℤ) → is_sign (zone_sign minutes) ≡ true
is_sign-zone (pos n) = rw (le-ltb n 0 (omega arith)) refl
is_sign-zone (negsuc n) = refl

zone_reads : (minutes : ℤ) → unsigned_abs minutes < 1440 → zone_number_value (zone_sign minutes) (zone_pair minutes) ≡ Some (minutes *ℤ pos 60)
unfolding zone_number_value
zone_reads (pos n) h =
    rw (zone_digits_read (n / 60) (n % 60) (omega arith) (omega arith), le-ltb n 0 (omega arith)) (let same : n / 60 * 3600 + n % 60 * 60 ≡ n * 60 = omega arith in rw same refl)
zone_reads (negsuc n) h =
    rw (zone_digits_read (suc n / 60) (suc n % 60) (omega arith) (omega arith)) (let same : suc n / 60 * 3600 + suc n % 60 * 60 ≡ suc n * 60 = omega arith in rw same refl)

-- the form of a date, read
form_reads : (weekday day place year s : ℕ) (minutes : ℤ) (number : ℤ) → weekday < 7 → day < 100 → place < 12 → 0 < year → year < 10000 → s < 86400
    → unsigned_abs minutes < 1440 → date_value year (place + 1) day ≡ Some number
    → date_of (date_form weekday day (place + 1) year s minutes) ≡ Some (moment_of number s (minutes *ℤ pos 60))
unfolding date_form calendar_form zone_text date_time date time moment_value
form_reads weekday day place year s minutes number w d p some y t z exists =
    rw (parts_of_form (day_name weekday) (two day) (month_name (place + 1)) (four year) (two (s / 3600)) (two (s / 60 % 60)) (two (s % 60)) (zone_pair minutes) (zone_sign minutes)
    (run_from_test is_ascii_alphabetic (day_name weekday) (day_is_word weekday w)) (run_of_two day d)
    (run_from_test is_ascii_alphabetic (month_name (place + 1)) (month_is_word place p)) (run_of_four year y)
    (run_of_two (s / 3600) (omega arith)) (run_of_two (s / 60 % 60) (omega arith)) (run_of_two (s % 60) (omega arith)) (is_sign-zone minutes)
    (run_of_pair (unsigned_abs minutes / 60) (unsigned_abs minutes % 60) (omega arith) (omega arith)))
    (rw (day_reads weekday w, year_reads year some y, month_reads place p, day_of_month_reads day d, exists, time_reads s t, zone_reads minutes z) refl)

same_moment : (m : Moment) (day : ℤ) (s : ℕ) → day ≡ day_number (clock_seconds m) → s ≡ second_of_day (clock_seconds m) → moment_of day s (int_div m.offset (pos 60) *ℤ pos 60) ≡ with_whole_minutes m
same_moment m day s d t =
    let with_seconds : ℤ → Moment = λ seconds. record { seconds = seconds; offset = in_whole_minutes m.offset } in
    ap with_seconds (omega (arith, signed_arith))

minutes_bound : (offset : ℤ) → IsWithin 86_399 offset → unsigned_abs (int_div offset (pos 60)) < 1440
minutes_bound offset h = omega (arith, signed_arith, one_part offset)

pub printed_reads_back : (m : Moment) → IsPrintable m → IsWithin 86_399 m.offset → ReadsBack m
printed_reads_back m range within =
    let parts = shown m range in
    rw parts.date
    (form_reads parts.weekday parts.day parts.place parts.year (second_of_day (clock_seconds m)) (int_div m.offset (pos 60)) (day_number (clock_seconds m))
    parts.weekday_in parts.day_in parts.place_in parts.some_year parts.year_in parts.time_in (minutes_bound m.offset within) parts.exists
    ∙ ap Some (same_moment m (day_number (clock_seconds m)) (second_of_day (clock_seconds m)) refl refl))
