-- A date as most are written is the date of the grammar.
use Rattle.std.proofs.Common.{◌≡◌, ℕ, ◌<◌, ◌++◌, ◌&&◌, Bool, true, List, ◌∷◌, length, ◌==◌, refl, arith, Option, None, Some, ℤ, inl, inr, map, ◌+◌, [], sym, ◌∙◌, ap}
use Rattle.std.specs.Prelude.{option_map, option_and_then}
use Rattle.std.proofs.lemmas.Bool.Decides.{nat_tests}
use Rattle.std.proofs.lemmas.Slice.Eq.{bytes_eq-Decides}
use Rattle.std.specs.Char.{to_ascii_lowercase}
use Rattle.mail_text.specs.Ascii.{same_ascii}
use Rattle.mail_dates.specs.Names.{day_names, month_names}
use Rattle.std.proofs.lemmas.Bool.{cases_Bool, and_parts, eqb-true}
use Rattle.std.specs.Char.{is_ascii_digit, is_ascii_alphabetic}
use Rattle.std.specs.List.{list_all, list_any, position_from}
use Rattle.mail_dates.specs.Parts.{date_parts}
use Rattle.mail_dates.specs.DateFields.{written_date, date_of, date_time, date, time}
use Rattle.mail_dates.specs.Values.{digits, day_value, month_value, year_value, is_day_name, time_value, zone_digits_value, zone_number_value, moment_of, moment_value}
use Rattle.mail_dates.proofs.PartLemmas.{IsRun, is_sign, signed_at_end, name_comma, word_space, number_space, number_colon}

-- where a step gives something, what it is made from does
map_some : {A B : Type 0} (f : A → B) (o : Option A) (b : B) → option_map f o ≡ Some b → (a : A) × (o ≡ Some a)
map_some f None b h = cc
map_some f (Some a) b h = (a, refl)

bind_some : {A B : Type 0} (f : A → Option B) (o : Option A) (b : B) → option_and_then f o ≡ Some b → (a : A) × (o ≡ Some a) × (f a ≡ Some b)
bind_some f None b h = cc
bind_some f (Some a) b h = (a, refl, h)

-- what digits are read from is a run of them
digits_run : (count : ℕ) (text : List ℕ) (n : ℕ) → 0 < count → digits count text ≡ Some n → IsRun is_ascii_digit text
unfolding digits
digits_run count text n some h =
    elim (cases_Bool ((length text == count) && list_all is_ascii_digit text)) [
      | inl t ↦
          let both = and_parts (length text == count) (list_all is_ascii_digit text) t in
          record { all = both.1; some = (let e = eqb-true (length text) count both.0 in omega arith) }
      | inr f ↦ absurd (let e = rw f at h in cc)
    ]

day_run : (text : List ℕ) (n : ℕ) → day_value text ≡ Some n → IsRun is_ascii_digit text
unfolding day_value
day_run text n h =
    elim (cases_Bool (length text == 1)) [
      | inl t ↦ digits_run 1 text n (omega arith) (rw t at h)
      | inr f ↦ digits_run 2 text n (omega arith) (rw f at h)
    ]

year_run : (text : List ℕ) (n : ℕ) → length text ≡ 4 → year_value text ≡ Some n → IsRun is_ascii_digit text
unfolding year_value
year_run text n four h =
    let read = bind_some _ (digits 4 text) n (rw four at h) in
    digits_run 4 text read.0 (omega arith) read.1

zone_run : (sign : ℕ) (text : List ℕ) (offset : ℤ) → zone_number_value sign text ≡ Some offset → IsRun is_ascii_digit text
unfolding zone_number_value zone_digits_value
zone_run sign text offset h =
    let seconds = map_some _ (zone_digits_value text) offset h in
    let read = bind_some _ (digits 4 text) seconds.0 seconds.1 in
    digits_run 4 text read.0 (omega arith) read.1

record Runs (hour minute second : List ℕ) : Type 0 where
  hours : IsRun is_ascii_digit hour
  minutes : IsRun is_ascii_digit minute
  seconds : IsRun is_ascii_digit second

time_runs : (hour minute second : List ℕ) (t : ℕ) → time_value hour minute second ≡ Some t → Runs hour minute second
unfolding time_value
time_runs hour minute second t h =
    let a = bind_some _ (digits 2 hour) t h in
    let b = bind_some _ (digits 2 minute) t a.2 in
    let c = bind_some _ (digits 2 second) t b.2 in
    record {
      hours = digits_run 2 hour a.0 (omega arith) a.1;
      minutes = digits_run 2 minute b.0 (omega arith) b.1;
      seconds = digits_run 2 second c.0 (omega arith) c.1;
    }

-- a text that is a name of letters, the case of letters aside, is letters
lower_letter : (b : ℕ) → is_ascii_alphabetic (to_ascii_lowercase b) ≡ is_ascii_alphabetic b
lower_letter b = grind (arith, nat_tests)

lower_letters : (text : List ℕ) → list_all is_ascii_alphabetic (map to_ascii_lowercase text) ≡ list_all is_ascii_alphabetic text
lower_letters [] = refl
lower_letters (b ∷ bs) = rw (lower_letter b, lower_letters bs) refl

same_letters : (name text : List ℕ) → list_all is_ascii_alphabetic name ≡ true → same_ascii name text ≡ true → list_all is_ascii_alphabetic text ≡ true
same_letters name text h same =
    let lower : map to_ascii_lowercase name ≡ map to_ascii_lowercase text = (bytes_eq-Decides (map to_ascii_lowercase name) (map to_ascii_lowercase text)).0 same in
    sym (lower_letters text) ∙ ap (list_all is_ascii_alphabetic) (sym lower) ∙ lower_letters name ∙ h

any_letters : (names : List (List ℕ)) (text : List ℕ) → list_all (list_all is_ascii_alphabetic) names ≡ true → list_any (λ name. same_ascii name text) names ≡ true → list_all is_ascii_alphabetic text ≡ true
any_letters [] text h any = cc
any_letters (name ∷ names) text h any =
    let both = and_parts (list_all is_ascii_alphabetic name) (list_all (list_all is_ascii_alphabetic) names) h in
    elim (cases_Bool (same_ascii name text)) [
      | inl t ↦ same_letters name text both.0 t
      | inr f ↦ any_letters names text both.1 (rw f at any)
    ]

place_letters : (k : ℕ) (names : List (List ℕ)) (text : List ℕ) (place : ℕ) → list_all (list_all is_ascii_alphabetic) names ≡ true
    → position_from (λ name. same_ascii name text) k names ≡ Some place → list_all is_ascii_alphabetic text ≡ true
place_letters k [] text place h found = cc
place_letters k (name ∷ names) text place h found =
    let both = and_parts (list_all is_ascii_alphabetic name) (list_all (list_all is_ascii_alphabetic) names) h in
    elim (cases_Bool (same_ascii name text)) [
      | inl t ↦ same_letters name text both.0 t
      | inr f ↦ place_letters (k + 1) names text place both.1 (rw f at found)
    ]

day_letters : (text : List ℕ) → is_day_name text ≡ true → list_all is_ascii_alphabetic text ≡ true
unfolding is_day_name
day_letters text h = any_letters day_names text refl h

month_letters : (text : List ℕ) (n : ℕ) → month_value text ≡ Some n → list_all is_ascii_alphabetic text ≡ true
unfolding month_value
month_letters text n h =
    let found = map_some _ (position_from (λ name. same_ascii name text) 0 month_names) n h in
    place_letters 0 month_names text found.0 refl found.1

run_of : (test : ℕ → Bool) (text : List ℕ) (n : ℕ) → length text ≡ n → 0 < n → list_all test text ≡ true → IsRun test text
run_of test text n e some h = record { all = h; some = omega arith }

-- the day of a date, up to the time
pub plain_day_reads : (text name behind r : List ℕ) (space : ℕ) (day s month u year rest : List ℕ) (number : ℤ)
    → text ≡ name ++ 44 ∷ behind → behind ≡ space ∷ r → space ≡ 32 → r ≡ day ++ 32 ∷ s → s ≡ month ++ 32 ∷ u → u ≡ year ++ 32 ∷ rest
    → length name ≡ 3 → is_day_name name ≡ true → length month ≡ 3 → length year ≡ 4
    → written_date year month day ≡ Some number → date_of text ≡ time (Some number) (date_parts rest)
unfolding date_time date
plain_day_reads text name behind r space day s month u year rest number e starts is_space f g h name_long named month_long year_long written =
    let y = bind_some _ (year_value year) number written in
    let m = bind_some _ (month_value month) number y.2 in
    let d = bind_some _ (day_value day) number m.2 in
    let parts =
    name_comma name _ _ (run_of is_ascii_alphabetic name 3 name_long (omega arith) (day_letters name named))
    (number_space day _ _ (day_run day d.0 d.1)
    (word_space month _ _ (run_of is_ascii_alphabetic month 3 month_long (omega arith) (month_letters month m.0 m.1))
    (number_space year rest _ (year_run year y.0 year_long y.1) refl))) in
    rw (e, starts, is_space, f, g, h, parts, named, written) refl

-- the time and the zone after it
pub plain_time_reads : (text hour r minute s second u zone : List ℕ) (sign t : ℕ) (offset : ℤ)
    → text ≡ hour ++ 58 ∷ r → r ≡ minute ++ 58 ∷ s → s ≡ second ++ 32 ∷ u → u ≡ sign ∷ zone → is_sign sign ≡ true
    → time_value hour minute second ≡ Some t → zone_number_value sign zone ≡ Some offset
    → (day : ℤ) → time (Some day) (date_parts text) ≡ Some (moment_of day t offset)
unfolding time moment_value
plain_time_reads text hour r minute s second u zone sign t offset e f g h is timed zoned day =
    let runs = time_runs hour minute second t timed in
    let parts =
    number_colon hour _ _ runs.hours (number_colon minute _ _ runs.minutes (number_space second _ _ runs.seconds
    (signed_at_end sign zone is (zone_run sign zone offset zoned)))) in
    rw (e, f, g, h, parts, timed, zoned) refl
