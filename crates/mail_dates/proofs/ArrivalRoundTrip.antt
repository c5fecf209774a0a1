-- A From line with a printed date reads as the sender and what the clock shows.
use Rattle.std.proofs.Common.{◌≡◌, ◌==◌, ℕ, ◌+◌, ◌/◌, ◌%◌, ◌<◌, ◌++◌, true, false, not, cond, nat_lt, List, [], ◌∷◌, inl, inr, refl, ap, ◌∙◌, arith, append_assoc, Some, ℤ, pos}
use Rattle.std.proofs.lemmas.Bool.{cases_lt, ne_eqb, lt-ltb, le-ltb}
use Rattle.std.proofs.lemmas.Bool.Decides.{nat_tests}
use Rattle.std.proofs.Math.Seq.{take-append_seam, drop-append_seam}
use Rattle.std.specs.Prelude.{codes}
use Rattle.std.specs.List.{slice_split}
use Rattle.std.proofs.lemmas.List.{append-nil}
use Rattle.std.specs.Char.{is_ascii_digit, is_ascii_alphabetic}
use Rattle.mail_dates.specs.Names.{day_name, month_name}
use Rattle.mail_dates.specs.Printed.{two, two_places, four, clock_text, from_date_form}
use Rattle.mail_dates.specs.Values.{digits, day_value, date_value, moment_of, moment_value}
use Rattle.mail_dates.specs.FromLines.{words_of, clock_of, clock_value, is_zone, year_in, day_number_of, arrival, sender_of, arrival_of}
use Rattle.mail_text.specs.Ascii.{is_blank}
use Rattle.jiff_core.proofs.SignedLemmas.{signed_arith}
use Rattle.mail_dates.specs.declared.moment.Moment.{Moment}
use Rattle.mail_dates.specs.Clock.{IsPrintable, clock_seconds, day_number, second_of_day}
use Rattle.mail_dates.specs.Laws.{IsWord, as_shown, ArrivalReadsBack}
use Rattle.mail_dates.proofs.ShownParts.{shown}
use Rattle.mail_dates.proofs.WordLemmas.{in_word, words_of-word}
use Rattle.mail_dates.proofs.PartLemmas.{IsRun, all_as, prefix_len-run}
use Rattle.mail_dates.proofs.RoundTrip.{run_of_two, day_of_month_reads, time_reads, run_from_test, day_is_word, day_reads, month_is_word, month_reads, run_of_four, four_reads}

-- a word ends where a blank stands after it
word_then : (word rest : List ℕ) → IsWord word → in_word rest ≡ 0 → words_of (word ++ rest) ≡ word ∷ words_of rest
word_then word rest h stops =
    let long = prefix_len-run (λ b. not (is_blank b)) word rest h.1 stops in
    words_of-word (word ++ rest) (let some = h.0 in omega arith) ∙ rw (long, take-append_seam word rest, drop-append_seam word rest) refl

words_of-space : (rest : List ℕ) → words_of (32 ∷ rest) ≡ words_of rest
unfolding words_of
words_of-space rest = refl

word_space : (word rest : List ℕ) (words : List (List ℕ)) → IsWord word → words_of rest ≡ words → words_of (word ++ 32 ∷ rest) ≡ word ∷ words
word_space word rest words h e = word_then word (32 ∷ rest) h refl ∙ ap (λ others. word ∷ others) (words_of-space rest ∙ e)

no_words : words_of [] ≡ []
unfolding words_of
no_words = refl

last_word : (word : List ℕ) → IsWord word → words_of word ≡ word ∷ []
last_word word h = rw (append-nil word) at (word_then word [] h refl) ∙ ap (λ others. word ∷ others) no_words

-- the words of a From line, by the texts that it is made of; the day may stand after a blank
words_of_form : (sender name month day day_word clock year : List ℕ) → IsWord sender → IsWord name → IsWord month
    → ((rest : List ℕ) → words_of (day ++ 32 ∷ rest) ≡ day_word ∷ words_of rest) → IsWord clock → IsWord year
    → words_of (sender ++ codes " " ++ (name ++ codes " " ++ month ++ codes " " ++ day ++ codes " " ++ clock ++ codes " " ++ year)) ≡ sender ∷ name ∷ month ∷ day_word ∷ clock ∷ year ∷ []
words_of_form sender name month day day_word clock year s n m d c y =
    simp append_assoc
    (word_space sender _ _ s (word_space name _ _ n (word_space month _ _ m (d _ ∙ ap (λ others. day_word ∷ others) (word_space clock _ _ c (last_word year y))))))

-- digits and letters are no blanks
no_blank-digit : (b : ℕ) → is_ascii_digit b ≡ true → not (is_blank b) ≡ true
no_blank-digit b h = grind (arith, nat_tests)

no_blank-letter : (b : ℕ) → is_ascii_alphabetic b ≡ true → not (is_blank b) ≡ true
no_blank-letter b h = grind (arith, nat_tests)

word_of_digits : (bytes : List ℕ) → IsRun is_ascii_digit bytes → IsWord bytes
word_of_digits bytes h = (h.some, all_as is_ascii_digit (λ b. not (is_blank b)) no_blank-digit bytes h.all)

word_of_letters : (bytes : List ℕ) → IsRun is_ascii_alphabetic bytes → IsWord bytes
word_of_letters bytes h = (h.some, all_as is_ascii_alphabetic (λ b. not (is_blank b)) no_blank-letter bytes h.all)

-- the day
abbrev one : ℕ → List ℕ
one n = (48 + n) ∷ []

abbrev day_word : ℕ → List ℕ
day_word n = cond (nat_lt n 10) (one n) (two n)

run_of_one : (n : ℕ) → n < 10 → IsRun is_ascii_digit (one n)
run_of_one n h = record { all = grind (arith, nat_tests); some = omega arith }

one_reads : (n : ℕ) → n < 10 → day_value (one n) ≡ Some n
unfolding day_value digits
one_reads n h = let run = run_of_one n h in rw (run.all) (ap Some (omega arith))

day_word_read : (n : ℕ) → n < 100 → (rest : List ℕ) → words_of (two_places n ++ 32 ∷ rest) ≡ day_word n ∷ words_of rest
day_word_read n h rest =
    elim (cases_lt n 10) [
      | inl small ↦ rw (lt-ltb n 10 small) (words_of-space (one n ++ 32 ∷ rest) ∙ word_space (one n) rest _ (word_of_digits (one n) (run_of_one n small)) refl)
      | inr large ↦ rw (le-ltb n 10 large) (word_space (two n) rest _ (word_of_digits (two n) (run_of_two n h)) refl)
    ]

day_word_reads : (n : ℕ) → n < 100 → day_value (day_word n) ≡ Some n
day_word_reads n h =
    elim (cases_lt n 10) [
      | inl small ↦ rw (lt-ltb n 10 small) (one_reads n small)
      | inr large ↦ rw (le-ltb n 10 large) (day_of_month_reads n h)
    ]

-- the time
before_colon : (n : ℕ) (rest : List ℕ) (parts : List (List ℕ)) → n < 100 → slice_split (λ b. b == 58) rest ≡ parts → slice_split (λ b. b == 58) (two n ++ 58 ∷ rest) ≡ two n ∷ parts
before_colon n rest parts h e = rw (ne_eqb (48 + n / 10) 58 (λ z. omega arith), ne_eqb (48 + n % 10) 58 (λ z. omega arith), e) refl

no_colon : (n : ℕ) → n < 100 → slice_split (λ b. b == 58) (two n) ≡ two n ∷ []
no_colon n h = rw (ne_eqb (48 + n / 10) 58 (λ z. omega arith), ne_eqb (48 + n % 10) 58 (λ z. omega arith)) refl

clock_reads : (s : ℕ) → s < 86400 → clock_value (clock_text s) ≡ Some s
unfolding clock_value
clock_reads s h =
    let parts : slice_split (λ b. b == 58) (clock_text s) ≡ two (s / 3600) ∷ two (s / 60 % 60) ∷ two (s % 60) ∷ [] =
    before_colon (s / 3600) (two (s / 60 % 60) ++ 58 ∷ two (s % 60)) _ (omega arith) (before_colon (s / 60 % 60) (two (s % 60)) _ (omega arith) (no_colon (s % 60) (omega arith))) in
    ap clock_of parts ∙ time_reads s h

clock_is_word : (s : ℕ) → s < 86400 → IsWord (clock_text s)
clock_is_word s h = (omega arith, grind (arith, nat_tests))

-- the year
no_zone : (n : ℕ) → n < 10000 → is_zone (four n) ≡ false
no_zone n h = grind (arith, nat_tests)

year_reads : (n : ℕ) → n < 10000 → year_in (four n ∷ []) ≡ Some n
year_reads n h = rw (no_zone n h) (four_reads n h)

-- the form of a From line, read
form_reads : (sender : List ℕ) (weekday day place year s : ℕ) (number : ℤ) → IsWord sender → weekday < 7 → day < 100 → place < 12 → year < 10000 → s < 86400
    → date_value year (place + 1) day ≡ Some number
    → (sender_of (sender ++ codes " " ++ from_date_form weekday day (place + 1) year s) ≡ sender)
    × (arrival_of (sender ++ codes " " ++ from_date_form weekday day (place + 1) year s) ≡ Some (moment_of number s (pos 0)))
unfolding from_date_form arrival day_number_of moment_value
form_reads sender weekday day place year s number w d n p y t exists =
    let words : words_of (sender ++ codes " " ++ from_date_form weekday day (place + 1) year s) ≡ sender ∷ day_name weekday ∷ month_name (place + 1) ∷ day_word day ∷ clock_text s ∷ four year ∷ [] =
    words_of_form sender (day_name weekday) (month_name (place + 1)) (two_places day) (day_word day) (clock_text s) (four year) w
    (word_of_letters (day_name weekday) (run_from_test is_ascii_alphabetic (day_name weekday) (day_is_word weekday d)))
    (word_of_letters (month_name (place + 1)) (run_from_test is_ascii_alphabetic (month_name (place + 1)) (month_is_word place p)))
    (day_word_read day n) (clock_is_word s t) (word_of_digits (four year) (run_of_four year y)) in
    (rw words refl, rw (words, day_reads weekday d, year_reads year y, month_reads place p, day_word_reads day n, exists, clock_reads s t) refl)

shown_moment : (m : Moment) (day : ℤ) (s : ℕ) → day ≡ day_number (clock_seconds m) → s ≡ second_of_day (clock_seconds m) → moment_of day s (pos 0) ≡ as_shown m
shown_moment m day s d t =
    let with_seconds : ℤ → Moment = λ seconds. record { seconds = seconds; offset = pos 0 } in
    ap with_seconds (omega (arith, signed_arith))

pub arrival_reads_back : (sender : List ℕ) (m : Moment) → IsWord sender → IsPrintable m → ArrivalReadsBack sender m
arrival_reads_back sender m w range =
    let parts = shown m range in
    let s : ℕ = second_of_day (clock_seconds m) in
    let number : ℤ = day_number (clock_seconds m) in
    let read = form_reads sender parts.weekday parts.day parts.place parts.year s number w parts.weekday_in parts.day_in parts.place_in parts.year_in parts.time_in parts.exists in
    rw parts.from_date (read.0, read.1 ∙ ap Some (shown_moment m number s refl refl))
