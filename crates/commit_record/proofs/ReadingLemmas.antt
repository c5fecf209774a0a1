-- What is written is found where it is looked for.
use Rattle.std.proofs.Common.{◌≡◌, ℕ, zero, suc, ℤ, pos, negsuc, ◌+◌, ◌<◌, ◌≤◌, ◌^◌, true, false, List, [], ◌∷◌, ◌++◌, length, take, drop, nat_lt, nat_le, codes, decimal, Option, Some, None, append_assoc, length-append, if◌then◌else◌, IfOk, Ok, Err, ◌⊎◌, inl, inr, refl, sym, ap, ◌∙◌, arith, lit<}
use Rattle.std.proofs.lemmas.Bool.{and_parts, cond-true, cond-false, le-ltb, leb-true, ltb-true, eqb-true}
use Rattle.std.proofs.lemmas.List.{append-nil, drop_at, take_at}
use Rattle.std.proofs.lemmas.Nat.{from_be_bytes-to_be_bytes_8}
use Rattle.std.proofs.lemmas.Slice.Eq.{bytes_eq-Decides}
use Rattle.std.specs.Char.{is_ascii_digit}
use Rattle.std.specs.Int.{byte_at, bytes_high_first, from_be_bytes, to_be_bytes, w64}
use Rattle.std.specs.List.{flat_map, list_all}
use Rattle.std.specs.Option.{option_map, option_and_then}
use Rattle.std.specs.Result.{result_ok}
use Rattle.hex.specs.Hex.{IsBytes, decode_sized, lower_digits}
use Rattle.hex.proofs.HexLemmas.{decode_sized-encode_lower, length-encode_with}
use Rattle.hex.specs.declared.error.FromHexError.{FromHexError}
use Rattle.std.specs.declared.result.Result.{Result}
use Rattle.mail_text.specs.Number.{number_of}
use Rattle.commit_record.specs.Names.{is_lawful}
use Rattle.commit_record.specs.Format.{at_word, entry_line, fits_at, fits_kind, fits_moment, fits_number, kind_word, most_files, phase_word, token_digits, version_line, IsWritten}
use Rattle.commit_record.specs.Reading.{after, as_moment, at_at, count_at, counted_head, counted_name_at, entries_at, entry_at, head_at, kind_at, moment_at, moment_head, name_at, number_at, or_else, phase_at, phase_head, record_at, token_at, token_head, version_at, with_entries, with_value}
use Rattle.commit_record.specs.declared.reader.Head.{Head}
use Rattle.commit_record.specs.declared.reader.Version.{Version}
use Rattle.commit_record.specs.declared.reader.Version.TheVariants.{One, Two}
use Rattle.commit_record.specs.declared.record.Entry.{Entry}
use Rattle.commit_record.specs.declared.record.EntryKind.{EntryKind}
use Rattle.commit_record.specs.declared.record.EntryKind.TheVariants.{Replace, Remove, Extend}
use Rattle.commit_record.specs.declared.record.Phase.{Phase}
use Rattle.commit_record.specs.declared.record.Phase.TheVariants.{Prepare, Go}
use Rattle.commit_record.specs.declared.record.Record.{Record}
use Rattle.commit_record.specs.declared.error.RecordError.{RecordError}
use Rattle.commit_record.specs.declared.error.RecordError.TheVariants.{NotARecord, Memory}
use Rattle.commit_record.proofs.FormatLemmas.{moment_words, written-fronts}
use Rattle.commit_record.proofs.NumberLemmas.{decimal-digits, late-fits, never-fits, number_of-decimal, prefix_len-stopped}

pub after-front : (front rest : List ℕ) → after front (front ++ rest) ≡ Some rest
unfolding after
after-front front rest =
    cond-true _ _ _ ((bytes_eq-Decides (take (length front) (front ++ rest)) front).1 (take_at front rest _ refl)) ∙ ap (λ (bs : List ℕ). Some bs) (drop_at front rest _ refl)

number_at-decimal : (n x : ℕ) (rest : List ℕ) → n < 2 ^ 64 → is_ascii_digit x ≡ false → number_at (decimal n ++ x ∷ rest) ≡ Some (n, x ∷ rest)
unfolding number_at
number_at-decimal n x rest fits stops =
    let ds = decimal n in
    let bytes = ds ++ x ∷ rest in
    ap (λ (m : ℕ). option_map (λ (number : ℕ). (number, drop m bytes)) (number_of (take m bytes))) (prefix_len-stopped is_ascii_digit ds x rest (decimal-digits n fits) stops)
    ∙ ap (λ (front : List ℕ). option_map (λ (number : ℕ). (number, drop (length ds) bytes)) (number_of front)) (take_at ds (x ∷ rest) _ refl)
    ∙ ap (λ (back : List ℕ). option_map (λ (number : ℕ). (number, back)) (number_of ds)) (drop_at ds (x ∷ rest) _ refl)
    ∙ ap (option_map (λ (number : ℕ). (number, x ∷ rest))) (number_of-decimal n fits)

byte_at-below : (k n : ℕ) → byte_at k n < 256
byte_at-below zero n = omega arith
byte_at-below (suc k) n = omega arith

IsBytes-high : (k n : ℕ) → IsBytes (bytes_high_first k n)
IsBytes-high zero n i = omega arith
IsBytes-high (suc k) n zero = byte_at-below k n
IsBytes-high (suc k) n (suc i) = IsBytes-high k n i

token_at-digits : (n : ℕ) (rest : List ℕ) → n < 2 ^ 64 → token_at (token_digits n ++ rest) ≡ Some (n, rest)
unfolding token_at
token_at-digits n rest fits =
    let ds = token_digits n in
    let len : length ds ≡ 16 = length-encode_with lower_digits (to_be_bytes w64 n) in
    let long : 16 ≤ length (ds ++ rest) = omega (arith, len, length-append ds rest) in
    cond-false _ _ _ (le-ltb _ _ long)
    ∙ ap (λ (front : List ℕ). option_map (λ (bytes : List ℕ). (from_be_bytes w64 bytes, drop 16 (ds ++ rest))) (result_ok (decode_sized front 8))) (take_at ds rest 16 len)
    ∙ ap (λ (back : List ℕ). option_map (λ (bytes : List ℕ). (from_be_bytes w64 bytes, back)) (result_ok (decode_sized ds 8))) (drop_at ds rest 16 len)
    ∙ ap (λ (r : Result (List ℕ) FromHexError). option_map (λ (bytes : List ℕ). (from_be_bytes w64 bytes, rest)) (result_ok r))
    (decode_sized-encode_lower (to_be_bytes w64 n) 8 refl (IsBytes-high 8 n))
    ∙ ap (λ (number : ℕ). Some (number, rest)) (from_be_bytes-to_be_bytes_8 n fits)

go-not-prepare : (rest : List ℕ) → after (codes "prepare\n") (codes "go\n" ++ rest) ≡ None
unfolding after
go-not-prepare rest = refl

phase_at-word : (p : Phase) (rest : List ℕ) → phase_at ((phase_word p ++ codes "\n") ++ rest) ≡ Some (p, rest)
unfolding phase_at
phase_at-word Prepare rest = ap (λ (o : Option (List ℕ)). or_else (with_value Prepare o) (with_value Go (after (codes "go\n") (codes "prepare\n" ++ rest)))) (after-front (codes "prepare\n") rest)
phase_at-word Go rest =
    ap (λ (o : Option (List ℕ)). or_else (with_value Prepare o) (with_value Go (after (codes "go\n") (codes "go\n" ++ rest)))) (go-not-prepare rest)
    ∙ ap (with_value Go) (after-front (codes "go\n") rest)

remove-not-replace : (rest : List ℕ) → after (codes "replace ") (codes "remove " ++ rest) ≡ None
unfolding after
remove-not-replace rest = refl

extend-not-replace : (rest : List ℕ) → after (codes "replace ") (codes "extend " ++ rest) ≡ None
unfolding after
extend-not-replace rest = refl

extend-not-remove : (rest : List ℕ) → after (codes "remove ") (codes "extend " ++ rest) ≡ None
unfolding after
extend-not-remove rest = refl

-- the kinds that come after the first
abbrev later_kind : List ℕ → Option (EntryKind × List ℕ)
later_kind bytes = or_else (with_value Remove (after (codes "remove ") bytes)) (with_value Extend (after (codes "extend ") bytes))

kind_at-word : (k : EntryKind) (rest : List ℕ) → kind_at ((kind_word k ++ codes " ") ++ rest) ≡ Some (k, rest)
unfolding kind_at
kind_at-word Replace rest = ap (λ (o : Option (List ℕ)). or_else (with_value Replace o) (later_kind (codes "replace " ++ rest))) (after-front (codes "replace ") rest)
kind_at-word Remove rest =
    ap (λ (o : Option (List ℕ)). or_else (with_value Replace o) (later_kind (codes "remove " ++ rest))) (remove-not-replace rest)
    ∙ ap (λ (o : Option (List ℕ)). or_else (with_value Remove o) (with_value Extend (after (codes "extend ") (codes "remove " ++ rest)))) (after-front (codes "remove ") rest)
kind_at-word Extend rest =
    ap (λ (o : Option (List ℕ)). or_else (with_value Replace o) (later_kind (codes "extend " ++ rest))) (extend-not-replace rest)
    ∙ ap (λ (o : Option (List ℕ)). or_else (with_value Remove o) (with_value Extend (after (codes "extend ") (codes "extend " ++ rest)))) (extend-not-remove rest)
    ∙ ap (with_value Extend) (after-front (codes "extend ") rest)

put_behind : (n rest : List ℕ) → (n ++ codes " ") ++ rest ≡ n ++ (32 ∷ rest)
put_behind n rest = append_assoc n (codes " ") rest

at_at-word : (k : EntryKind) (at : ℕ) (rest : List ℕ) → at < 2 ^ 64 → fits_at k at ≡ true → at_at k (at_word k at ++ rest) ≡ Some (at, rest)
unfolding at_at
at_at-word Replace at rest fits none = ap (λ (n : ℕ). Some (n, rest)) (sym (eqb-true at 0 none))
at_at-word Remove at rest fits none = ap (λ (n : ℕ). Some (n, rest)) (sym (eqb-true at 0 none))
at_at-word Extend at rest fits any =
    ap (λ (bytes : List ℕ). option_and_then (λ (n : ℕ × List ℕ). with_value n.0 (after (codes " ") n.1)) (number_at bytes)) (put_behind (decimal at) rest)
    ∙ ap (option_and_then (λ (n : ℕ × List ℕ). with_value n.0 (after (codes " ") n.1))) (number_at-decimal at 32 rest fits refl)
    ∙ ap (with_value at) (after-front (codes " ") rest)

name_at-name : (name rest : List ℕ) → name_at (length name) (name ++ 10 ∷ rest) ≡ Some (name, rest)
unfolding name_at
name_at-name name rest =
    let bytes = name ++ 10 ∷ rest in
    let long : length name ≤ length bytes = omega (arith, length-append name (10 ∷ rest)) in
    cond-false _ _ _ (le-ltb _ _ long)
    ∙ ap (λ (front : List ℕ). with_value front (after (codes "\n") (drop (length name) bytes))) (take_at name (10 ∷ rest) _ refl)
    ∙ ap (λ (back : List ℕ). with_value name (after (codes "\n") back)) (drop_at name (10 ∷ rest) _ refl)
    ∙ ap (with_value name) (after-front (codes "\n") rest)

counted_name_at-name : (name rest : List ℕ) → length name < 2 ^ 64 → counted_name_at (decimal (length name) ++ 32 ∷ (name ++ 10 ∷ rest)) ≡ Some (name, rest)
unfolding counted_name_at
counted_name_at-name name rest fits =
    ap (option_and_then (λ (n : ℕ × List ℕ). option_and_then (name_at n.0) (after (codes " ") n.1))) (number_at-decimal (length name) 32 (name ++ 10 ∷ rest) fits refl)
    ∙ ap (option_and_then (name_at (length name))) (after-front (codes " ") (name ++ 10 ∷ rest))
    ∙ name_at-name name rest

entry_fronts : (k sp a n name nl rest : List ℕ) → ((((((k ++ sp) ++ a) ++ n) ++ sp) ++ name) ++ nl) ++ rest ≡ (k ++ sp) ++ (a ++ (n ++ (sp ++ (name ++ (nl ++ rest)))))
entry_fronts k sp a n name nl rest = simp append_assoc

-- the entry of these parts, and what follows its line
abbrev found_entry : EntryKind → ℕ → List ℕ × List ℕ → Entry × List ℕ
found_entry kind at n = (record { kind = kind; at = at; name = n.0 }, n.1)

abbrev behind_at : EntryKind → ℕ × List ℕ → Option (Entry × List ℕ)
behind_at kind a = option_map (found_entry kind a.0) (counted_name_at a.1)

abbrev behind_kind : EntryKind × List ℕ → Option (Entry × List ℕ)
behind_kind k = option_and_then (behind_at k.0) (at_at k.0 k.1)

entry_at-line : (e : Entry) (rest : List ℕ) → length e.name < 2 ^ 64 → fits_number e ≡ true → fits_kind e ≡ true → entry_at (entry_line e ++ rest) ≡ Some (e, rest)
unfolding entry_at entry_line
entry_at-line e rest fits number kind =
    let text = decimal (length e.name) ++ 32 ∷ (e.name ++ 10 ∷ rest) in
    ap (λ (bytes : List ℕ). option_and_then behind_kind (kind_at bytes)) (entry_fronts (kind_word e.kind) (codes " ") (at_word e.kind e.at) (decimal (length e.name)) e.name (10 ∷ []) rest)
    ∙ ap (option_and_then behind_kind) (kind_at-word e.kind (at_word e.kind e.at ++ text))
    ∙ ap (option_and_then (behind_at e.kind)) (at_at-word e.kind e.at text (ltb-true e.at (2 ^ 64) number) kind)
    ∙ ap (option_map (found_entry e.kind e.at)) (counted_name_at-name e.name rest fits)

small : (n most : ℕ) → n ≤ most → most < 2 ^ 64 → n < 2 ^ 64
small n most le fits = omega arith

lawful-length : (name : List ℕ) → is_lawful name ≡ true → length name < 2 ^ 64
lawful-length name lawful =
    let behind = (and_parts (nat_lt 0 (length name)) _ lawful).1 in
    small (length name) 4000 (leb-true _ _ (and_parts (nat_le (length name) 4000) _ behind).0) (lit< tt)

entries_at-lines : (es acc : List Entry) (rest : List ℕ) → list_all (λ e. is_lawful e.name) es ≡ true → list_all fits_number es ≡ true → list_all fits_kind es ≡ true
    → entries_at (length es) acc (flat_map entry_line es ++ rest) ≡ Some (acc ++ es)
unfolding entries_at
entries_at-lines [] acc rest lawful numbers kinds = ap (λ (xs : List Entry). Some xs) (sym (append-nil acc))
entries_at-lines (e ∷ es) acc rest lawful numbers kinds =
    let parts = and_parts (is_lawful e.name) (list_all (λ (x : Entry). is_lawful x.name) es) lawful in
    let fit = and_parts (fits_number e) (list_all fits_number es) numbers in
    let kind = and_parts (fits_kind e) (list_all fits_kind es) kinds in
    let behind = flat_map entry_line es ++ rest in
    let more = λ (x : Entry × List ℕ). entries_at (length es) (acc ++ x.0 ∷ []) x.1 in
    ap (λ (bytes : List ℕ). option_and_then more (entry_at bytes)) (append_assoc (entry_line e) (flat_map entry_line es) rest)
    ∙ ap (option_and_then more) (entry_at-line e behind (lawful-length e.name parts.0) fit.0 kind.0)
    ∙ entries_at-lines es (acc ++ e ∷ []) rest parts.1 fit.1 kind.1
    ∙ ap (λ (xs : List Entry). Some xs) (append_assoc acc (e ∷ []) es)

count_at-count : (n : ℕ) (rest : List ℕ) → n < 2 ^ 64 → count_at (decimal n ++ 10 ∷ rest) ≡ Some (n, rest)
unfolding count_at
count_at-count n rest fits =
    ap (option_and_then (λ (m : ℕ × List ℕ). with_value m.0 (after (codes "\n") m.1))) (number_at-decimal n 10 rest fits refl)
    ∙ ap (with_value n) (after-front (codes "\n") rest)

abbrev head : Phase → ℕ → Option ℤ → ℕ → Head
head phase token moment count = record { phase = phase; token = token; moment = moment; count = count }

counted_head-count : (p : Phase) (t n : ℕ) (o : Option ℤ) (rest : List ℕ) → n < 2 ^ 64 → counted_head p t o (codes "\nentries " ++ (decimal n ++ (codes "\n" ++ rest))) ≡ Some (head p t o n, rest)
unfolding counted_head
counted_head-count p t n o rest fits =
    ap (option_and_then (λ (b : List ℕ). option_map (λ (m : ℕ × List ℕ). (head p t o m.0, m.1)) (count_at b))) (after-front (codes "\nentries ") (decimal n ++ 10 ∷ rest))
    ∙ ap (option_map (λ (m : ℕ × List ℕ). (head p t o m.0, m.1))) (count_at-count n rest fits)

-- the version of a record with such a moment
abbrev version_of : Option ℤ → Version
version_of None = One
version_of (Some m) = Two

two-not-one : (rest : List ℕ) → after (codes "mailx-commit 1\n") (codes "mailx-commit 2\n" ++ rest) ≡ None
unfolding after
two-not-one rest = refl

version_at-line : (o : Option ℤ) (rest : List ℕ) → version_at (version_line o ++ rest) ≡ Some (version_of o, rest)
unfolding version_at
version_at-line None rest = ap (λ (f : Option (List ℕ)). or_else (with_value One f) (with_value Two (after (codes "mailx-commit 2\n") (codes "mailx-commit 1\n" ++ rest)))) (after-front (codes "mailx-commit 1\n") rest)
version_at-line (Some m) rest =
    ap (λ (f : Option (List ℕ)). or_else (with_value One f) (with_value Two (after (codes "mailx-commit 2\n") (codes "mailx-commit 2\n" ++ rest)))) (two-not-one rest)
    ∙ ap (with_value Two) (after-front (codes "mailx-commit 2\n") rest)

-- what a record's moment has, which may follow
abbrev behind_number : ℕ × List ℕ → Option (Option ℤ × List ℕ)
behind_number n = option_map (λ (m : ℤ). (Some m, n.1)) (as_moment n.0)

moment_at-words : (o : Option ℤ) (rest : List ℕ) → fits_moment o ≡ true → moment_at (version_of o) (moment_words o ++ (10 ∷ rest)) ≡ Some (o, 10 ∷ rest)
unfolding moment_at
moment_at-words None rest fits = refl
moment_at-words (Some (pos n)) rest fits =
    let late = late-fits n fits in
    ap (λ (bytes : List ℕ). option_and_then (λ (b : List ℕ). option_and_then behind_number (number_at b)) (after (codes "\nmoment ") bytes)) (append_assoc (codes "\nmoment ") (decimal n) (10 ∷ rest))
    ∙ ap (option_and_then (λ (b : List ℕ). option_and_then behind_number (number_at b))) (after-front (codes "\nmoment ") (decimal n ++ 10 ∷ rest))
    ∙ ap (option_and_then behind_number) (number_at-decimal n 10 rest (small n 253_402_128_000 (leb-true _ _ late) (lit< tt)) refl)
    ∙ ap (option_map (λ (m : ℤ). (Some m, 10 ∷ rest))) (cond-true _ _ _ late)
moment_at-words (Some (negsuc n)) rest fits = absurd (never-fits n fits)

moment_head-moment : (p : Phase) (t n : ℕ) (o : Option ℤ) (rest : List ℕ) → n < 2 ^ 64 → fits_moment o ≡ true
    → moment_head (version_of o) p t (moment_words o ++ (codes "\nentries " ++ (decimal n ++ (codes "\n" ++ rest)))) ≡ Some (head p t o n, rest)
unfolding moment_head
moment_head-moment p t n o rest n_fits fits =
    ap (option_and_then (λ (m : Option ℤ × List ℕ). counted_head p t m.0 m.1)) (moment_at-words o (codes "entries " ++ (decimal n ++ (codes "\n" ++ rest))) fits)
    ∙ counted_head-count p t n o rest n_fits

token_head-token : (p : Phase) (t n : ℕ) (o : Option ℤ) (rest : List ℕ) → t < 2 ^ 64 → n < 2 ^ 64 → fits_moment o ≡ true
    → token_head (version_of o) p (codes "token " ++ (token_digits t ++ (moment_words o ++ (codes "\nentries " ++ (decimal n ++ (codes "\n" ++ rest)))))) ≡ Some (head p t o n, rest)
unfolding token_head
token_head-token p t n o rest t_fits n_fits fits =
    let behind = moment_words o ++ (codes "\nentries " ++ (decimal n ++ (codes "\n" ++ rest))) in
    ap (option_and_then (λ (b : List ℕ). option_and_then (λ (x : ℕ × List ℕ). moment_head (version_of o) p x.0 x.1) (token_at b))) (after-front (codes "token ") (token_digits t ++ behind))
    ∙ ap (option_and_then (λ (x : ℕ × List ℕ). moment_head (version_of o) p x.0 x.1)) (token_at-digits t behind t_fits)
    ∙ moment_head-moment p t n o rest n_fits fits

phase_head-phase : (p : Phase) (t n : ℕ) (o : Option ℤ) (rest : List ℕ) → t < 2 ^ 64 → n < 2 ^ 64 → fits_moment o ≡ true
    → phase_head (version_of o) (codes "phase " ++ ((phase_word p ++ codes "\n") ++ (codes "token " ++ (token_digits t ++ (moment_words o ++ (codes "\nentries " ++ (decimal n ++ (codes "\n" ++ rest)))))))) ≡ Some (head p t o n, rest)
unfolding phase_head
phase_head-phase p t n o rest t_fits n_fits fits =
    let behind = codes "token " ++ (token_digits t ++ (moment_words o ++ (codes "\nentries " ++ (decimal n ++ (codes "\n" ++ rest))))) in
    ap (option_and_then (λ (b : List ℕ). option_and_then (λ (x : Phase × List ℕ). token_head (version_of o) x.0 x.1) (phase_at b))) (after-front (codes "phase ") ((phase_word p ++ codes "\n") ++ behind))
    ∙ ap (option_and_then (λ (x : Phase × List ℕ). token_head (version_of o) x.0 x.1)) (phase_at-word p behind)
    ∙ token_head-token p t n o rest t_fits n_fits fits

head_at-head : (p : Phase) (t n : ℕ) (o : Option ℤ) (rest : List ℕ) → t < 2 ^ 64 → n < 2 ^ 64 → fits_moment o ≡ true
    → head_at (version_line o ++ (codes "phase " ++ ((phase_word p ++ codes "\n") ++ (codes "token " ++ (token_digits t ++ (moment_words o ++ (codes "\nentries " ++ (decimal n ++ (codes "\n" ++ rest))))))))) ≡ Some (head p t o n, rest)
unfolding head_at
head_at-head p t n o rest t_fits n_fits fits =
    ap (option_and_then (λ (v : Version × List ℕ). phase_head v.0 v.1)) (version_at-line o (codes "phase " ++ ((phase_word p ++ codes "\n") ++ (codes "token " ++ (token_digits t ++ (moment_words o ++ (codes "\nentries " ++ (decimal n ++ (codes "\n" ++ rest)))))))))
    ∙ phase_head-phase p t n o rest t_fits n_fits fits

abbrev behind_head : Head × List ℕ → Option Record
behind_head h = if nat_le h.0.count (most_files h.0.moment) then option_map (with_entries h.0) (entries_at h.0.count [] h.1) else None

few-small : (n : ℕ) (o : Option ℤ) → n ≤ most_files o → n < 2 ^ 64
few-small n None few = small n 16 few (lit< tt)
few-small n (Some m) few = small n 256 few (lit< tt)

-- the text of a valid record gives the record
pub record_at-written : (bytes : List ℕ) (r : Record) → IsWritten bytes r → record_at bytes ≡ Some r
unfolding record_at
record_at-written bytes r is =
    let behind = (and_parts _ _ is.valid).1 in
    let few = (and_parts _ _ behind).0 in
    let named = and_parts _ _ (and_parts _ _ behind).1 in
    let lawful = named.0 in
    let of_kinds = and_parts _ _ (and_parts _ _ named.1).1 in
    let kinds = of_kinds.0 in
    let fits = (and_parts _ _ of_kinds.1).1 in
    let found : Head = head r.phase r.token r.moment (length r.entries) in
    let lines = flat_map entry_line r.entries ++ codes "end\n" in
    ap (λ (text : List ℕ). option_and_then behind_head (head_at text)) (is.is ∙ written-fronts r)
    ∙ ap (option_and_then behind_head) (head_at-head r.phase r.token (length r.entries) r.moment lines is.token_fits (few-small (length r.entries) r.moment (leb-true _ _ few)) fits)
    ∙ cond-true _ _ _ few
    ∙ ap (option_map (with_entries found)) (entries_at-lines r.entries [] (codes "end\n") lawful is.numbers_fit kinds)

-- no entry at the front, an entry at the front, and no further line
pub entries_at-none : (n : ℕ) (es : List Entry) (bytes : List ℕ) → 0 < n → entry_at bytes ≡ None → entries_at n es bytes ≡ None
unfolding entries_at
entries_at-none zero es bytes some none = absurd (omega arith)
entries_at-none (suc n) es bytes some none = ap (option_and_then (λ (x : Entry × List ℕ). entries_at n (es ++ x.0 ∷ []) x.1)) none

pub entries_at-more : (n m : ℕ) (es : List Entry) (bytes : List ℕ) (e : Entry) (rest : List ℕ) → n ≡ m + 1 → entry_at bytes ≡ Some (e, rest) → entries_at n es bytes ≡ entries_at m (es ++ e ∷ []) rest
unfolding entries_at
entries_at-more zero m es bytes e rest is found = absurd (omega arith)
entries_at-more (suc n) m es bytes e rest is found =
    let same : n ≡ m = omega arith in
    ap (option_and_then (λ (x : Entry × List ℕ). entries_at n (es ++ x.0 ∷ []) x.1)) found ∙ ap (λ (k : ℕ). entries_at k (es ++ e ∷ []) rest) same

pub entries_at-end : (n : ℕ) (es : List Entry) (bytes : List ℕ) → n ≡ 0 → entries_at n es bytes ≡ Some es
unfolding entries_at
entries_at-end zero es bytes is = refl
entries_at-end (suc n) es bytes is = absurd (omega arith)

-- what is found in the text of a record is the record
pub found-is : (bytes : List ℕ) (found : Option Record) (value r : Record) → found ≡ Some value → found ≡ record_at bytes → IsWritten bytes r → r ≡ value
found-is bytes found value r some is w = let e : record_at bytes ≡ Some r = record_at-written bytes r w in cc

pub found-some : (bytes : List ℕ) (found : Option Record) (r : Record) → found ≡ None → found ≡ record_at bytes → IsWritten bytes r → ⊥
found-some bytes found r none is w = let e : record_at bytes ≡ Some r = record_at-written bytes r w in cc

-- a record that was checked comes back, unless memory ran out
pub checked-back : (bytes : List ℕ) (value : Record) (result : Result Record RecordError) → IfOk result (λ r. (r ≡ value) × IsWritten bytes value)
    → (result ≡ Err NotARecord → IsWritten bytes value → ⊥) → IsWritten bytes value → (result ≡ Ok value) ⊎ (result ≡ Err Memory)
checked-back bytes value (Ok r) ok refused w = inl (ap (λ (x : Record). Ok x) ok.0)
checked-back bytes value (Err NotARecord) ok refused w = absurd (refused refl w)
checked-back bytes value (Err Memory) ok refused w = inr refl

-- bytes are the text of one record at most
pub one_reading : (bytes : List ℕ) (r s : Record) → IsWritten bytes r → IsWritten bytes s → r ≡ s
one_reading bytes r s w v = found-is bytes (record_at bytes) s r (record_at-written bytes s v) refl w
