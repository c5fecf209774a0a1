-- The mode of options is that for which they ask.
use Rattle.std.proofs.Common.{◌≡◌, ◌≢◌, ◌≤◌, ◌<◌, ◌^◌, ◌⊎◌, ℕ, zero, suc, ◌==◌, Bool, true, false, not, List, [], ◌∷◌, length, get_or, decimal, inl, inr, refl, sym, ap, subst, ◌∙◌, true≢false, arith, eq-eqb}
use Rattle.std.specs.Prelude.{◌&&◌, ◌||◌, if◌then◌else◌, is_none, is_some, nat_le, nat_lt, unwrap_or}
use Rattle.std.specs.declared.option.Option.{Option}
use Rattle.std.specs.declared.option.Option.TheVariants.{Some, None}
use Rattle.std.specs.Option.{option_map}
use Rattle.std.specs.List.{list_all}
use Rattle.std.specs.Str.{all_ascii_digits, is_utf8}
use Rattle.std.specs.Str.Parse.{digits_value}
use Rattle.std.proofs.lemmas.Bool.{and_from, and_parts, cases_Bool, cond-false, cond-true, le-leb, leb-true, ltb-true, ne_eqb, or_parts}
use Rattle.std.proofs.lemmas.Bool.Decides.{nat_tests}
use Rattle.std.proofs.lemmas.Fmt.{decimal-digits_value, decimal_digit, decimal_nonempty, digits_decimal, digits_value-decimal, first_decimal}
use Rattle.std.proofs.lemmas.Str.Parse.{IsNumeralModel, numerals_by_value, tells_all_ascii_digits}
use Rattle.mail_text.specs.Number.{is_numeral, number_of}
use Rattle.command_words.specs.declared.mode.Mode.{Mode}
use Rattle.command_words.specs.declared.mode.Mode.TheVariants.{Try, Exists, Receive, Send}
use Rattle.command_words.specs.declared.options.Options.{Options}
use Rattle.command_words.specs.declared.reading.Wanted.{Wanted}
use Rattle.command_words.specs.Modes.{has_values, is_alone, mode_of, mode_with, mode_without_tries, try_mode, with_number}
use Rattle.command_words.specs.Options.{options_of}
use Rattle.command_words.specs.Readings.{wanted_by}
use Rattle.command_words.specs.Words.{mailx, reads}
use Rattle.clap.specs.Simple.{matches_of}
use Rattle.leaf_laws.specs.Asking.{Asks, HasNoDraft, IsBare, IsReceive, ModesAreAsked, WantedIsAsked}

-- ---- tests

if-some : {A : Type 0} (b : Bool) (x y : A) → (if b then Some x else None) ≡ Some y → (b ≡ true) × (x ≡ y)
if-some true x y is = (refl, ap (λ o. unwrap_or o x) is)
if-some false x y is = absurd (cc is)

if-not : {A : Type 0} (b : Bool) (x y : A) → (if b then None else Some x) ≡ Some y → (b ≡ false) × (x ≡ y)
if-not true x y is = absurd (cc is)
if-not false x y is = (refl, ap (λ o. unwrap_or o x) is)

is-off : (b : Bool) → not b ≡ true → b ≡ false
is-off true h = absurd (true≢false (sym h))
is-off false h = refl

is-on : (b : Bool) → not b ≡ false → b ≡ true
is-on true h = refl
is-on false h = absurd (true≢false h)

or-none : (a b : Bool) → a ≡ false → b ≡ false → (a || b) ≡ false
or-none true b p q = absurd (true≢false p)
or-none false b p q = q

none-of : {A : Type 0} (o : Option A) → is_none o ≡ true → o ≡ None
none-of None h = refl
none-of (Some x) h = absurd (true≢false (sym h))

not-some : {A : Type 0} (o : Option A) → is_some o ≡ false → o ≡ None
not-some None h = refl
not-some (Some x) h = absurd (true≢false h)

empty-of : (xs : List (List ℕ)) → (length xs == 0) ≡ true → xs ≡ []
empty-of [] h = refl
empty-of (x ∷ xs) h = absurd (true≢false (sym h ∙ ne_eqb (length (x ∷ xs)) 0 (λ e. absurd (omega arith))))

filled-of : (xs : List (List ℕ)) → (length xs == 0) ≡ false → xs ≢ []
filled-of xs h = λ e. true≢false (sym (eq-eqb (length xs) 0 (ap (λ (l : List (List ℕ)). length l) e)) ∙ h)

filled : (xs : List (List ℕ)) → xs ≢ [] → (length xs == 0) ≡ false
filled [] some = absurd (some refl)
filled (x ∷ xs) some = ne_eqb (length (x ∷ xs)) 0 (λ e. absurd (omega arith))

-- ---- a number of messages

model : IsNumeralModel (λ ds. all_ascii_digits ds ≡ true) (digits_value 10)
model = numerals_by_value (λ ds. all_ascii_digits ds ≡ true) tells_all_ascii_digits

-- the text writes the count, which is one of those that are tried
record IsCount (text : List ℕ) (mode : Mode) : Type 0 where
  count : ℕ
  tries : Try count ≡ mode
  writes : text ≡ decimal count
  least : 1 ≤ count
  most : count ≤ 100000

number-parts : (text : List ℕ) (n : ℕ) → number_of text ≡ Some n → (is_numeral text && nat_lt (digits_value 10 text) (2 ^ 64) ≡ true) × (digits_value 10 text ≡ n)
unfolding number_of
number-parts text n is = if-some (is_numeral text && nat_lt (digits_value 10 text) (2 ^ 64)) (digits_value 10 text) n is

writes-it : (b : ℕ) (bs : List ℕ) (n : ℕ) → (b == 48) ≡ false → number_of (b ∷ bs) ≡ Some n → b ∷ bs ≡ decimal n
writes-it b bs n apart is =
    let parts = number-parts (b ∷ bs) n is in
    let tests = and_parts (is_numeral (b ∷ bs)) (nat_lt (digits_value 10 (b ∷ bs)) (2 ^ 64)) parts.0 in
    let digits = and_parts (nat_lt 0 (length (b ∷ bs))) (all_ascii_digits (b ∷ bs)) tests.0 in
    sym (decimal-digits_value model (b ∷ bs) digits.1 (omega arith) (λ z. absurd (true≢false (sym (eq-eqb b 48 z) ∙ apart))) (ltb-true (digits_value 10 (b ∷ bs)) (2 ^ 64) tests.1))
    ∙ ap decimal parts.1

at-least : (b : ℕ) (bs : List ℕ) (n : ℕ) → (b == 48) ≡ false → b ∷ bs ≡ decimal n → 1 ≤ n
at-least b bs zero apart is =
    let same : b ∷ bs ≡ 48 ∷ [] = is ∙ decimal_digit 0 (omega arith) in
    let first : b ≡ 48 = cc same in
    absurd (true≢false (sym (eq-eqb b 48 first) ∙ apart))
at-least b bs (suc n) apart is = omega arith

count-of : (text : List ℕ) (mode : Mode) → try_mode text ≡ Some mode → IsCount text mode
count-of [] mode is = absurd (cc is)
count-of (b ∷ bs) mode is = go (b == 48) refl (number_of (b ∷ bs)) refl is
  where
    go : (z : Bool) → (b == 48) ≡ z → (found : Option ℕ) → number_of (b ∷ bs) ≡ found → (if z then None else with_number found) ≡ Some mode → IsCount (b ∷ bs) mode
    go true first found number h = absurd (cc h)
    go false apart None number h = absurd (cc h)
    go false apart (Some n) number h =
        let few = if-some (nat_le n 100000) (Try n) mode h in
        let writes = writes-it b bs n apart number in
        record { count = n; tries = few.1; writes = writes; least = at-least b bs n apart writes; most = leb-true n 100000 few.0 }

number-decimal : (n : ℕ) → n < 2 ^ 64 → number_of (decimal n) ≡ Some n
unfolding number_of
number-decimal n fits =
    let digits : all_ascii_digits (decimal n) ≡ true = digits_decimal model n fits in
    let value : digits_value 10 (decimal n) ≡ n = digits_value-decimal model n fits in
    let some : 0 < length (decimal n) = decimal_nonempty n fits in
    grind (arith, nat_tests)

tries-it : (text : List ℕ) (n : ℕ) → text ≡ decimal n → 1 ≤ n → n ≤ 100000 → try_mode text ≡ Some (Try n)
tries-it [] n is least most =
    let fits : n < 2 ^ 64 = omega arith in
    let some = decimal_nonempty n fits in
    let none : length (decimal n) ≡ 0 = sym (ap (λ (l : List ℕ). length l) is) in
    absurd (omega arith)
tries-it (b ∷ bs) n is least most =
    let fits : n < 2 ^ 64 = omega arith in
    let first = first_decimal n (omega arith) fits in
    let head : b ≡ get_or (decimal n) 0 0 = ap (λ (l : List ℕ). get_or l 0 0) is in
    cond-false _ _ _ (ne_eqb b 48 (λ e. absurd (omega arith)))
    ∙ ap with_number (ap number_of is ∙ number-decimal n fits)
    ∙ cond-true _ _ _ (le-leb n 100000 most)

-- ---- the mode without `--try`, by each test that decides it
abbrev by_operands : Options → Bool → Option Mode
by_operands o none = if none then (if has_values o then None else Some Receive) else if o.headers || o.quiet || is_some o.user then None else Some Send

abbrev by_folder : Options → Bool → Option Mode
by_folder o folder = if folder then (if nat_le (length o.operands) 1 && is_none o.user && not (has_values o) then Some Receive else None) else by_operands o (length o.operands == 0)

abbrev by_exists : Options → Bool → Option Mode
by_exists o exists = if exists then (if is_alone o then Some Exists else None) else by_folder o o.folder

-- ---- what isn't given

module _ (o : Options) where
  no-draft : has_values o ≡ false → HasNoDraft o
  no-draft h =
      let two = or_parts (is_some o.subject || is_some o.blind) (is_some o.copies) h in
      let one = or_parts (is_some o.subject) (is_some o.blind) two.0 in
      record { subject = not-some o.subject one.0; blind = not-some o.blind one.1; copies = not-some o.copies two.1 }

  draft-none : HasNoDraft o → has_values o ≡ false
  draft-none h =
      or-none (is_some o.subject || is_some o.blind) (is_some o.copies)
      (or-none (is_some o.subject) (is_some o.blind) (ap (λ (v : Option (List ℕ)). is_some v) h.subject) (ap (λ (v : Option (List ℕ)). is_some v) h.blind))
      (ap (λ (v : Option (List ℕ)). is_some v) h.copies)

  bare-of : is_alone o ≡ true → IsBare o
  bare-of is =
      let a = and_parts (not o.headers && not o.quiet && not o.named && not o.folder && is_none o.user && not (has_values o)) (length o.operands == 0) is in
      let b = and_parts (not o.headers && not o.quiet && not o.named && not o.folder && is_none o.user) (not (has_values o)) a.0 in
      let c = and_parts (not o.headers && not o.quiet && not o.named && not o.folder) (is_none o.user) b.0 in
      let d = and_parts (not o.headers && not o.quiet && not o.named) (not o.folder) c.0 in
      let e = and_parts (not o.headers && not o.quiet) (not o.named) d.0 in
      let f = and_parts (not o.headers) (not o.quiet) e.0 in
      record {
        headers = is-off o.headers f.0;
        quiet = is-off o.quiet f.1;
        named = is-off o.named e.1;
        folder = is-off o.folder d.1;
        user = none-of o.user c.1;
        draft = no-draft (is-off (has_values o) b.1);
        operands = empty-of o.operands a.1;
      }

  alone-of : IsBare o → is_alone o ≡ true
  alone-of h =
      and_from _ _
      (and_from _ _
      (and_from _ _
      (and_from _ _ (and_from _ _ (and_from _ _ (ap not h.headers) (ap not h.quiet)) (ap not h.named)) (ap not h.folder))
      (ap (λ (v : Option (List ℕ)). is_none v) h.user))
      (ap not (draft-none h.draft)))
      (eq-eqb (length o.operands) 0 (ap (λ (l : List (List ℕ)). length l) h.operands))

  -- ---- a mode is asked for
  asked-try : (text : List ℕ) (mode : Mode) → o.tries ≡ Some text → mode_with (Some text) o ≡ Some mode → Asks o mode
  asked-try text mode given is = go (o.exists || o.ignores || o.no_system_file || not (is_alone o)) refl is
    where
      go : (b : Bool) → (o.exists || o.ignores || o.no_system_file || not (is_alone o)) ≡ b → (if b then None else try_mode text) ≡ Some mode → Asks o mode
      go true on h = absurd (cc h)
      go false off h =
          let a = or_parts (o.exists || o.ignores || o.no_system_file) (not (is_alone o)) off in
          let b = or_parts (o.exists || o.ignores) o.no_system_file a.0 in
          let c = or_parts o.exists o.ignores b.0 in
          let n : IsCount text mode = count-of text mode h in
          subst (Asks o) n.tries
          (record {
            tries = given ∙ ap (λ (t : List ℕ). Some t) n.writes;
            least = n.least;
            most = n.most;
            exists = c.0;
            ignores = c.1;
            no_system_file = b.1;
            bare = bare-of (is-on (is_alone o) a.1);
          })

  asked-operands : (mode : Mode) → o.tries ≡ None → o.exists ≡ false → o.folder ≡ false → (b : Bool) → (length o.operands == 0) ≡ b → by_operands o b ≡ Some mode → Asks o mode
  asked-operands mode none off closed true empty h =
      let p = if-not (has_values o) Receive mode h in
      subst (Asks o) p.1 (record { operands = inl (empty-of o.operands empty); user = (λ on. absurd (true≢false (sym on ∙ closed))); tries = none; exists = off; draft = no-draft p.0 })
  asked-operands mode none off closed false some h =
      let p = if-not (o.headers || o.quiet || is_some o.user) Send mode h in
      let a = or_parts (o.headers || o.quiet) (is_some o.user) p.0 in
      let b = or_parts o.headers o.quiet a.0 in
      subst (Asks o) p.1 (record { operands = filled-of o.operands some; folder = closed; tries = none; exists = off; headers = b.0; quiet = b.1; user = not-some o.user a.1 })

  asked-folder : (mode : Mode) → o.tries ≡ None → o.exists ≡ false → (b : Bool) → o.folder ≡ b → by_folder o b ≡ Some mode → Asks o mode
  asked-folder mode none off true on h =
      let p = if-some (nat_le (length o.operands) 1 && is_none o.user && not (has_values o)) Receive mode h in
      let a = and_parts (nat_le (length o.operands) 1 && is_none o.user) (not (has_values o)) p.0 in
      let b = and_parts (nat_le (length o.operands) 1) (is_none o.user) a.0 in
      subst (Asks o) p.1
      (record { operands = inr (on, leb-true (length o.operands) 1 b.0); user = (λ f. none-of o.user b.1); tries = none; exists = off; draft = no-draft (is-off (has_values o) a.1) })
  asked-folder mode none off false closed h = asked-operands mode none off closed (length o.operands == 0) refl h

  asked-without : (mode : Mode) → o.tries ≡ None → (b : Bool) → o.exists ≡ b → by_exists o b ≡ Some mode → Asks o mode
  asked-without mode none true on h = let p = if-some (is_alone o) Exists mode h in subst (Asks o) p.1 (record { tries = none; exists = on; bare = bare-of p.0 })
  asked-without mode none false off h = asked-folder mode none off o.folder refl h

  asked : (mode : Mode) → mode_of o ≡ Some mode → Asks o mode
  asked mode is = go o.tries refl is
    where
      go : (t : Option (List ℕ)) → o.tries ≡ t → mode_with t o ≡ Some mode → Asks o mode
      go (Some text) given h = asked-try text mode given h
      go None none h = asked-without mode none o.exists refl h

  -- ---- what is asked for is the mode
  without-tries : o.tries ≡ None → mode_of o ≡ mode_without_tries o
  without-tries none = ap (λ (t : Option (List ℕ)). mode_with t o) none

  at-most-one : (xs : List (List ℕ)) → xs ≡ [] → length xs ≤ 1
  at-most-one [] none = omega arith
  at-most-one (x ∷ xs) none = absurd (cc none)

  opened : IsReceive o → o.folder ≡ true → by_folder o o.folder ≡ Some Receive
  opened a on =
      let few : length o.operands ≤ 1 = elim a.operands [ inl none ↦ at-most-one o.operands none | inr is ↦ is.1 ] in
      cond-true _ _ _ on
      ∙ cond-true _ _ _ (and_from _ _ (and_from _ _ (le-leb (length o.operands) 1 few) (ap (λ (v : Option (List ℕ)). is_none v) (a.user on))) (ap not (draft-none a.draft)))

  plain : IsReceive o → o.folder ≡ false → (o.operands ≡ []) ⊎ ((o.folder ≡ true) × (length o.operands ≤ 1)) → by_folder o o.folder ≡ Some Receive
  plain a closed (inr is) = absurd (true≢false (sym is.0 ∙ closed))
  plain a closed (inl none) =
      cond-false _ _ _ closed
      ∙ cond-true _ _ _ (eq-eqb (length o.operands) 0 (ap (λ (l : List (List ℕ)). length l) none))
      ∙ cond-false _ _ _ (draft-none a.draft)

  receive : IsReceive o → by_folder o o.folder ≡ Some Receive
  receive a = elim (cases_Bool o.folder) [ inl on ↦ opened a on | inr closed ↦ plain a closed a.operands ]

  asking : (mode : Mode) → Asks o mode → mode_of o ≡ Some mode
  asking (Try count) a =
      ap (λ (t : Option (List ℕ)). mode_with t o) a.tries
      ∙ cond-false _ _ _
      (or-none (o.exists || o.ignores || o.no_system_file) (not (is_alone o))
      (or-none (o.exists || o.ignores) o.no_system_file (or-none o.exists o.ignores a.exists a.ignores) a.no_system_file) (ap not (alone-of a.bare)))
      ∙ tries-it (decimal count) count refl a.least a.most
  asking Exists a = without-tries a.tries ∙ cond-true _ _ _ a.exists ∙ cond-true _ _ _ (alone-of a.bare)
  asking Receive a = without-tries a.tries ∙ cond-false _ _ _ a.exists ∙ receive a
  asking Send a =
      without-tries a.tries ∙ cond-false _ _ _ a.exists ∙ cond-false _ _ _ a.folder ∙ cond-false _ _ _ (filled o.operands a.operands)
      ∙ cond-false _ _ _ (or-none (o.headers || o.quiet) (is_some o.user) (or-none o.headers o.quiet a.headers a.quiet) (ap (λ (v : Option (List ℕ)). is_some v) a.user))

pub modes-are-asked : ModesAreAsked
modes-are-asked o mode = (asked o mode, asking o mode)

wanted-asked : (o : Options) (found : Option Mode) (wanted : Wanted) → mode_of o ≡ found
    → option_map (λ (m : Mode). let w : Wanted = record { mode = m; options = o } in w) found ≡ Some wanted → Asks wanted.options wanted.mode
wanted-asked o None wanted is h = absurd (cc h)
wanted-asked o (Some mode) wanted is h =
    let made : Wanted = record { mode = mode; options = o } in
    let same : made ≡ wanted = ap (λ (w : Option Wanted). unwrap_or w made) h in
    subst (λ (w : Wanted). Asks w.options w.mode) same (asked o mode is)

pub wanted-is-asked : WantedIsAsked
wanted-is-asked words wanted is = go (list_all is_utf8 words && reads words) is
  where
    go : (b : Bool) → (if b then wanted_by (options_of (matches_of mailx words)) else None) ≡ Some wanted → Asks wanted.options wanted.mode
    go true h = wanted-asked (options_of (matches_of mailx words)) (mode_of (options_of (matches_of mailx words))) wanted refl h
    go false h = absurd (cc h)
