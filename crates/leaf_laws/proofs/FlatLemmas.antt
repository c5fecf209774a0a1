-- A summary line of a row of a text has no line feed.
use Rattle.std.proofs.Common.{◌≡◌, ◌≢◌, ℕ, zero, suc, ◌+◌, ◌-◌, ◌*◌, ◌/◌, ◌%◌, ◌==◌, Bool, true, false, not, List, [], ◌∷◌, ◌++◌, length, take, drop, map, codes, decimal, replicate, inl, inr, refl, sym, ap, subst, ◌∙◌, append_assoc, true≢false, arith, eq-eqb, filter}
use Rattle.std.specs.Prelude.{◌&&◌, if◌then◌else◌, min, nat_lt, slice_get, slice_index_or}
use Rattle.std.specs.declared.option.Option.{Option}
use Rattle.std.specs.declared.option.Option.TheVariants.{Some, None}
use Rattle.std.specs.List.{Contains, flat_map, list_all, onto_first, slice_split}
use Rattle.std.specs.Fmt.{digit_glyph, digits, digits_onto}
use Rattle.std.proofs.lemmas.Bool.{and_from, and_parts, ne_eqb}
use Rattle.std.proofs.lemmas.List.Elements.{All-cons, All-head, All-nil, All-tail}
use Rattle.std.proofs.lemmas.List.Folds.{list_all-append}
use Rattle.mail_text.specs.Ascii.{is_blank}
use Rattle.mail_text.specs.Lines.{HasNoFeed, in_front, lines_of, with_feed}
use Rattle.mail_text.proofs.LineLemmas.{lines_of-byte, lines_of-feed, lines_of-nil}
use Rattle.mail_headers.specs.Field.{Field, trim_end, trim_start, unfolded, unless_last_blank, without_feeds}
use Rattle.mail_headers.specs.Header.{field_named, from_line}
use Rattle.mail_addresses.specs.declared.address.Address.{Address}
use Rattle.mail_addresses.specs.Lexical.{Lexeme, mark, quoted, text_of, texts}
use Rattle.mail_addresses.specs.Forms.{GivesSpec, IsDisplayName, IsMailbox, IsName, part_text, unescaped}
use Rattle.mail_addresses.specs.Listing.{Gives, IsFirstAddress, Lists, Reads, Spells, SpellsMailbox, joined, pieces}
use Rattle.mail_addresses.proofs.BalanceLemmas.{pieces_joined}
use Rattle.mail_dates.specs.declared.moment.Moment.{Moment}
use Rattle.mail_dates.specs.FromLines.{is_not_empty, sender_first, sender_of, words_of}
use Rattle.mail_dates.specs.Messages.{after_from}
use Rattle.mail_dates.specs.Names.{day_name, day_names, month_name, month_names}
use Rattle.mail_dates.specs.Printed.{clock_text, short_date_form, two, two_places}
use Rattle.message_state.specs.declared.mark.Flags.{Flags}
use Rattle.message_state.specs.declared.mark.State.{State}
use Rattle.message_state.specs.declared.mark.State.TheVariants.{New, Unread, Read}
use Rattle.message_state.specs.declared.row.Row.{Row}
use Rattle.message_state.specs.declared.shown.Shown.{Shown}
use Rattle.message_state.specs.Rows.{IsFirstOf, IsRow, name_or, value_or_empty}
use Rattle.message_state.proofs.TextLines.{from_line-apart}
use Rattle.message_show.specs.Summary.{columns, date_column, depth_of, left_in, letter_by, mark_letter, right_in, spaces, steps_column, summary, summary_of}
use Rattle.leaf_laws.specs.Lines.{AreRows, PageIsLines, SummaryIsALine}

-- ---- bytes without a line feed
abbrev is_other : ℕ → Bool
is_other b = not (b == 10)

abbrev flat : List ℕ → Bool
flat bs = list_all is_other bs

flat-both : (a b : List ℕ) → flat a ≡ true → flat b ≡ true → flat (a ++ b) ≡ true
flat-both a b p q = list_all-append is_other a b ∙ and_from (flat a) (flat b) p q

-- the same as a record, whose list is found
record IsFlat (bs : List ℕ) : Type 0 where
  holds : flat bs ≡ true

flat-join : {a b : List ℕ} → IsFlat a → IsFlat b → IsFlat (a ++ b)
flat-join {a} {b} p q = record { holds = flat-both a b p.holds q.holds }

is-flat : (bs : List ℕ) → flat bs ≡ true → IsFlat bs
is-flat bs h = record { holds = h }

flat-space : IsFlat (codes " ")
flat-space = record { holds = refl }

flat-parts : (a b : List ℕ) → flat (a ++ b) ≡ true → (flat a ≡ true) × (flat b ≡ true)
flat-parts a b h = and_parts (flat a) (flat b) (sym (list_all-append is_other a b) ∙ h)

flat-take : (n : ℕ) (bs : List ℕ) → flat bs ≡ true → flat (take n bs) ≡ true
flat-take zero bs h = refl
flat-take (suc n) [] h = refl
flat-take (suc n) (b ∷ bs) h = let p = and_parts (is_other b) (flat bs) h in and_from (is_other b) (flat (take n bs)) p.0 (flat-take n bs p.1)

flat-drop : (n : ℕ) (bs : List ℕ) → flat bs ≡ true → flat (drop n bs) ≡ true
flat-drop zero bs h = h
flat-drop (suc n) [] h = refl
flat-drop (suc n) (b ∷ bs) h = let p = and_parts (is_other b) (flat bs) h in flat-drop n bs p.1

flat-spaces : (n : ℕ) → flat (replicate n 32) ≡ true
flat-spaces zero = refl
flat-spaces (suc n) = flat-spaces n

is-other : (b : ℕ) → b ≢ 10 → is_other b ≡ true
is-other b h = ap not (ne_eqb b 10 h)

from-lines : (bs : List ℕ) → HasNoFeed bs → flat bs ≡ true
from-lines [] h = refl
from-lines (b ∷ bs) h = and_from (is_other b) (flat bs) (is-other b (All-head (λ c. c ≢ 10) b bs h)) (from-lines bs (All-tail (λ c. c ≢ 10) b bs h))

to-lines : (bs : List ℕ) → flat bs ≡ true → HasNoFeed bs
to-lines [] h = All-nil (λ c. c ≢ 10)
to-lines (b ∷ bs) h =
    let p = and_parts (is_other b) (flat bs) h in
    All-cons (λ c. c ≢ 10) b bs (λ e. true≢false (sym p.0 ∙ ap not (eq-eqb b 10 e))) (to-lines bs p.1)

-- ---- values of fields
flat-filter : (bs : List ℕ) → flat (without_feeds bs) ≡ true
flat-filter [] = refl
flat-filter (b ∷ bs) = go (is_other b) refl (flat-filter bs)
  where
    go : (c : Bool) → is_other b ≡ c → flat (without_feeds bs) ≡ true → flat (if c then b ∷ without_feeds bs else without_feeds bs) ≡ true
    go true is rest = and_from (is_other b) (flat (without_feeds bs)) is rest
    go false is rest = rest

flat-start : (bs : List ℕ) → flat bs ≡ true → flat (trim_start bs) ≡ true
unfolding trim_start
flat-start [] h = h
flat-start (b ∷ bs) h = let p = and_parts (is_other b) (flat bs) h in go (is_blank b) (flat-start bs p.1)
  where
    go : (c : Bool) → flat (trim_start bs) ≡ true → flat (if c then trim_start bs else b ∷ bs) ≡ true
    go true rest = rest
    go false rest = h

flat-last : (b : ℕ) (rest : List ℕ) → is_other b ≡ true → flat rest ≡ true → flat (unless_last_blank b rest) ≡ true
flat-last b [] p h = go (is_blank b)
  where
    go : (c : Bool) → flat (if c then [] else b ∷ []) ≡ true
    go true = refl
    go false = and_from (is_other b) true p refl
flat-last b (c ∷ cs) p h = and_from (is_other b) (flat (c ∷ cs)) p h

flat-end : (bs : List ℕ) → flat bs ≡ true → flat (trim_end bs) ≡ true
unfolding trim_end
flat-end [] h = h
flat-end (b ∷ bs) h = let p = and_parts (is_other b) (flat bs) h in flat-last b (trim_end bs) p.0 (flat-end bs p.1)

flat-unfolded : (f : Field) → flat (unfolded f) ≡ true
flat-unfolded f = flat-end (trim_start (without_feeds f.value)) (flat-start (without_feeds f.value) (flat-filter f.value))

flat-value : (found : Option Field) → flat (value_or_empty found) ≡ true
flat-value None = refl
flat-value (Some f) = flat-unfolded f

-- ---- addresses
abbrev token_flat : Lexeme → Bool
token_flat t = flat (text_of t)

abbrev tokens_flat : List Lexeme → Bool
tokens_flat ts = list_all token_flat ts

abbrev address_flat : Address → Bool
address_flat a = flat a.spec && flat a.name

flat-tokens : (ts : List Lexeme) → flat (texts ts) ≡ true → tokens_flat ts ≡ true
unfolding texts
flat-tokens [] h = refl
flat-tokens (t ∷ ts) h = let p = flat-parts (text_of t) (texts ts) h in and_from (token_flat t) (tokens_flat ts) p.0 (flat-tokens ts p.1)

flat-texts : (ts : List Lexeme) → tokens_flat ts ≡ true → flat (texts ts) ≡ true
unfolding texts
flat-texts [] h = refl
flat-texts (t ∷ ts) h = let p = and_parts (token_flat t) (tokens_flat ts) h in flat-both (text_of t) (texts ts) p.0 (flat-texts ts p.1)

tokens-parts : (ts us : List Lexeme) → tokens_flat (ts ++ us) ≡ true → (tokens_flat ts ≡ true) × (tokens_flat us ≡ true)
tokens-parts ts us h = and_parts (tokens_flat ts) (tokens_flat us) (sym (list_all-append token_flat ts us) ∙ h)

-- what stands before a mark, and what stands after it
around-mark : (c : ℕ) (ts us : List Lexeme) → tokens_flat (ts ++ mark c ∷ us) ≡ true → (tokens_flat ts ≡ true) × (tokens_flat us ≡ true)
around-mark c ts us h =
    let p = tokens-parts ts (mark c ∷ us) h in
    let q = and_parts (token_flat (mark c)) (tokens_flat us) p.1 in
    (p.0, q.1)

tokens-joined : (ps : List (List Lexeme)) → tokens_flat (joined ps) ≡ true → list_all tokens_flat ps ≡ true
tokens-joined [] h = refl
tokens-joined (p ∷ []) h = and_from (tokens_flat p) true h refl
tokens-joined (p ∷ q ∷ ps) h =
    let parts = around-mark 44 p (joined (q ∷ ps)) h in
    and_from (tokens_flat p) (list_all tokens_flat (q ∷ ps)) parts.0 (tokens-joined (q ∷ ps) parts.1)

pieces-flat : (ts : List Lexeme) → tokens_flat ts ≡ true → list_all tokens_flat (pieces ts) ≡ true
pieces-flat ts h = tokens-joined (pieces ts) (subst (λ (us : List Lexeme). tokens_flat us ≡ true) (sym (pieces_joined _ ts)) h)

flat-spec : (ts : List Lexeme) (a : Address) → GivesSpec ts a → tokens_flat ts ≡ true → flat a.spec ≡ true
flat-spec ts a is h =
    let p = tokens-parts is.before (is.spec ++ is.after) (subst (λ (us : List Lexeme). tokens_flat us ≡ true) is.whole h) in
    let q = tokens-parts is.spec is.after p.1 in
    ap (λ (bs : List ℕ). flat bs) is.text ∙ flat-texts is.spec q.0

flat-unescaped : (escaped : Bool) (bs : List ℕ) → flat bs ≡ true → flat (unescaped escaped bs) ≡ true
unfolding unescaped
flat-unescaped true [] h = refl
flat-unescaped false [] h = refl
flat-unescaped true (b ∷ bs) h = let p = and_parts (is_other b) (flat bs) h in and_from (is_other b) (flat (unescaped false bs)) p.0 (flat-unescaped false bs p.1)
flat-unescaped false (b ∷ bs) h =
    let p = and_parts (is_other b) (flat bs) h in
    go (b == 92) (flat-unescaped true bs p.1) (and_from (is_other b) (flat (unescaped false bs)) p.0 (flat-unescaped false bs p.1))
  where
    go : (c : Bool) → flat (unescaped true bs) ≡ true → flat (b ∷ unescaped false bs) ≡ true → flat (if c then unescaped true bs else b ∷ unescaped false bs) ≡ true
    go true taken whole = taken
    go false taken whole = whole

flat-part : (t : Lexeme) → token_flat t ≡ true → flat (part_text t) ≡ true
flat-part (quoted inside) h = let p = flat-parts inside (34 ∷ []) h in flat-unescaped false inside p.0
flat-part t h = h

flat-name : {ts : List Lexeme} {text : List ℕ} → IsName ts text → tokens_flat ts ≡ true → flat text ≡ true
flat-name (IsName.one {t} part) h = let p = and_parts (token_flat t) true h in flat-part t p.0
flat-name (IsName.beside {t} {ts} {text} part rest) h =
    let p = and_parts (token_flat t) (tokens_flat ts) h in
    flat-both (part_text t) text (flat-part t p.0) (flat-name rest p.1)
flat-name (IsName.apart {t} {ts} {text} gaps part some are rest) h =
    let p = and_parts (token_flat t) (tokens_flat (gaps ++ ts)) h in
    let q = tokens-parts gaps ts p.1 in
    flat-both (part_text t) (32 ∷ text) (flat-part t p.0) (flat-name rest q.1)

flat-display : (ts : List Lexeme) (name : List ℕ) → IsDisplayName ts name → tokens_flat ts ≡ true → flat name ≡ true
flat-display ts name (inl none) h = ap (λ (bs : List ℕ). flat bs) none.1
flat-display ts name (inr is) h =
    let p = tokens-parts is.before (is.name ++ is.after) (subst (λ (us : List Lexeme). tokens_flat us ≡ true) is.whole h) in
    let q = tokens-parts is.name is.after p.1 in
    flat-name is.is_name q.0

flat-mailbox : (ts : List Lexeme) (a : Address) → IsMailbox ts a → tokens_flat ts ≡ true → address_flat a ≡ true
flat-mailbox ts a (inl bare) h = and_from (flat a.spec) (flat a.name) (flat-spec ts a bare.0 h) (ap (λ (bs : List ℕ). flat bs) bare.1)
flat-mailbox ts a (inr (front, (back, whole, is))) h =
    let p = around-mark 60 front back (subst (λ (us : List Lexeme). tokens_flat us ≡ true) whole h) in
    let q = around-mark 62 is.inside is.after (subst (λ (us : List Lexeme). tokens_flat us ≡ true) is.whole p.1) in
    and_from (flat a.spec) (flat a.name) (flat-spec is.inside a is.gives_spec q.0) (flat-display front a.name is.named p.0)

flat-one : (piece : List Lexeme) (list : List Address) → SpellsMailbox piece list → tokens_flat piece ≡ true → list_all address_flat list ≡ true
flat-one piece list (a, is, mailbox) h = ap (list_all address_flat) is ∙ and_from (address_flat a) true (flat-mailbox piece a mailbox h) refl

module _ (Form : List Lexeme → List Address → Type 0) (each : (piece : List Lexeme) (list : List Address) → Form piece list → tokens_flat piece ≡ true → list_all address_flat list ≡ true) where
  flat-gives : (piece : List Lexeme) (list : List Address) → Gives Form piece list → tokens_flat piece ≡ true → list_all address_flat list ≡ true
  flat-gives piece list (inl none) h = ap (list_all address_flat) none.1
  flat-gives piece list (inr form) h = each piece list form h

  flat-lists : (ps : List (List Lexeme)) (list : List Address) → Lists Form ps list → list_all tokens_flat ps ≡ true → list_all address_flat list ≡ true
  flat-lists [] list is h = ap (list_all address_flat) is
  flat-lists (p ∷ ps) list (here, (later, whole, gives, lists)) h =
      let parts = and_parts (tokens_flat p) (list_all tokens_flat ps) h in
      ap (list_all address_flat) whole
      ∙ list_all-append address_flat here later
      ∙ and_from (list_all address_flat here) (list_all address_flat later) (flat-gives p here gives parts.0) (flat-lists ps later lists parts.1)

flat-spells : (piece : List Lexeme) (list : List Address) → Spells piece list → tokens_flat piece ≡ true → list_all address_flat list ≡ true
flat-spells piece list (inl one) h = flat-one piece list one h
flat-spells piece list (inr (front, (back, whole, is))) h =
    let p = around-mark 58 front back (subst (λ (us : List Lexeme). tokens_flat us ≡ true) whole h) in
    let q = around-mark 59 is.inside is.after (subst (λ (us : List Lexeme). tokens_flat us ≡ true) is.whole p.1) in
    flat-lists SpellsMailbox flat-one (pieces is.inside) list is.lists (pieces-flat is.inside q.0)

flat-read : (value : List ℕ) (list : List Address) → Reads value list → flat value ≡ true → list_all address_flat list ≡ true
flat-read value list is h =
    flat-lists Spells flat-spells (pieces is.tokens) list is.lists
    (pieces-flat is.tokens (flat-tokens is.tokens (ap (λ (bs : List ℕ). flat bs) is.are_tokens.joined ∙ h)))

abbrev found_flat : Option Address → Bool
found_flat None = true
found_flat (Some a) = address_flat a

first-flat : (list : List Address) → list_all address_flat list ≡ true → found_flat (slice_get list 0) ≡ true
first-flat [] h = refl
first-flat (a ∷ others) h = let p = and_parts (address_flat a) (list_all address_flat others) h in p.0

flat-first : (value : List ℕ) (found : Option Address) → IsFirstAddress value found → flat value ≡ true → found_flat found ≡ true
flat-first value found (inl (list, reads, is)) h = ap (λ (f : Option Address). found_flat f) is ∙ first-flat list (flat-read value list reads h)
flat-first value found (inr (at, fault, is)) h = ap (λ (f : Option Address). found_flat f) is

flat-found : (field : Option Field) (found : Option Address) → IsFirstOf field found → found_flat found ≡ true
flat-found None found is = ap (λ (f : Option Address). found_flat f) is
flat-found (Some f) found is = flat-first (unfolded f) found is (flat-unfolded f)

-- ---- the sender of a From line
words-flat : (line : List ℕ) → flat line ≡ true → list_all flat (slice_split is_blank line) ≡ true
words-flat [] h = refl
words-flat (b ∷ bs) h = let p = and_parts (is_other b) (flat bs) h in go (is_blank b) (words-flat bs p.1)
  where
    onto : (parts : List (List ℕ)) → list_all flat parts ≡ true → list_all flat (onto_first b parts) ≡ true
    onto [] k = let p = and_parts (is_other b) (flat bs) h in and_from (flat (b ∷ [])) true (and_from (is_other b) true p.0 refl) refl
    onto (part ∷ parts) k =
        let p = and_parts (is_other b) (flat bs) h in
        let q = and_parts (flat part) (list_all flat parts) k in
        and_from (flat (b ∷ part)) (list_all flat parts) (and_from (is_other b) (flat part) p.0 q.0) q.1

    go : (c : Bool) → list_all flat (slice_split is_blank bs) ≡ true → list_all flat (if c then [] ∷ slice_split is_blank bs else onto_first b (slice_split is_blank bs)) ≡ true
    go true rest = rest
    go false rest = onto (slice_split is_blank bs) rest

some-flat : (ws : List (List ℕ)) → list_all flat ws ≡ true → list_all flat (filter is_not_empty ws) ≡ true
some-flat [] h = refl
some-flat (w ∷ ws) h = let p = and_parts (flat w) (list_all flat ws) h in go (is_not_empty w) p.0 (some-flat ws p.1)
  where
    go : (c : Bool) → flat w ≡ true → list_all flat (filter is_not_empty ws) ≡ true → list_all flat (if c then w ∷ filter is_not_empty ws else filter is_not_empty ws) ≡ true
    go true first rest = and_from (flat w) (list_all flat (filter is_not_empty ws)) first rest
    go false first rest = rest

first-word : (ws : List (List ℕ)) → list_all flat ws ≡ true → flat (sender_first ws) ≡ true
first-word [] h = refl
first-word (w ∷ ws) h = let p = and_parts (flat w) (list_all flat ws) h in p.0

flat-sender : (line : List ℕ) → flat line ≡ true → flat (sender_of line) ≡ true
unfolding words_of
flat-sender line h = first-word (filter is_not_empty (slice_split is_blank line)) (some-flat (slice_split is_blank line) (words-flat line h))

flat-shown : (found : Option Address) (sender : List ℕ) → found_flat found ≡ true → flat sender ≡ true → flat (name_or sender found) ≡ true
flat-shown None sender h k = k
flat-shown (Some a) sender h k = go (length a.name == 0)
  where
    go : (c : Bool) → flat (if c then a.spec else a.name) ≡ true
    go true = let p = and_parts (flat a.spec) (flat a.name) h in p.0
    go false = let p = and_parts (flat a.spec) (flat a.name) h in p.1

-- ---- the other columns
flat-two : (n : ℕ) → flat (two n) ≡ true
flat-two n =
    and_from (is_other (48 + n / 10)) (flat ((48 + n % 10) ∷ [])) (is-other (48 + n / 10) (λ e. absurd (omega arith)))
    (and_from (is_other (48 + n % 10)) true (is-other (48 + n % 10) (λ e. absurd (omega arith))) refl)

flat-places : (n : ℕ) → flat (two_places n) ≡ true
flat-places n = go (nat_lt n 10)
  where
    go : (c : Bool) → flat (if c then 32 ∷ (48 + n) ∷ [] else two n) ≡ true
    go true = and_from (is_other (48 + n)) true (is-other (48 + n) (λ e. absurd (omega arith))) refl
    go false = flat-two n

flat-clock : (s : ℕ) → flat (clock_text s) ≡ true
flat-clock s =
    flat-both (two (s / 3600)) (codes ":" ++ two (s / 60 % 60) ++ codes ":" ++ two (s % 60)) (flat-two (s / 3600))
    (flat-both (codes ":") (two (s / 60 % 60) ++ codes ":" ++ two (s % 60)) refl
    (flat-both (two (s / 60 % 60)) (codes ":" ++ two (s % 60)) (flat-two (s / 60 % 60)) (flat-both (codes ":") (two (s % 60)) refl (flat-two (s % 60)))))

names-flat : (ws : List (List ℕ)) → list_all flat ws ≡ true → (i : ℕ) → flat (slice_index_or ws i []) ≡ true
names-flat [] h i = refl
names-flat (w ∷ ws) h zero = let p = and_parts (flat w) (list_all flat ws) h in p.0
names-flat (w ∷ ws) h (suc i) = let p = and_parts (flat w) (list_all flat ws) h in names-flat ws p.1 i

flat-day : (n : ℕ) → flat (day_name n) ≡ true
unfolding day_name
flat-day n = names-flat day_names refl n

flat-month : (n : ℕ) → flat (month_name n) ≡ true
unfolding month_name
flat-month n = names-flat month_names refl (n - 1)

flat-form : (weekday day month seconds : ℕ) → flat (short_date_form weekday day month seconds) ≡ true
unfolding short_date_form
flat-form weekday day month seconds =
    let named = flat-join (is-flat (day_name weekday) (flat-day weekday)) flat-space in
    let month_too = flat-join (flat-join named (is-flat (month_name month) (flat-month month))) flat-space in
    let day_too = flat-join (flat-join month_too (is-flat (two_places day) (flat-places day))) flat-space in
    let all = flat-join day_too (is-flat (take 5 (clock_text seconds)) (flat-take 5 (clock_text seconds) (flat-clock seconds))) in
    all.holds

flat-date : (moment : Option Moment) → flat (date_column moment) ≡ true
unfolding spaces
flat-date None = flat-spaces 16
flat-date (Some m) = flat-form _ _ _ _

flag-letter : (letter : List ℕ) (a b c : Bool) → flat letter ≡ true → flat (if a then codes "F" else (if b then codes "A" else (if c then codes "T" else letter))) ≡ true
flag-letter letter true b c h = refl
flag-letter letter false true c h = refl
flag-letter letter false false true h = refl
flag-letter letter false false false h = h

flat-letter : (state : State) (flags : Flags) → flat (letter_by state flags) ≡ true
flat-letter New flags = flag-letter (codes "N") flags.flagged flags.answered flags.draft refl
flat-letter Unread flags = flag-letter (codes "U") flags.flagged flags.answered flags.draft refl
flat-letter Read flags = flag-letter (codes "R") flags.flagged flags.answered flags.draft refl
flat-letter other flags = refl

is-glyph : (d : ℕ) → is_other (digit_glyph false d) ≡ true
is-glyph d = go (nat_lt d 10)
  where
    go : (c : Bool) → is_other (if c then 48 + d else 87 + d) ≡ true
    go true = is-other (48 + d) (λ e. absurd (omega arith))
    go false = is-other (87 + d) (λ e. absurd (omega arith))

flat-onto : (k n : ℕ) (acc : List ℕ) → flat acc ≡ true → flat (digits_onto k 10 false n acc) ≡ true
flat-onto zero n acc h = h
flat-onto (suc k) n acc h =
    let more : flat (digit_glyph false (n % 10) ∷ acc) ≡ true = and_from (is_other (digit_glyph false (n % 10))) (flat acc) (is-glyph (n % 10)) h in
    go (n / 10 == 0) more (flat-onto k (n / 10) (digit_glyph false (n % 10) ∷ acc) more)
  where
    go : (c : Bool) → flat (digit_glyph false (n % 10) ∷ acc) ≡ true → flat (digits_onto k 10 false (n / 10) (digit_glyph false (n % 10) ∷ acc)) ≡ true
        → flat (if c then digit_glyph false (n % 10) ∷ acc else digits_onto k 10 false (n / 10) (digit_glyph false (n % 10) ∷ acc)) ≡ true
    go true more rest = more
    go false more rest = rest

flat-decimal : (n : ℕ) → flat (decimal n) ≡ true
unfolding digits
flat-decimal n = flat-onto 64 n [] refl

flat-left : (places : ℕ) (text : List ℕ) → flat text ≡ true → flat (left_in places text) ≡ true
unfolding spaces
flat-left places text h = flat-both text (replicate (places - length text) 32) h (flat-spaces (places - length text))

flat-right : (places : ℕ) (text : List ℕ) → flat text ≡ true → flat (right_in places text) ≡ true
unfolding spaces
flat-right places text h = flat-both (replicate (places - length text) 32) text (flat-spaces (places - length text)) h

flat-steps : (depth : ℕ) → flat (steps_column depth) ≡ true
unfolding spaces
flat-steps depth = flat-spaces (2 * min depth 10)

flat-current : (c : Bool) → flat (if c then codes ">" else codes " ") ≡ true
flat-current true = refl
flat-current false = refl

-- ---- the line
module _ (t : List ℕ) (row : Row) (is : IsRow t row) where
  flat-author : flat row.texts.shown_author ≡ true
  flat-author =
      let author = is.texts.author in
      let line : flat (after_from t) ≡ true = flat-drop 5 (from_line t) (from-lines (from_line t) (from_line-apart t)) in
      ap (λ (bs : List ℕ). flat bs) author.3 ∙ flat-shown author.0 (sender_of (after_from t)) (flat-found (field_named (codes "From") t) author.0 author.1) (flat-sender (after_from t) line)

  flat-subject : flat row.texts.subject ≡ true
  flat-subject = ap (λ (bs : List ℕ). flat bs) is.texts.subject ∙ flat-value (field_named (codes "Subject") t)

  flat-columns : (current number depth : ℕ) → flat (columns current number depth row) ≡ true
  unfolding columns
  flat-columns current number depth =
      let state = flat-join (is-flat (if number == current then codes ">" else codes " ") (flat-current (number == current))) (is-flat (mark_letter row.mark) (flat-letter row.mark.state row.mark.flags)) in
      let numbered = flat-join (flat-join state (is-flat (right_in 4 (decimal number)) (flat-right 4 (decimal number) (flat-decimal number)))) flat-space in
      let shown = is-flat (left_in 18 (take 18 row.texts.shown_author)) (flat-left 18 (take 18 row.texts.shown_author) (flat-take 18 row.texts.shown_author flat-author)) in
      let named = flat-join (flat-join numbered shown) flat-space in
      let dated = flat-join (flat-join named (is-flat (date_column row.moment) (flat-date row.moment))) flat-space in
      let sized = flat-join (flat-join dated (is-flat (right_in 6 (decimal row.size)) (flat-right 6 (decimal row.size) (flat-decimal row.size)))) flat-space in
      let all = flat-join sized (is-flat (steps_column depth) (flat-steps depth)) in
      all.holds

  flat-summary : (current number depth width : ℕ) → flat (summary_of current number depth (Some row) width) ≡ true
  flat-summary current number depth width =
      flat-take (width - 1) (columns current number depth row ++ row.texts.subject)
      (flat-both (columns current number depth row) row.texts.subject (flat-columns current number depth) flat-subject)

pub summary-is-a-line : SummaryIsALine
summary-is-a-line t row current number depth width is = to-lines (summary_of current number depth (Some row) width) (flat-summary t row is current number depth width)

-- ---- the page
fed-line : (l x : List ℕ) → flat l ≡ true → lines_of (l ++ 10 ∷ x) ≡ l ∷ lines_of x
fed-line [] x h = lines_of-feed 10 x refl
fed-line (b ∷ l) x h =
    let p = and_parts (is_other b) (flat l) h in
    lines_of-byte b (l ++ 10 ∷ x) (is-off (b == 10) p.0) ∙ ap (in_front b) (fed-line l x p.1)
  where
    is-off : (c : Bool) → not c ≡ true → c ≡ false
    is-off true k = absurd (true≢false (sym k))
    is-off false k = refl

row-there : {A : Type 0} (xs : List A) (i : ℕ) (x : A) → slice_get xs i ≡ Some x → Contains xs x
row-there [] i x is = absurd (cc is)
row-there (y ∷ ys) zero x is = (0, omega arith, cc is)
row-there (y ∷ ys) (suc i) x is = let there : Contains ys x = row-there ys i x is in (suc there.0, omega arith, there.2)

module _ (shown : Shown) (width : ℕ) (are : AreRows shown) where
  flat-found-row : (k : ℕ) (found : Option Row) → slice_get shown.rows (k - 1) ≡ found → flat (summary_of shown.current k (depth_of shown k) found width) ≡ true
  flat-found-row k None is = refl
  flat-found-row k (Some row) is =
      let of : (t : List ℕ) × IsRow t row = are row (row-there shown.rows (k - 1) row is) in
      flat-summary of.0 row of.1 shown.current k (depth_of shown k) width

  flat-line : (k : ℕ) → flat (summary shown k width) ≡ true
  unfolding summary
  flat-line k = flat-found-row k (slice_get shown.rows (k - 1)) refl

  page-lines : (ks : List ℕ) → lines_of (flat_map (λ k. with_feed (summary shown k width)) ks) ≡ map (λ k. summary shown k width) ks
  page-lines [] = lines_of-nil
  page-lines (k ∷ ks) =
      ap lines_of (append_assoc (summary shown k width) (10 ∷ []) (flat_map (λ j. with_feed (summary shown j width)) ks))
      ∙ fed-line (summary shown k width) (flat_map (λ j. with_feed (summary shown j width)) ks) (flat-line k)
      ∙ ap (λ (ls : List (List ℕ)). summary shown k width ∷ ls) (page-lines ks)

pub page-is-lines : PageIsLines
page-is-lines shown start count width are = page-lines shown width are (take count (drop start shown.order))
