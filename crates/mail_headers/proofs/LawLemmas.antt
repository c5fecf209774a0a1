-- The parts of a text make the text again, and the entries of a header its lines.
use Rattle.std.proofs.Common.{◌≡◌, ◌≢◌, ℕ, suc, ◌-◌, ◌<◌, Bool, true, false, ◌==◌, List, [], ◌∷◌, ◌++◌, length, drop, get_or, map, Option, Some, None, refl, sym, ap, ◌∙◌, arith, ⊎_elim, subst, append_assoc, append-nil, length-append, inl, inr, ◌⊎◌}
use Rattle.std.specs.List.{flat_map, take_while, join_with_byte}
use Rattle.std.proofs.lemmas.Bool.{cond-true, cond-false, false≢true, eqb-true, ne_eqb, cases_Bool, and_parts, and_cases}
use Rattle.std.proofs.lemmas.List.{append_cancel_right, get_or_append_left}
use Rattle.std.proofs.lemmas.List.Sums.{take_while-cons}
use Rattle.mail_text.specs.Lines.{lines_of, with_feed, fed}
use Rattle.mail_text.proofs.LineLemmas.{lines_of-nil, lines_of-some, flat_map-lines_of}
use Rattle.mail_headers.specs.Field.{is_folded, begins_field, name_length, field_of, field_bytes}
use Rattle.mail_headers.specs.Header.{first_line, from_line, has_two_feeds, header_lines, body_of, Entry, entry_bytes, entries_from, entries_of, text_of, EndsInNoFeed}
use Rattle.mail_headers.specs.Parts.{head_of}
use Rattle.mail_headers.proofs.EntryLemmas.{colon_split}
use Rattle.mail_headers.proofs.FieldLemmas.{HasName-begins, name_length-append, join-lines, is_folded-begins, entries_from-field, entries_from-folded, entries_from-other, entries_from-unfolded, entries_from-nil}
use Rattle.mail_headers.proofs.PartsLemmas.{HasHead-head_of}

-- ---- head and body

-- what stands after the head
abbrev rest_of : Option (List ℕ) → List ℕ
rest_of None = []
rest_of (Some body) = 10 ∷ 10 ∷ body

pub two_feeds_is : (b : ℕ) (bs : List ℕ) → has_two_feeds (b ∷ bs) ≡ true → b ∷ bs ≡ 10 ∷ 10 ∷ drop 1 bs
two_feeds_is b [] two = absurd (false≢true (and_parts (b == 10) false two).1)
two_feeds_is b (c ∷ cs) two =
    let parts = and_parts (b == 10) (c == 10) two in
    ap (λ (x : ℕ). x ∷ c ∷ cs) (eqb-true b 10 parts.0) ∙ ap (λ (x : ℕ). 10 ∷ x ∷ cs) (eqb-true c 10 parts.1)

-- head and body at two line feeds, and at another front
record HasTwo (b : ℕ) (bs : List ℕ) : Type 0 where
  is : b ∷ bs ≡ 10 ∷ 10 ∷ drop 1 bs
  head : head_of (b ∷ bs) ≡ []
  body : body_of (b ∷ bs) ≡ Some (drop 1 bs)

record HasOther (b : ℕ) (bs : List ℕ) : Type 0 where
  test : has_two_feeds (b ∷ bs) ≡ false
  head : head_of (b ∷ bs) ≡ b ∷ head_of bs
  body : body_of (b ∷ bs) ≡ body_of bs

cases_of : (b : ℕ) (bs : List ℕ) → HasTwo b bs ⊎ HasOther b bs
unfolding head_of body_of
cases_of b bs =
    ⊎_elim
    (λ two. inl (record { is = two_feeds_is b bs two; head = cond-true _ _ _ two; body = cond-true _ _ _ two }))
    (λ none. inr (record { test = none; head = cond-false _ _ _ none; body = cond-false _ _ _ none }))
    (cases_Bool (has_two_feeds (b ∷ bs)))

head_of-nil : head_of [] ≡ []
unfolding head_of
head_of-nil = refl

body_of-nil : body_of [] ≡ None
unfolding body_of
body_of-nil = refl

-- a text is its head, and where it has a body two line feeds and the body
pub head-rest : (t : List ℕ) → head_of t ++ rest_of (body_of t) ≡ t
head-rest [] = ap (λ (h : List ℕ). h ++ rest_of (body_of [])) head_of-nil ∙ ap rest_of body_of-nil
head-rest (b ∷ bs) =
    ⊎_elim
    (λ two. ap (λ (h : List ℕ). h ++ rest_of (body_of (b ∷ bs))) two.head ∙ ap rest_of two.body ∙ sym two.is)
    (λ other.
    ap (λ (h : List ℕ). h ++ rest_of (body_of (b ∷ bs))) other.head
    ∙ ap (λ (o : Option (List ℕ)). b ∷ (head_of bs ++ rest_of o)) other.body
    ∙ ap (λ (l : List ℕ). b ∷ l) (head-rest bs))
    (cases_of b bs)

-- the text has no line feed at its end
abbrev IsUnfed : List ℕ → Type 0
IsUnfed [] = Unit {0}
IsUnfed (b ∷ []) = (b == 10) ≡ false
IsUnfed (b ∷ c ∷ cs) = IsUnfed (c ∷ cs)

IsUnfed-more : (b : ℕ) (h : List ℕ) → IsUnfed h → (h ≡ [] → (b == 10) ≡ false) → IsUnfed (b ∷ h)
IsUnfed-more b [] unfed last = last refl
IsUnfed-more b (c ∷ cs) unfed last = unfed

-- the head of a text with a body has no line feed at its end
head_of-IsUnfed : (t body : List ℕ) → body_of t ≡ Some body → IsUnfed (head_of t)
head_of-IsUnfed [] body some = subst IsUnfed (sym head_of-nil) tt
head_of-IsUnfed (b ∷ bs) body some =
    ⊎_elim
    (λ two. subst IsUnfed (sym two.head) tt)
    (λ other.
    let later : body_of bs ≡ Some body = sym other.body ∙ some in
    subst IsUnfed (sym other.head) (IsUnfed-more b (head_of bs) (head_of-IsUnfed bs body later) (last b bs body other.test later)))
    (cases_of b bs) where
      last : (b : ℕ) (bs body : List ℕ) → has_two_feeds (b ∷ bs) ≡ false → body_of bs ≡ Some body → head_of bs ≡ [] → (b == 10) ≡ false
      last b [] body test later empty = let none : None ≡ Some body = sym body_of-nil ∙ later in absurd cc
      last b (c ∷ cs) body test later empty =
          ⊎_elim
          (λ two.
          let second : (c == 10) ≡ true = ap (λ (l : List ℕ). get_or l 0 0 == 10) two.is in
          ⊎_elim (λ first. first) (λ wrong. absurd (false≢true (sym wrong ∙ second))) (and_cases (b == 10) (c == 10) test))
          (λ other. let wrong : [] ≡ c ∷ head_of cs = sym empty ∙ other.head in absurd cc)
          (cases_of c cs)

-- so has a text whose last byte is none
EndsInNoFeed-IsUnfed : (t : List ℕ) → EndsInNoFeed t → IsUnfed t
EndsInNoFeed-IsUnfed [] ends = tt
EndsInNoFeed-IsUnfed (b ∷ []) ends = ne_eqb b 10 ends
EndsInNoFeed-IsUnfed (b ∷ c ∷ cs) ends =
    let place : length (b ∷ c ∷ cs) - 1 ≡ suc (length (c ∷ cs) - 1) = omega arith in
    EndsInNoFeed-IsUnfed (c ∷ cs) (λ e. ends (ap (λ (k : ℕ). get_or (b ∷ c ∷ cs) k 0) place ∙ e))

fed-IsUnfed : (b : ℕ) (bs : List ℕ) → IsUnfed (b ∷ bs) → fed (b ∷ bs) ≡ with_feed (b ∷ bs)
unfolding fed
fed-IsUnfed b [] unfed = cond-false _ _ _ unfed
fed-IsUnfed b (c ∷ cs) unfed = ap (λ (l : List ℕ). b ∷ l) (fed-IsUnfed c cs unfed)

-- the lines of a text with bytes are the first and the later ones
pub first-later : (b : ℕ) (bs : List ℕ) → (let ls = lines_of (b ∷ bs) in first_line ls ∷ drop 1 ls ≡ ls)
first-later b bs =
    let some = lines_of-some b bs in
    ap (λ (ls : List (List ℕ)). first_line ls ∷ drop 1 ls) some.is ∙ sym some.is

-- the lines of a text without a line feed at its end, each with one
fed-lines : (h : List ℕ) → IsUnfed h → (let ls = lines_of h in flat_map with_feed (first_line ls ∷ drop 1 ls) ≡ with_feed h)
fed-lines [] unfed = ap (λ (ls : List (List ℕ)). flat_map with_feed (first_line ls ∷ drop 1 ls)) lines_of-nil
fed-lines (b ∷ bs) unfed = ap (flat_map with_feed) (first-later b bs) ∙ flat_map-lines_of (b ∷ bs) ∙ fed-IsUnfed b bs unfed

-- From line and header's lines are those of the head
parts-head : (t : List ℕ) → (let ls = lines_of (head_of t) in from_line t ∷ header_lines t ≡ first_line ls ∷ drop 1 ls)
parts-head t =
    let has = HasHead-head_of t in
    ap (λ (l : List ℕ). l ∷ header_lines t) has.first ∙ ap (λ (ls : List (List ℕ)). first_line (lines_of (head_of t)) ∷ ls) has.later

pub parts-with_body : (t body : List ℕ) → body_of t ≡ Some body → flat_map with_feed (from_line t ∷ header_lines t) ++ 10 ∷ body ≡ t
parts-with_body t body some =
    ap (λ (ls : List (List ℕ)). flat_map with_feed ls ++ 10 ∷ body) (parts-head t)
    ∙ ap (λ (l : List ℕ). l ++ 10 ∷ body) (fed-lines (head_of t) (head_of-IsUnfed t body some))
    ∙ append_assoc (head_of t) (10 ∷ []) (10 ∷ body)
    ∙ ap (λ (o : Option (List ℕ)). head_of t ++ rest_of o) (sym some)
    ∙ head-rest t

head-whole : (t : List ℕ) → body_of t ≡ None → head_of t ≡ t
head-whole t none = sym (append-nil (head_of t)) ∙ ap (λ (o : Option (List ℕ)). head_of t ++ rest_of o) (sym none) ∙ head-rest t

pub parts-without_body : (t : List ℕ) → body_of t ≡ None → t ≢ [] → flat_map with_feed (from_line t ∷ header_lines t) ≡ fed t
parts-without_body [] none some = absurd (some refl)
parts-without_body (b ∷ bs) none some =
    ap (flat_map with_feed) (parts-head (b ∷ bs) ∙ ap (λ (h : List ℕ). first_line (lines_of h) ∷ drop 1 (lines_of h)) (head-whole (b ∷ bs) none) ∙ first-later b bs)
    ∙ flat_map-lines_of (b ∷ bs)

-- ---- joined by line feeds

-- a line with others after it, each with its line feed
feed-join : (l : List ℕ) (ls : List (List ℕ)) → with_feed (join_with_byte 10 (l ∷ ls)) ≡ flat_map with_feed (l ∷ ls)
feed-join l [] = sym (append-nil (with_feed l))
feed-join l (m ∷ ls) =
    append_assoc l (10 ∷ join_with_byte 10 (m ∷ ls)) (10 ∷ [])
    ∙ ap (λ (x : List ℕ). l ++ 10 ∷ x) (feed-join m ls)
    ∙ sym (append_assoc l (10 ∷ []) (flat_map with_feed (m ∷ ls)))

-- the lines of a text without a line feed at its end, joined
join-head : (t : List ℕ) → IsUnfed (head_of t) → join_with_byte 10 (from_line t ∷ header_lines t) ≡ head_of t
join-head t unfed =
    append_cancel_right _ _ (10 ∷ [])
    (feed-join (from_line t) (header_lines t) ∙ ap (flat_map with_feed) (parts-head t) ∙ fed-lines (head_of t) unfed)

text_of-is : (from : List ℕ) (lines : List (List ℕ)) (body : Option (List ℕ)) → text_of from lines body ≡ join_with_byte 10 (from ∷ lines) ++ rest_of body
text_of-is from lines None = sym (append-nil (join_with_byte 10 (from ∷ lines)))
text_of-is from lines (Some body) = refl

head-unfed : (t : List ℕ) (o : Option (List ℕ)) → body_of t ≡ o → IsUnfed t → IsUnfed (head_of t)
head-unfed t None none unfed = subst IsUnfed (sym (head-whole t none)) unfed
head-unfed t (Some body) some unfed = head_of-IsUnfed t body some

pub parts-joined : (t : List ℕ) → EndsInNoFeed t → text_of (from_line t) (header_lines t) (body_of t) ≡ t
parts-joined t ends =
    text_of-is (from_line t) (header_lines t) (body_of t)
    ∙ ap (λ (h : List ℕ). h ++ rest_of (body_of t)) (join-head t (head-unfed t (body_of t) refl (EndsInNoFeed-IsUnfed t ends)))
    ∙ head-rest t

-- ---- entries

-- the bytes of a line that begins a field, whatever follows it, are those of the field
field_bytes-field_of : (l more : List ℕ) → begins_field l ≡ true → field_bytes (field_of (l ++ more)) ≡ l ++ more
unfolding field_of
field_bytes-field_of l more begins =
    let has = HasName-begins l begins in
    let same : name_length (l ++ more) ≡ name_length l = name_length-append l more has.within in
    let inside : name_length (l ++ more) < length (l ++ more) = omega (arith, same, has.within, length-append l more) in
    let colon : get_or (l ++ more) (name_length (l ++ more)) 0 ≡ 58 =
    ap (λ (k : ℕ). get_or (l ++ more) k 0) same ∙ get_or_append_left l more 0 (name_length l) has.within ∙ has.colon in
    colon_split (l ++ more) (name_length (l ++ more)) inside colon

field_bytes-lines : (l : List ℕ) (ls : List (List ℕ)) → begins_field l ≡ true → with_feed (field_bytes (field_of (join_with_byte 10 (l ∷ ls)))) ≡ flat_map with_feed (l ∷ ls)
field_bytes-lines l ls begins =
    ap (λ (bs : List ℕ). with_feed (field_bytes (field_of bs))) (join-lines l ls)
    ∙ ap with_feed (field_bytes-field_of l (flat_map (λ (m : List ℕ). 10 ∷ m) ls) begins)
    ∙ ap with_feed (sym (join-lines l ls))
    ∙ feed-join l ls

-- the entries of some lines, each with a line feed
abbrev entries_text : Bool → List (List ℕ) → List ℕ
entries_text within ls = flat_map with_feed (map entry_bytes (entries_from within ls))

-- the folded lines at the front, where a field stands before
abbrev lead : Bool → List (List ℕ) → List (List ℕ)
lead true ls = take_while is_folded ls
lead false ls = []

lead-unfolded : (within : Bool) (l : List ℕ) (ls : List (List ℕ)) → is_folded l ≡ false → lead within (l ∷ ls) ≡ []
lead-unfolded true l ls unfolded = take_while-cons is_folded l ls ∙ cond-false _ _ _ unfolded
lead-unfolded false l ls unfolded = refl

entries-field : (within : Bool) (l : List ℕ) (ls : List (List ℕ)) → begins_field l ≡ true
    → flat_map with_feed (take_while is_folded ls) ++ entries_text true ls ≡ flat_map with_feed ls
    → flat_map with_feed (lead within (l ∷ ls)) ++ entries_text within (l ∷ ls) ≡ flat_map with_feed (l ∷ ls)
entries-field within l ls begins later =
    ap (λ (ms : List (List ℕ)). flat_map with_feed ms ++ entries_text within (l ∷ ls)) (lead-unfolded within l ls (is_folded-begins l begins))
    ∙ ap (λ (es : List Entry). flat_map with_feed (map entry_bytes es)) (entries_from-field within l ls begins)
    ∙ ap (λ (bs : List ℕ). bs ++ entries_text true ls) (field_bytes-lines l (take_while is_folded ls) begins)
    ∙ append_assoc (with_feed l) (flat_map with_feed (take_while is_folded ls)) (entries_text true ls)
    ∙ ap (λ (bs : List ℕ). with_feed l ++ bs) later

entries-folded : (l : List ℕ) (ls : List (List ℕ)) → is_folded l ≡ true
    → flat_map with_feed (take_while is_folded ls) ++ entries_text true ls ≡ flat_map with_feed ls
    → flat_map with_feed (take_while is_folded (l ∷ ls)) ++ entries_text true (l ∷ ls) ≡ flat_map with_feed (l ∷ ls)
entries-folded l ls folded later =
    ap (λ (ms : List (List ℕ)). flat_map with_feed ms ++ entries_text true (l ∷ ls)) (take_while-cons is_folded l ls ∙ cond-true _ _ _ folded)
    ∙ ap (λ (es : List Entry). (with_feed l ++ flat_map with_feed (take_while is_folded ls)) ++ flat_map with_feed (map entry_bytes es)) (entries_from-folded l ls folded)
    ∙ append_assoc (with_feed l) (flat_map with_feed (take_while is_folded ls)) (entries_text true ls)
    ∙ ap (λ (bs : List ℕ). with_feed l ++ bs) later

entries-other : (l : List ℕ) (ls : List (List ℕ)) → begins_field l ≡ false → entries_text false ls ≡ flat_map with_feed ls → entries_text false (l ∷ ls) ≡ flat_map with_feed (l ∷ ls)
entries-other l ls plain later =
    ap (λ (es : List Entry). flat_map with_feed (map entry_bytes es)) (entries_from-other l ls plain) ∙ ap (λ (bs : List ℕ). with_feed l ++ bs) later

entries-unfolded : (l : List ℕ) (ls : List (List ℕ)) → is_folded l ≡ false → entries_text false (l ∷ ls) ≡ flat_map with_feed (l ∷ ls)
    → flat_map with_feed (take_while is_folded (l ∷ ls)) ++ entries_text true (l ∷ ls) ≡ flat_map with_feed (l ∷ ls)
entries-unfolded l ls unfolded whole =
    ap (λ (ms : List (List ℕ)). flat_map with_feed ms ++ entries_text true (l ∷ ls)) (lead-unfolded true l ls unfolded)
    ∙ ap (λ (es : List Entry). flat_map with_feed (map entry_bytes es)) (entries_from-unfolded l ls unfolded)
    ∙ whole

-- the folded lines at the front and the entries are all lines
lines-entries : (within : Bool) (ls : List (List ℕ)) → flat_map with_feed (lead within ls) ++ entries_text within ls ≡ flat_map with_feed ls
lines-entries true [] = ap (λ (es : List Entry). flat_map with_feed (map entry_bytes es)) (entries_from-nil true)
lines-entries false [] = ap (λ (es : List Entry). flat_map with_feed (map entry_bytes es)) (entries_from-nil false)
lines-entries false (l ∷ ls) =
    ⊎_elim
    (λ begins. entries-field false l ls begins (lines-entries true ls))
    (λ plain. entries-other l ls plain (lines-entries false ls))
    (cases_Bool (begins_field l))
lines-entries true (l ∷ ls) =
    ⊎_elim
    (λ begins. entries-field true l ls begins (lines-entries true ls))
    (λ plain.
    ⊎_elim
    (λ folded. entries-folded l ls folded (lines-entries true ls))
    (λ unfolded. entries-unfolded l ls unfolded (entries-other l ls plain (lines-entries false ls)))
    (cases_Bool (is_folded l)))
    (cases_Bool (begins_field l))

pub header-entries : (t : List ℕ) → flat_map with_feed (map entry_bytes (entries_of t)) ≡ flat_map with_feed (header_lines t)
header-entries t = lines-entries false (header_lines t)
