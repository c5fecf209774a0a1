-- Entries and the lines that they stand on.
use Rattle.std.proofs.Common.{◌≡◌, ℕ, ◌<◌, Bool, true, false, not, List, [], ◌∷◌, ◌++◌, length, length-append, get_or, map, codes, refl, sym, ap, ◌∙◌, subst, arith, append_assoc, append-nil, ⊎_elim}
use Rattle.std.specs.Bool.{if◌then◌else◌}
use Rattle.std.specs.List.{join_with_byte, take_while, AllByRecursion}
use Rattle.std.proofs.lemmas.Bool.{cond-true, cond-false, cases_Bool, false≢true}
use Rattle.std.proofs.lemmas.List.{get_or_append_left}
use Rattle.std.proofs.lemmas.List.Sums.{take_while-cons}
use Rattle.mail_text.specs.Lines.{HasNoFeed}
use Rattle.mail_headers.specs.Field.{Field, is_folded, begins_field, field_of, field_bytes, name_length}
use Rattle.mail_headers.specs.Header.{Entry, field, other, entry_bytes, has_bytes, entries_from}
use Rattle.mail_headers.proofs.EntryLemmas.{colon_split}
use Rattle.mail_headers.proofs.FieldLemmas.{is_folded-begins, HasName-begins, name_length-append, join-lines, entries_from-field, entries_from-folded, entries_from-other, entries_from-unfolded, entries_from-nil}
use Rattle.message_state.specs.Stamp.{is_named, without, field_lines}
use Rattle.message_state.proofs.StampLemmas.{after_feeds, after_feeds-append}

-- a line of a header has a byte and no line feed
pub record IsLine (l : List ℕ) : Type 0 where
  pub apart : HasNoFeed l
  pub bytes : has_bytes l ≡ true

abbrev pub AreLines : List (List ℕ) → Type 0
AreLines ls = AllByRecursion IsLine ls

abbrev AreFolded : List (List ℕ) → Type 0
AreFolded ls = AllByRecursion (λ l. is_folded l ≡ true) ls

-- the field stands on these lines, and later ones follow
pub record IsFieldOn (f : Field) (ls later : List (List ℕ)) : Type 0 where
  pub first : List ℕ
  pub folded : List (List ℕ)
  pub whole : ls ≡ first ∷ (folded ++ later)
  pub is : f ≡ field_of (join_with_byte 10 (first ∷ folded))
  pub begins : begins_field first ≡ true
  pub first_line : IsLine first
  pub are_lines : AreLines folded
  pub are_folded : AreFolded folded

-- the line stands first; where it is folded, no field may stand before it
pub record IsOtherOn (within : Bool) (l : List ℕ) (ls later : List (List ℕ)) : Type 0 where
  pub whole : ls ≡ l ∷ later
  pub plain : begins_field l ≡ false
  pub apart : within ≡ true → is_folded l ≡ false
  pub is_line : IsLine l

-- the entries stand on these lines
abbrev pub StandOn : Bool → List Entry → List (List ℕ) → Type 0
StandOn within [] ls = ls ≡ []
StandOn within (field f ∷ es) ls = (later : List (List ℕ)) × IsFieldOn f ls later × StandOn true es later
StandOn within (other l ∷ es) ls = (later : List (List ℕ)) × IsOtherOn within l ls later × StandOn false es later

-- ---- the entries of the lines that entries stand on are those entries

unfolded-head : (es : List Entry) (ls : List (List ℕ)) → StandOn true es ls → take_while is_folded ls ≡ []
unfolded-head [] ls on = ap (take_while is_folded) on
unfolded-head (field f ∷ es) ls on =
    ap (take_while is_folded) on.1.whole ∙ take_while-cons is_folded on.1.first (on.1.folded ++ on.0) ∙ cond-false _ _ _ (is_folded-begins on.1.first on.1.begins)
unfolded-head (other l ∷ es) ls on = ap (take_while is_folded) on.1.whole ∙ take_while-cons is_folded l on.0 ∙ cond-false _ _ _ (on.1.apart refl)

take_while-folded : (ls later : List (List ℕ)) → AreFolded ls → take_while is_folded later ≡ [] → take_while is_folded (ls ++ later) ≡ ls
take_while-folded [] later all none = none
take_while-folded (l ∷ ls) later all none =
    take_while-cons is_folded l (ls ++ later) ∙ cond-true _ _ _ all.0 ∙ ap (λ (x : List (List ℕ)). l ∷ x) (take_while-folded ls later all.1 none)

entries_from-folded_lines : (ls later : List (List ℕ)) → AreFolded ls → entries_from true (ls ++ later) ≡ entries_from true later
entries_from-folded_lines [] later all = refl
entries_from-folded_lines (l ∷ ls) later all = entries_from-folded l (ls ++ later) all.0 ∙ entries_from-folded_lines ls later all.1

entries_from-plain : (within : Bool) (l : List ℕ) (ls : List (List ℕ)) → begins_field l ≡ false → (within ≡ true → is_folded l ≡ false) → entries_from within (l ∷ ls) ≡ other l ∷ entries_from false ls
entries_from-plain false l ls plain apart = entries_from-other l ls plain
entries_from-plain true l ls plain apart = entries_from-unfolded l ls (apart refl) ∙ entries_from-other l ls plain

pub StandOn-entries : (within : Bool) (es : List Entry) (ls : List (List ℕ)) → StandOn within es ls → entries_from within ls ≡ es
StandOn-entries within [] ls on = ap (entries_from within) on ∙ entries_from-nil within
StandOn-entries within (field f ∷ es) ls on =
    let first = on.1.first in
    let folded = on.1.folded in
    let made : take_while is_folded (folded ++ on.0) ≡ folded = take_while-folded folded on.0 on.1.are_folded (unfolded-head es on.0 on.2) in
    ap (entries_from within) on.1.whole
    ∙ entries_from-field within first (folded ++ on.0) on.1.begins
    ∙ ap (λ (x : List (List ℕ)). field (field_of (join_with_byte 10 (first ∷ x))) ∷ entries_from true (folded ++ on.0)) made
    ∙ ap (λ (g : Field). field g ∷ entries_from true (folded ++ on.0)) (sym on.1.is)
    ∙ ap (λ (x : List Entry). field f ∷ x) (entries_from-folded_lines folded on.0 on.1.are_folded ∙ StandOn-entries true es on.0 on.2)
StandOn-entries within (other l ∷ es) ls on =
    ap (entries_from within) on.1.whole
    ∙ entries_from-plain within l on.0 on.1.plain on.1.apart
    ∙ ap (λ (x : List Entry). other l ∷ x) (StandOn-entries false es on.0 on.2)

-- ---- the entries of lines stand on them

-- what follows the folded lines at the front
abbrev past_folded : List (List ℕ) → List (List ℕ)
past_folded [] = []
past_folded (l ∷ ls) = if is_folded l then past_folded ls else l ∷ ls

abbrev lines_left : Bool → List (List ℕ) → List (List ℕ)
lines_left true ls = past_folded ls
lines_left false ls = ls

lines_left-unfolded : (within : Bool) (l : List ℕ) (ls : List (List ℕ)) → (within ≡ true → is_folded l ≡ false) → lines_left within (l ∷ ls) ≡ l ∷ ls
lines_left-unfolded true l ls apart = cond-false _ _ _ (apart refl)
lines_left-unfolded false l ls apart = refl

-- the folded lines at the front, and those past them
record IsSplit (ls : List (List ℕ)) : Type 0 where
  whole : ls ≡ take_while is_folded ls ++ past_folded ls
  are_lines : AreLines (take_while is_folded ls)
  are_folded : AreFolded (take_while is_folded ls)

split-folded : (ls : List (List ℕ)) → AreLines ls → IsSplit ls
split-folded [] lines = record { whole = refl; are_lines = tt; are_folded = tt }
split-folded (l ∷ ls) lines =
    let later = split-folded ls lines.1 in
    ⊎_elim
    (λ folded.
    let front : take_while is_folded (l ∷ ls) ≡ l ∷ take_while is_folded ls = take_while-cons is_folded l ls ∙ cond-true _ _ _ folded in
    let past : past_folded (l ∷ ls) ≡ past_folded ls = cond-true _ _ _ folded in
    record {
      whole = ap (λ (x : List (List ℕ)). l ∷ x) later.whole ∙ ap (λ (x : List (List ℕ)). x ++ past_folded ls) (sym front) ∙ ap (λ (x : List (List ℕ)). take_while is_folded (l ∷ ls) ++ x) (sym past);
      are_lines = subst AreLines (sym front) (lines.0, later.are_lines);
      are_folded = subst AreFolded (sym front) (folded, later.are_folded);
    })
    (λ unfolded.
    let front : take_while is_folded (l ∷ ls) ≡ [] = take_while-cons is_folded l ls ∙ cond-false _ _ _ unfolded in
    let past : past_folded (l ∷ ls) ≡ l ∷ ls = cond-false _ _ _ unfolded in
    record {
      whole = sym past ∙ ap (λ (x : List (List ℕ)). x ++ past_folded (l ∷ ls)) (sym front);
      are_lines = subst AreLines (sym front) tt;
      are_folded = subst AreFolded (sym front) tt;
    })
    (cases_Bool (is_folded l))

stand-field : (within : Bool) (l : List ℕ) (ls : List (List ℕ)) → begins_field l ≡ true → IsLine l → AreLines ls
    → StandOn true (entries_from true ls) (past_folded ls) → StandOn within (entries_from within (l ∷ ls)) (lines_left within (l ∷ ls))
stand-field within l ls begins line lines later =
    let split = split-folded ls lines in
    let f = field_of (join_with_byte 10 (l ∷ take_while is_folded ls)) in
    let left = lines_left-unfolded within l ls (λ w. is_folded-begins l begins) in
    let on : IsFieldOn f (lines_left within (l ∷ ls)) (past_folded ls) = record {
      first = l;
      folded = take_while is_folded ls;
      whole = left ∙ ap (λ (x : List (List ℕ)). l ∷ x) split.whole;
      is = refl;
      begins = begins;
      first_line = line;
      are_lines = split.are_lines;
      are_folded = split.are_folded;
    } in
    subst (λ (es : List Entry). StandOn within es (lines_left within (l ∷ ls))) (sym (entries_from-field within l ls begins)) (past_folded ls, on, later)

stand-other : (within : Bool) (l : List ℕ) (ls : List (List ℕ)) → begins_field l ≡ false → (within ≡ true → is_folded l ≡ false) → IsLine l
    → StandOn false (entries_from false ls) ls → StandOn within (entries_from within (l ∷ ls)) (lines_left within (l ∷ ls))
stand-other within l ls plain apart line later =
    let on : IsOtherOn within l (lines_left within (l ∷ ls)) ls = record { whole = lines_left-unfolded within l ls apart; plain = plain; apart = apart; is_line = line } in
    subst (λ (es : List Entry). StandOn within es (lines_left within (l ∷ ls))) (sym (entries_from-plain within l ls plain apart)) (ls, on, later)

stand-folded : (l : List ℕ) (ls : List (List ℕ)) → is_folded l ≡ true → StandOn true (entries_from true ls) (past_folded ls) → StandOn true (entries_from true (l ∷ ls)) (past_folded (l ∷ ls))
stand-folded l ls folded later =
    let past : past_folded (l ∷ ls) ≡ past_folded ls = cond-true _ _ _ folded in
    subst (λ (x : List (List ℕ)). StandOn true (entries_from true (l ∷ ls)) x) (sym past)
    (subst (λ (es : List Entry). StandOn true es (past_folded ls)) (sym (entries_from-folded l ls folded)) later)

pub entries-StandOn : (within : Bool) (ls : List (List ℕ)) → AreLines ls → StandOn within (entries_from within ls) (lines_left within ls)
entries-StandOn true [] lines = subst (λ (es : List Entry). StandOn true es []) (sym (entries_from-nil true)) refl
entries-StandOn false [] lines = subst (λ (es : List Entry). StandOn false es []) (sym (entries_from-nil false)) refl
entries-StandOn false (l ∷ ls) lines =
    ⊎_elim
    (λ begins. stand-field false l ls begins lines.0 lines.1 (entries-StandOn true ls lines.1))
    (λ plain. stand-other false l ls plain (λ w. absurd (false≢true w)) lines.0 (entries-StandOn false ls lines.1))
    (cases_Bool (begins_field l))
entries-StandOn true (l ∷ ls) lines =
    ⊎_elim
    (λ begins. stand-field true l ls begins lines.0 lines.1 (entries-StandOn true ls lines.1))
    (λ plain.
    ⊎_elim
    (λ folded. stand-folded l ls folded (entries-StandOn true ls lines.1))
    (λ unfolded. stand-other true l ls plain (λ w. unfolded) lines.0 (entries-StandOn false ls lines.1))
    (cases_Bool (is_folded l)))
    (cases_Bool (begins_field l))

-- ---- without the fields of a name

StandOn-anywhere : (within : Bool) (es : List Entry) (ls : List (List ℕ)) → StandOn true es ls → StandOn within es ls
StandOn-anywhere within [] ls on = on
StandOn-anywhere within (field f ∷ es) ls on = on
StandOn-anywhere within (other l ∷ es) ls on = (on.0, record { whole = on.1.whole; plain = on.1.plain; apart = (λ w. on.1.apart refl); is_line = on.1.is_line }, on.2)

-- some lines that the entries stand on
pub record HasLines (within : Bool) (es : List Entry) : Type 0 where
  pub lines : List (List ℕ)
  pub on : StandOn within es lines

field-HasLines : (within : Bool) (f : Field) (es : List Entry) (ls later : List (List ℕ)) → IsFieldOn f ls later → HasLines true es → HasLines within (field f ∷ es)
field-HasLines within f es ls later on has = record {
  lines = on.first ∷ (on.folded ++ has.lines);
  on = (
    has.lines,
    record {
      first = on.first;
      folded = on.folded;
      whole = refl;
      is = on.is;
      begins = on.begins;
      first_line =
          on.first_line;
      are_lines = on.are_lines;
      are_folded = on.are_folded;
    },
    has.on,
  );
}

other-HasLines : (within : Bool) (l : List ℕ) (es : List Entry) (ls later : List (List ℕ)) → IsOtherOn within l ls later → HasLines false es → HasLines within (other l ∷ es)
other-HasLines within l es ls later on has = record {
  lines = l ∷ has.lines;
  on = (has.lines, record { whole = refl; plain = on.plain; apart = on.apart; is_line = on.is_line }, has.on);
}

anywhere-HasLines : (within : Bool) (es : List Entry) → HasLines true es → HasLines within es
anywhere-HasLines within es has = record { lines = has.lines; on = StandOn-anywhere within es has.lines has.on }

pub without-head : (name : List ℕ) (b : Bool) (e : Entry) (es : List Entry) → is_named name e ≡ b → without name (e ∷ es) ≡ (if not b then e ∷ without name es else without name es)
without-head name b e es is = ap (λ (x : Bool). if not x then e ∷ without name es else without name es) is

pub without-HasLines : (name : List ℕ) (within : Bool) (es : List Entry) (ls : List (List ℕ)) → StandOn within es ls → HasLines within (without name es)
without-HasLines name within [] ls on = record { lines = []; on = refl }
without-HasLines name within (other l ∷ es) ls on = other-HasLines within l (without name es) ls on.0 on.1 (without-HasLines name false es on.0 on.2)
without-HasLines name within (field f ∷ es) ls on =
    let later = without-HasLines name true es on.0 on.2 in
    ⊎_elim
    (λ is. subst (HasLines within) (sym (without-head name true (field f) es is)) (anywhere-HasLines within (without name es) later))
    (λ not_is. subst (HasLines within) (sym (without-head name false (field f) es not_is)) (field-HasLines within f (without name es) ls on.0 on.1 later))
    (cases_Bool (is_named name (field f)))

-- ---- with a field last

last-StandOn : (within : Bool) (es : List Entry) (ls : List (List ℕ)) (s : List ℕ) → begins_field s ≡ true → IsLine s → StandOn within es ls
    → StandOn within (es ++ field (field_of s) ∷ []) (ls ++ s ∷ [])
last-StandOn within [] ls s begins line on =
    ([], record { first = s; folded = []; whole = ap (λ (x : List (List ℕ)). x ++ s ∷ []) on; is = refl; begins = begins; first_line = line; are_lines = tt; are_folded = tt }, refl)
last-StandOn within (field f ∷ es) ls s begins line on = (
  on.0 ++ s ∷ [],
  record {
    first = on.1.first;
    folded = on.1.folded;
    whole =
        ap (λ (x : List (List ℕ)). x ++ s ∷ []) on.1.whole ∙ ap (λ (x : List (List ℕ)). on.1.first ∷ x) (append_assoc on.1.folded on.0 (s ∷ []));
    is =
        on.1.is;
    begins = on.1.begins;
    first_line = on.1.first_line;
    are_lines = on.1.are_lines;
    are_folded = on.1.are_folded;
  },
  last-StandOn true es on.0 s begins line on.2,
)
last-StandOn within (other l ∷ es) ls s begins line on = (
  on.0 ++ s ∷ [],
  record {
    whole = ap (λ (x : List (List ℕ)). x ++ s ∷ []) on.1.whole;
    plain = on.1.plain;
    apart = on.1.apart;
    is_line =
        on.1.is_line;
  },
  last-StandOn false es on.0 s begins line on.2,
)

-- the entry of a field's line, none if its value is empty
abbrev pub new_entries : List ℕ → List ℕ → List Entry
new_entries name [] = []
new_entries name (b ∷ bs) = field (field_of (name ++ codes ": " ++ b ∷ bs)) ∷ []

pub new-StandOn : (es : List Entry) (ls : List (List ℕ)) (name value : List ℕ) → begins_field (name ++ codes ": " ++ value) ≡ true → IsLine (name ++ codes ": " ++ value) → StandOn false es ls → StandOn false (es ++ new_entries name value) (ls ++ field_lines name value)
new-StandOn es ls name [] begins line on =
    subst (λ (x : List Entry). StandOn false x (ls ++ [])) (sym (append-nil es)) (subst (λ (x : List (List ℕ)). StandOn false es x) (sym (append-nil ls)) on)
new-StandOn es ls name (b ∷ bs) begins line on = last-StandOn false es ls (name ++ codes ": " ++ b ∷ bs) begins line on

-- ---- the bytes of the entries are those of their lines

field_bytes-whole : (l more : List ℕ) → begins_field l ≡ true → field_bytes (field_of (l ++ more)) ≡ l ++ more
unfolding field_of
field_bytes-whole l more begins =
    let has = HasName-begins l begins in
    let same : name_length (l ++ more) ≡ name_length l = name_length-append l more has.within in
    let inside : name_length (l ++ more) < length (l ++ more) = omega (arith, same, has.within, length-append l more) in
    let colon : get_or (l ++ more) (name_length (l ++ more)) 0 ≡ 58 =
    ap (λ (k : ℕ). get_or (l ++ more) k 0) same ∙ get_or_append_left l more 0 (name_length l) has.within ∙ has.colon in
    colon_split (l ++ more) (name_length (l ++ more)) inside colon

field_bytes-on : (f : Field) (ls later : List (List ℕ)) (on : IsFieldOn f ls later) → field_bytes f ≡ on.first ++ after_feeds on.folded
field_bytes-on f ls later on =
    ap field_bytes on.is
    ∙ ap (λ (bs : List ℕ). field_bytes (field_of bs)) (join-lines on.first on.folded)
    ∙ field_bytes-whole on.first (after_feeds on.folded) on.begins

pub StandOn-bytes : (within : Bool) (es : List Entry) (ls : List (List ℕ)) → StandOn within es ls → after_feeds (map entry_bytes es) ≡ after_feeds ls
StandOn-bytes within [] ls on = ap after_feeds (sym on)
StandOn-bytes within (field f ∷ es) ls on =
    ap (λ (bs : List ℕ). 10 ∷ bs ++ after_feeds (map entry_bytes es)) (field_bytes-on f ls on.0 on.1)
    ∙ ap (λ (x : List ℕ). 10 ∷ (on.1.first ++ after_feeds on.1.folded) ++ x) (StandOn-bytes true es on.0 on.2)
    ∙ append_assoc (10 ∷ on.1.first) (after_feeds on.1.folded) (after_feeds on.0)
    ∙ ap (λ (x : List ℕ). 10 ∷ on.1.first ++ x) (sym (after_feeds-append on.1.folded on.0))
    ∙ ap after_feeds (sym on.1.whole)
StandOn-bytes within (other l ∷ es) ls on =
    ap (λ (x : List ℕ). 10 ∷ l ++ x) (StandOn-bytes false es on.0 on.2) ∙ ap after_feeds (sym on.1.whole)

-- ---- all lines that entries stand on are lines

AreLines-append : (ls ms : List (List ℕ)) → AreLines ls → AreLines ms → AreLines (ls ++ ms)
AreLines-append [] ms all more = more
AreLines-append (l ∷ ls) ms all more = (all.0, AreLines-append ls ms all.1 more)

pub StandOn-lines : (within : Bool) (es : List Entry) (ls : List (List ℕ)) → StandOn within es ls → AreLines ls
StandOn-lines within [] ls on = subst AreLines (sym on) tt
StandOn-lines within (field f ∷ es) ls on = subst AreLines (sym on.1.whole) (on.1.first_line, AreLines-append on.1.folded on.0 on.1.are_lines (StandOn-lines true es on.0 on.2))
StandOn-lines within (other l ∷ es) ls on = subst AreLines (sym on.1.whole) (on.1.is_line, StandOn-lines false es on.0 on.2)
