-- Lines that begin a field, folded lines, and the entries of lines.
use Rattle.std.proofs.Common.{◌≡◌, ℕ, ◌<◌, Bool, true, false, ◌&&◌, ◌==◌, List, [], ◌∷◌, ◌++◌, length, get_or, nat_lt, refl, sym, ap, ◌∙◌, arith, ⊎_elim, append-nil}
use Rattle.std.specs.Bool.{if◌then◌else◌}
use Rattle.std.specs.List.{flat_map, take_while, join_with_byte}
use Rattle.std.proofs.lemmas.Bool.{cond-true, cond-false, eqb-true, ne_eqb, ltb-true, false≢true, cases_Bool, cases_lt, and_parts, or_cases}
use Rattle.std.proofs.lemmas.List.{get_or_past}
use Rattle.std.proofs.lemmas.List.Folds.{prefix_len-append}
use Rattle.mail_headers.specs.Field.{is_folded, is_name_byte, name_length, begins_field, field_of}
use Rattle.mail_text.specs.Ascii.{is_blank}
use Rattle.mail_headers.specs.Header.{field, other, entries_from}

-- a blank is no byte of a name, and no line feed
is_name_byte-blank : (b : ℕ) → is_blank b ≡ true → is_name_byte b ≡ false
is_name_byte-blank b blank =
    ⊎_elim
    (λ space. ap is_name_byte (eqb-true b 32 space))
    (λ tab. ap is_name_byte (eqb-true b 9 tab))
    (or_cases (b == 32) (b == 9) blank)

-- a folded line begins no field
pub begins_field-folded : (l : List ℕ) → is_folded l ≡ true → begins_field l ≡ false
begins_field-folded [] folded = absurd (false≢true folded)
begins_field-folded (b ∷ bs) folded =
    let none : name_length (b ∷ bs) ≡ 0 = cond-false _ _ _ (is_name_byte-blank b folded) in
    ap (λ (n : ℕ). nat_lt 0 n && get_or (b ∷ bs) n 0 == 58) none

-- a line that begins a field is not folded
pub is_folded-begins : (l : List ℕ) → begins_field l ≡ true → is_folded l ≡ false
is_folded-begins l begins =
    ⊎_elim
    (λ folded. absurd (false≢true (sym (begins_field-folded l folded) ∙ begins)))
    (λ other. other)
    (cases_Bool (is_folded l))

-- the name of a line that begins a field ends within it, at a colon
pub record HasName (l : List ℕ) : Type 0 where
  pub some : 0 < name_length l
  pub within : name_length l < length l
  pub colon : get_or l (name_length l) 0 ≡ 58

pub HasName-begins : (l : List ℕ) → begins_field l ≡ true → HasName l
HasName-begins l begins =
    let parts = and_parts (nat_lt 0 (name_length l)) (get_or l (name_length l) 0 == 58) begins in
    let colon : get_or l (name_length l) 0 ≡ 58 = eqb-true _ _ parts.1 in
    let inside : name_length l < length l =
    ⊎_elim
    (λ lt. lt)
    (λ ge.
    let past : get_or l (name_length l) 0 ≡ 0 = get_or_past l (name_length l) 0 ge in
    absurd (omega arith))
    (cases_lt (name_length l) (length l)) in
    record { some = ltb-true _ _ parts.0; within = inside; colon = colon }

-- what follows such a line leaves its name alone
pub name_length-append : (l more : List ℕ) → name_length l < length l → name_length (l ++ more) ≡ name_length l
name_length-append l more inside =
    prefix_len-append is_name_byte l more ∙ cond-false _ _ _ (ne_eqb _ _ (λ (e : name_length l ≡ length l). omega arith))

-- a line with the folded lines after it
pub join-lines : (l : List ℕ) (ls : List (List ℕ)) → join_with_byte 10 (l ∷ ls) ≡ l ++ flat_map (λ m. 10 ∷ m) ls
join-lines l [] = sym (append-nil l)
join-lines l (m ∷ ls) = ap (λ (bs : List ℕ). l ++ 10 ∷ bs) (join-lines m ls)

-- ---- the entries of lines

pub entries_from-field : (within : Bool) (l : List ℕ) (ls : List (List ℕ)) → begins_field l ≡ true
    → entries_from within (l ∷ ls) ≡ field (field_of (join_with_byte 10 (l ∷ take_while is_folded ls))) ∷ entries_from true ls
unfolding entries_from
entries_from-field within l ls begins = cond-true _ _ _ begins

pub entries_from-folded : (l : List ℕ) (ls : List (List ℕ)) → is_folded l ≡ true → entries_from true (l ∷ ls) ≡ entries_from true ls
unfolding entries_from
entries_from-folded l ls folded = cond-false _ _ _ (begins_field-folded l folded) ∙ cond-true _ _ _ folded

pub entries_from-other : (l : List ℕ) (ls : List (List ℕ)) → begins_field l ≡ false → entries_from false (l ∷ ls) ≡ other l ∷ entries_from false ls
unfolding entries_from
entries_from-other l ls plain = cond-false _ _ _ plain

-- where the first line is not folded, it doesn't matter what stands before it
pub entries_from-unfolded : (l : List ℕ) (ls : List (List ℕ)) → is_folded l ≡ false → entries_from true (l ∷ ls) ≡ entries_from false (l ∷ ls)
unfolding entries_from
entries_from-unfolded l ls unfolded =
    ap (λ (f : Bool). if begins_field l then field (field_of (join_with_byte 10 (l ∷ take_while is_folded ls)))
    ∷ entries_from true ls else (if f then entries_from true ls else other l ∷ entries_from false ls)) unfolded

pub entries_from-nil : (within : Bool) → entries_from within [] ≡ []
unfolding entries_from
entries_from-nil within = refl
