-- Lines and folded lines of a header, by the places where they end.
use Rattle.std.proofs.Common.{◌≡◌, ℕ, zero, suc, ◌+◌, ◌<◌, ◌≤◌, Bool, true, false, ◌==◌, List, [], ◌∷◌, ◌++◌, length, take, drop, get_or, refl, sym, ap, ◌∙◌, arith, ⊎_elim, append-nil, append_assoc, length-append, length-drop, add-zero, one-add, Option, Some, None}
use Rattle.std.specs.Bool.{if◌then◌else◌}
use Rattle.std.specs.List.{flat_map, take_while, join_with_byte}
use Rattle.std.proofs.lemmas.Bool.{cond-true, cond-false, eqb-true, false≢true, cases_Bool, cases_lt}
use Rattle.std.proofs.lemmas.List.{take_all, drop_all, drop-drop, get_or-drop, get_or-take, get_or_append_left, length-take-le}
use Rattle.std.proofs.lemmas.List.Sums.{take_while-cons}
use Rattle.std.proofs.Math.Seq.{take-add, drop-cons}
use Rattle.mail_text.specs.Lines.{lines_of, in_front}
use Rattle.mail_text.proofs.LineLemmas.{lines_of-hit, lines_of-miss, lines_of-empty, lines_of-nil, lines_of-feed, lines_of-byte}
use Rattle.mail_headers.specs.Field.{is_folded, name_length, begins_field, field_of}
use Rattle.mail_text.specs.Ascii.{is_blank}
use Rattle.mail_headers.specs.Header.{Entry, field, other, entries_from, first_line, has_bytes}
use Rattle.mail_headers.specs.Cutting.{IsLineLength, IsFlat, folded_part, lines_after, head_lines, head_after, is_over, IsInField, IsFieldEnd}
use Rattle.mail_headers.proofs.FieldLemmas.{HasName-begins, name_length-append, join-lines, entries_from-field, entries_from-folded, entries_from-other, entries_from-unfolded, entries_from-nil}

-- the first line of a text with bytes, and the lines after it
pub lines_of-first : (t : List ℕ) (n : ℕ) → IsLineLength t n → 0 < length t → lines_of t ≡ take n t ∷ lines_of (drop (n + 1) t)
lines_of-first t n is some =
    ⊎_elim
    (λ lt. lines_of-hit t n lt is.plain (is.feed lt))
    (λ ge.
    lines_of-miss t some (λ k l. is.plain k (omega arith))
    ∙ ap (λ (l : List ℕ). l ∷ []) (sym (take_all n t ge))
    ∙ ap (λ (ls : List (List ℕ)). take n t ∷ ls) (sym (lines_of-empty (drop (n + 1) t) (omega (arith, length-drop (n + 1) t)))))
    (cases_lt n (length t))

-- a field that ends where its first line ends has no line feed
pub IsFlat-line : (t bs : List ℕ) (first last : ℕ) → IsLineLength t first → last ≡ first → bs ≡ take last t → IsFlat bs
IsFlat-line t bs first last line same is k lt feed =
    let long : length bs ≡ first = ap (λ (l : List ℕ). length l) is ∙ ap (λ (n : ℕ). length (take n t)) same ∙ length-take-le first t line.within in
    let below : k < last = omega arith in
    line.plain k (omega arith) (sym (ap (λ (l : List ℕ). get_or l k 0) is ∙ get_or-take last t k 0 below) ∙ feed)

-- ---- lines up to an empty one

pub head_lines-over : (t : List ℕ) → is_over t ≡ true → head_lines t ≡ []
head_lines-over [] over = ap (take_while has_bytes) lines_of-nil
head_lines-over (b ∷ bs) over = ap (take_while has_bytes) (lines_of-feed b bs over) ∙ take_while-cons has_bytes [] (lines_of bs)

-- the first of them, which has a byte, and the others
pub head_lines-first : (t : List ℕ) (n : ℕ) → IsLineLength t n → is_over t ≡ false → head_lines t ≡ take n t ∷ head_after t n
head_lines-first [] n line more = absurd (false≢true (sym more))
head_lines-first (b ∷ bs) zero line more = absurd (false≢true (sym more ∙ ap (λ (x : ℕ). x == 10) (line.feed (omega arith))))
head_lines-first (b ∷ bs) (suc n) line more =
    ap (take_while has_bytes) (lines_of-first (b ∷ bs) (suc n) line (omega arith))
    ∙ take_while-cons has_bytes (take (suc n) (b ∷ bs)) (lines_of (drop (suc n + 1) (b ∷ bs)))

-- folded lines have bytes
has_bytes-folded : (l : List ℕ) → is_folded l ≡ true → has_bytes l ≡ true
has_bytes-folded [] folded = absurd (false≢true folded)
has_bytes-folded (b ∷ bs) folded = refl

-- so those in front stand before an empty line
folded-head : (ls : List (List ℕ)) → take_while is_folded (take_while has_bytes ls) ≡ take_while is_folded ls
folded-head [] = refl
folded-head ([] ∷ ls) = ap (take_while is_folded) (take_while-cons has_bytes [] ls) ∙ sym (take_while-cons is_folded [] ls)
folded-head ((b ∷ bs) ∷ ls) =
    ap (take_while is_folded) (take_while-cons has_bytes (b ∷ bs) ls)
    ∙ take_while-cons is_folded (b ∷ bs) (take_while has_bytes ls)
    ∙ ap (λ (later : List (List ℕ)). if is_folded (b ∷ bs) then (b ∷ bs) ∷ later else []) (folded-head ls)
    ∙ sym (take_while-cons is_folded (b ∷ bs) ls)

-- where the first line isn't folded, it doesn't matter what stands before it
unfolded-head : (l : List ℕ) (ls : List (List ℕ)) → is_folded l ≡ false → entries_from true (take_while has_bytes (l ∷ ls)) ≡ entries_from false (take_while has_bytes (l ∷ ls))
unfolded-head [] ls unfolded =
    let none : take_while has_bytes ([] ∷ ls) ≡ [] = take_while-cons has_bytes [] ls in
    ap (entries_from true) none ∙ entries_from-nil true ∙ sym (entries_from-nil false) ∙ ap (entries_from false) (sym none)
unfolded-head (b ∷ bs) ls unfolded =
    let one : take_while has_bytes ((b ∷ bs) ∷ ls) ≡ (b ∷ bs) ∷ take_while has_bytes ls = take_while-cons has_bytes (b ∷ bs) ls in
    ap (entries_from true) one ∙ entries_from-unfolded (b ∷ bs) (take_while has_bytes ls) unfolded ∙ ap (entries_from false) (sym one)

-- ---- folded lines

-- the first line, and whether it is folded
pub record HasFirst (lines : List (List ℕ)) (folded : Bool) : Type 0 where
  pub first : List ℕ
  pub later : List (List ℕ)
  pub is : lines ≡ first ∷ later
  pub test : is_folded first ≡ folded

front-first : (b : ℕ) (ls lines : List (List ℕ)) → lines ≡ in_front b ls → HasFirst lines (is_blank b)
front-first b [] lines e = record { first = b ∷ []; later = []; is = e; test = refl }
front-first b (l ∷ ls) lines e = record { first = b ∷ l; later = ls; is = e; test = refl }

pub lines_of-HasFirst : (b : ℕ) (bs : List ℕ) → HasFirst (lines_of (b ∷ bs)) (is_blank b)
lines_of-HasFirst b bs =
    ⊎_elim
    (λ feed. record { first = []; later = lines_of bs; is = lines_of-feed b bs feed; test = sym (ap is_blank (eqb-true b 10 feed)) })
    (λ byte. front-first b (lines_of bs) _ (lines_of-byte b bs byte))
    (cases_Bool (b == 10))

folded_part-folded : (l : List ℕ) (ls : List (List ℕ)) → is_folded l ≡ true → folded_part (l ∷ ls) ≡ (10 ∷ l) ++ folded_part ls
folded_part-folded l ls folded = ap (flat_map (λ (m : List ℕ). 10 ∷ m)) (take_while-cons is_folded l ls ∙ cond-true _ _ _ folded)

folded_part-unfolded : (l : List ℕ) (ls : List (List ℕ)) → is_folded l ≡ false → folded_part (l ∷ ls) ≡ []
folded_part-unfolded l ls unfolded = ap (flat_map (λ (m : List ℕ). 10 ∷ m)) (take_while-cons is_folded l ls ∙ cond-false _ _ _ unfolded)

-- a line that begins with a blank has a byte
blank_length : (t : List ℕ) (n : ℕ) → IsLineLength t n → 0 < length t → is_blank (get_or t 0 0) ≡ true → 0 < n
blank_length t zero line some blank = absurd (false≢true (sym (ap is_blank (line.feed some)) ∙ blank))
blank_length t (suc n) line some blank = omega arith

-- one more folded line
module _ (t : List ℕ) (start e n : ℕ) (in_field : IsInField t start e) (more : e + 1 < length t) (blank : is_blank (get_or t (e + 1) 0) ≡ true) (line : IsLineLength (drop (e + 1) t) n) where
  lines : lines_after t e ≡ take n (drop (e + 1) t) ∷ lines_after t (e + (1 + n))
  lines =
      let some : 0 < length (drop (e + 1) t) = omega (arith, length-drop (e + 1) t) in
      let place : e + 1 + (n + 1) ≡ e + (1 + n) + 1 = omega arith in
      lines_of-first (drop (e + 1) t) n line some
      ∙ ap (λ (l : List ℕ). take n (drop (e + 1) t) ∷ lines_of l) (drop-drop (n + 1) (e + 1) t ∙ ap (λ (k : ℕ). drop k t) place)

  folded : is_folded (take n (drop (e + 1) t)) ≡ true
  folded =
      let some : 0 < length (drop (e + 1) t) = omega (arith, length-drop (e + 1) t) in
      let first : get_or (drop (e + 1) t) 0 0 ≡ get_or t (e + 1) 0 = get_or-drop (e + 1) t 0 0 ∙ ap (λ (k : ℕ). get_or t k 0) (add-zero (e + 1)) in
      let begins : is_blank (get_or (drop (e + 1) t) 0 0) ≡ true = ap is_blank first ∙ blank in
      ap is_blank (get_or-take n (drop (e + 1) t) 0 0 (blank_length (drop (e + 1) t) n line some begins)) ∙ begins

  heads : head_after t e ≡ take n (drop (e + 1) t) ∷ head_after t (e + (1 + n))
  heads =
      ap (take_while has_bytes) lines
      ∙ take_while-cons has_bytes (take n (drop (e + 1) t)) (lines_after t (e + (1 + n)))
      ∙ cond-true _ _ _ (has_bytes-folded (take n (drop (e + 1) t)) folded)

  feed : e + (1 + n) < length t → get_or t (e + (1 + n)) 0 ≡ 10
  feed lt =
      let place : e + 1 + n ≡ e + (1 + n) = omega arith in
      ap (λ (k : ℕ). get_or t k 0) (sym place) ∙ sym (get_or-drop (e + 1) t n 0) ∙ line.feed (omega (arith, length-drop (e + 1) t))

  front : take (e + (1 + n)) t ≡ take e t ++ 10 ∷ take n (drop (e + 1) t)
  front =
      let inside : e < length t = omega arith in
      let later : suc e ≡ e + 1 = omega arith in
      let cut : drop e t ≡ 10 ∷ drop (e + 1) t =
      drop-cons t e 0 inside ∙ ap (λ (b : ℕ). b ∷ drop (suc e) t) (in_field.feed inside) ∙ ap (λ (k : ℕ). 10 ∷ drop k t) later in
      take-add e (1 + n) t
      ∙ ap (λ (l : List ℕ). take e t ++ take (1 + n) l) cut
      ∙ ap (λ (k : ℕ). take e t ++ take k (10 ∷ drop (e + 1) t)) (one-add n)

  bytes : take (e + (1 + n)) t ++ folded_part (lines_after t (e + (1 + n))) ≡ take e t ++ folded_part (lines_after t e)
  bytes =
      let rest = folded_part (lines_after t (e + (1 + n))) in
      ap (λ (l : List ℕ). l ++ rest) front
      ∙ append_assoc (take e t) (10 ∷ take n (drop (e + 1) t)) rest
      ∙ ap (λ (l : List ℕ). take e t ++ l) (sym (folded_part-folded (take n (drop (e + 1) t)) (lines_after t (e + (1 + n))) folded))
      ∙ ap (λ (ls : List (List ℕ)). take e t ++ folded_part ls) (sym lines)

  pub IsInField-more : IsInField t start (e + (1 + n))
  IsInField-more = record {
    within = omega (arith, length-drop (e + 1) t, line.within);
    feed = feed;
    bytes = bytes ∙ in_field.bytes;
    rest = sym (ap (entries_from true) heads ∙ entries_from-folded (take n (drop (e + 1) t)) (head_after t (e + (1 + n))) folded) ∙ in_field.rest;
  }

-- no folded line follows
pub IsFieldEnd-last : (t : List ℕ) (start e : ℕ) → IsInField t start e → length t ≤ e + 1 → IsFieldEnd t start e
IsFieldEnd-last t start e in_field last =
    let none : lines_after t e ≡ [] = lines_of-empty (drop (e + 1) t) (omega (arith, length-drop (e + 1) t)) in
    let heads : head_after t e ≡ [] = ap (take_while has_bytes) none in
    record {
      within = in_field.within;
      bytes = sym (append-nil (take e t)) ∙ ap (λ (ls : List (List ℕ)). take e t ++ folded_part ls) (sym none) ∙ in_field.bytes;
      rest = ap (entries_from false) heads ∙ entries_from-nil false ∙ sym (entries_from-nil true) ∙ ap (entries_from true) (sym heads) ∙ in_field.rest;
    }

pub IsFieldEnd-unfolded : (t : List ℕ) (start e : ℕ) → IsInField t start e → e + 1 < length t → is_blank (get_or t (e + 1) 0) ≡ false → IsFieldEnd t start e
IsFieldEnd-unfolded t start e in_field more unfolded =
    let cut : drop (e + 1) t ≡ get_or t (e + 1) 0 ∷ drop (suc (e + 1)) t = drop-cons t (e + 1) 0 more in
    let has = lines_of-HasFirst (get_or t (e + 1) 0) (drop (suc (e + 1)) t) in
    let lines : lines_after t e ≡ has.first ∷ has.later = ap lines_of cut ∙ has.is in
    let test : is_folded has.first ≡ false = has.test ∙ unfolded in
    let heads : head_after t e ≡ take_while has_bytes (has.first ∷ has.later) = ap (take_while has_bytes) lines in
    record {
      within = in_field.within;
      bytes = sym (append-nil (take e t)) ∙ ap (λ (bs : List ℕ). take e t ++ bs) (sym (ap folded_part lines ∙ folded_part-unfolded has.first has.later test)) ∙ in_field.bytes;
      rest = ap (entries_from false) heads ∙ sym (unfolded-head has.first has.later test) ∙ ap (entries_from true) (sym heads) ∙ in_field.rest;
    }

-- ---- the first entry of some lines

-- what a colon's place says of the line
pub begins_field-Some : (l : List ℕ) (r : Option ℕ) (k : ℕ) → r ≡ (if begins_field l then Some (name_length l) else None) → r ≡ Some k → (begins_field l ≡ true) × (name_length l ≡ k)
begins_field-Some l r k is some =
    ⊎_elim
    (λ begins. let same : Some (name_length l) ≡ Some k = sym (cond-true _ _ _ begins) ∙ sym is ∙ some in (begins, cc))
    (λ other. let none : None ≡ Some k = sym (cond-false _ _ _ other) ∙ sym is ∙ some in absurd cc)
    (cases_Bool (begins_field l))

pub begins_field-None : (l : List ℕ) (r : Option ℕ) → r ≡ (if begins_field l then Some (name_length l) else None) → r ≡ None → begins_field l ≡ false
begins_field-None l r is none =
    ⊎_elim
    (λ begins. let some : Some (name_length l) ≡ None = sym (cond-true _ _ _ begins) ∙ sym is ∙ none in absurd cc)
    (λ other. other)
    (cases_Bool (begins_field l))

-- a field by the ends of its first and its last line
module _ (t : List ℕ) (first last : ℕ) (more : is_over t ≡ false) (line : IsLineLength t first) (begins : begins_field (take first t) ≡ true) (ends : IsFieldEnd t first last) where
  bytes_of-field : take last t ≡ join_with_byte 10 (take first t ∷ take_while is_folded (head_after t first))
  bytes_of-field =
      ends.bytes
      ∙ sym (join-lines (take first t) (take_while is_folded (lines_after t first)))
      ∙ ap (λ (ls : List (List ℕ)). join_with_byte 10 (take first t ∷ ls)) (sym (folded-head (lines_after t first)))

  pub name_length-field : name_length (take last t) ≡ name_length (take first t)
  name_length-field =
      ap name_length ends.bytes ∙ name_length-append (take first t) (folded_part (lines_after t first)) (HasName-begins (take first t) begins).within

  pub entries_from-cut_field : (let bs = take last t in let k = name_length (take first t) in
      entries_from false (head_lines t) ≡ field (record { name = take k bs; value = drop (k + 1) bs }) ∷ entries_from false (head_after t last))
  unfolding field_of
  entries_from-cut_field =
      ap (entries_from false) (head_lines-first t first line more)
      ∙ entries_from-field false (take first t) (head_after t first) begins
      ∙ ap (λ (bs : List ℕ). field (field_of bs) ∷ entries_from true (head_after t first)) (sym bytes_of-field)
      ∙ ap (λ (k : ℕ). field (record { name = take k (take last t); value = drop (k + 1) (take last t) }) ∷ entries_from true (head_after t first)) name_length-field
      ∙ ap (λ (es : List Entry). field (record { name = take (name_length (take first t)) (take last t); value = drop (name_length (take first t) + 1) (take last t) }) ∷ es) (sym ends.rest)

  -- its colon
  pub colon_within : name_length (take first t) < length (take last t)
  colon_within =
      let has = HasName-begins (take first t) begins in
      omega (arith, ap (λ (l : List ℕ). length l) ends.bytes, length-append (take first t) (folded_part (lines_after t first)), has.within)

  pub colon_stands : get_or (take last t) (name_length (take first t)) 0 ≡ 58
  colon_stands =
      let has = HasName-begins (take first t) begins in
      ap (λ (l : List ℕ). get_or l (name_length (take first t)) 0) ends.bytes
      ∙ get_or_append_left (take first t) (folded_part (lines_after t first)) 0 (name_length (take first t)) has.within
      ∙ has.colon

-- a line that is no field
pub entries_from-cut_other : (t : List ℕ) (first : ℕ) → is_over t ≡ false → IsLineLength t first → begins_field (take first t) ≡ false
    → entries_from false (head_lines t) ≡ other (take first t) ∷ entries_from false (head_after t first)
entries_from-cut_other t first more line plain = ap (entries_from false) (head_lines-first t first line more) ∙ entries_from-other (take first t) (head_after t first) plain

-- the first line of any text, and the lines after it
pub record HasFirstLine (t : List ℕ) (n : ℕ) : Type 0 where
  pub first : take n t ≡ first_line (lines_of t)
  pub later : lines_of (drop (n + 1) t) ≡ drop 1 (lines_of t)

pub HasFirstLine-at : (t : List ℕ) (n : ℕ) → IsLineLength t n → HasFirstLine t n
HasFirstLine-at [] n line =
    let nothing : drop (n + 1) [] ≡ [] = drop_all (n + 1) [] (omega arith) in
    record {
      first = take_all n [] (omega arith) ∙ sym (ap first_line lines_of-nil);
      later = ap lines_of nothing ∙ lines_of-nil ∙ sym (ap (drop 1) lines_of-nil);
    }
HasFirstLine-at (b ∷ bs) n line =
    let lines = lines_of-first (b ∷ bs) n line (omega arith) in record { first = sym (ap first_line lines); later = sym (ap (drop 1) lines) }
