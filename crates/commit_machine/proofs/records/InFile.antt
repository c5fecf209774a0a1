-- The record that a file holds.
use Rattle.std.proofs.Common.{◌≡◌, ℕ, ◌<◌, ◌^◌, Bool, true, false, not, ◌&&◌, ◌||◌, nat_lt, nat_le, length, List, [], ◌∷◌, map, Option, Some, None, if◌then◌else◌, refl, ap, sym, subst, inl, inr, ◌∙◌}
use Rattle.std.proofs.lemmas.Bool.{and_parts, ltb-true, lt-ltb}
use Rattle.std.specs.List.{list_all, list_any}
use Rattle.std.specs.Option.{option_and_then}
use Rattle.std.specs.Str.{bytes_eq}
use Rattle.commit_record.specs.Format.{are_distinct, fits_kind, fits_moment, fits_number, fit_phase, is_valid, most_files, written, IsWritten}
use Rattle.commit_record.specs.Names.{is_lawful}
use Rattle.commit_record.specs.Reading.{record_at}
use Rattle.commit_record.specs.declared.record.Entry.{Entry}
use Rattle.commit_record.specs.declared.record.Record.{Record}
use Rattle.commit_record.proofs.ReadingLemmas.{record_at-written}
use Rattle.commit_machine.specs.Records.{record_of, record_in, if_text, is_text_of, names_of, has, AreDistinct}
use Rattle.commit_machine.specs.Settled.{Mem}
use Rattle.commit_machine.proofs.records.Same.{same_refl, same_true}

and_both : (a b : Bool) → a ≡ true → b ≡ true → (a && b) ≡ true
and_both a b e f = rw (e, f) refl

is_text_of-written : (bytes : List ℕ) (r : Record) → IsWritten bytes r → is_text_of bytes r ≡ true
is_text_of-written bytes r w =
    let same : bytes_eq bytes (written r) ≡ true = subst (λ (z : List ℕ). bytes_eq bytes z ≡ true) w.is (same_refl bytes) in
    and_both _ _ w.valid (and_both _ _ (lt-ltb _ _ w.token_fits) (and_both _ _ w.numbers_fit same))

-- the text of a valid record gives the record
pub record_of-written : (bytes : List ℕ) (r : Record) → IsWritten bytes r → record_of bytes ≡ Some r
unfolding record_of
record_of-written bytes r w =
    ap (option_and_then (if_text bytes)) (record_at-written bytes r w)
    ∙ ap (λ (b : Bool). if b then Some r else None) (is_text_of-written bytes r w)

text_is : (bytes : List ℕ) (q r : Record) → if_text bytes q ≡ Some r → IsWritten bytes r
text_is bytes q r e = go (is_text_of bytes q) refl
  where
    go : (b : Bool) → is_text_of bytes q ≡ b → IsWritten bytes r
    go false is = let w : None ≡ Some r = ap (λ (b : Bool). if b then Some q else None) (sym is) ∙ e in absurd (cc)
    go true is =
        let w : Some q ≡ Some r = ap (λ (b : Bool). if b then Some q else None) (sym is) ∙ e in
        let same : q ≡ r = cc in
        let p = and_parts (is_valid q) _ is in
        let s = and_parts (nat_lt q.token (2 ^ 64)) _ p.1 in
        let t = and_parts (list_all fits_number q.entries) (bytes_eq bytes (written q)) s.1 in
        subst (IsWritten bytes) same (record { valid = p.0; token_fits = ltb-true _ _ s.0; numbers_fit = t.0; is = same_true bytes (written q) t.1 })

pub record_of-is : (bytes : List ℕ) (r : Record) → record_of bytes ≡ Some r → IsWritten bytes r
unfolding record_of
record_of-is bytes r e = go (record_at bytes) refl
  where
    go : (o : Option Record) → record_at bytes ≡ o → IsWritten bytes r
    go None is = let w : None ≡ Some r = ap (option_and_then (if_text bytes)) (sym is) ∙ e in absurd (cc)
    go (Some q) is = text_is bytes q r (ap (option_and_then (if_text bytes)) (sym is) ∙ e)

all_lawful : (es : List Entry) (n : List ℕ) → list_all (λ e. is_lawful e.name) es ≡ true → Mem n (map (λ e. e.name) es) → is_lawful n ≡ true
all_lawful [] n h m = absurd m
all_lawful (e ∷ es) n h (inl is) = subst (λ (z : List ℕ). is_lawful z ≡ true) (sym is) (and_parts (is_lawful e.name) (list_all (λ (x : Entry). is_lawful x.name) es) h).0
all_lawful (e ∷ es) n h (inr m) = all_lawful es n (and_parts (is_lawful e.name) (list_all (λ (x : Entry). is_lawful x.name) es) h).1 m

pub valid-lawful : (r : Record) (n : List ℕ) → is_valid r ≡ true → Mem n (names_of r) → is_lawful n ≡ true
valid-lawful r n h m = all_lawful r.entries n (and_parts _ _ (and_parts _ _ (and_parts _ _ h).1).1).0 m

-- the names of a record that stands are lawful
pub stands-lawful : (c : Option (List ℕ)) (r : Record) (n : List ℕ) → record_in c ≡ Some r → Mem n (names_of r) → is_lawful n ≡ true
stands-lawful None r n e m = absurd (cc)
stands-lawful (Some bytes) r n e m = valid-lawful r n (record_of-is bytes r e).valid m

-- a record that stands is valid
pub stands-valid : (c : Option (List ℕ)) (r : Record) → record_in c ≡ Some r → (is_valid r ≡ true) × (r.token < 2 ^ 64)
stands-valid None r e = absurd (cc)
stands-valid (Some bytes) r e = let w = record_of-is bytes r e in (w.valid, w.token_fits)

not-true : (b : Bool) → not b ≡ true → b ≡ false
not-true true h = sym h
not-true false h = refl

any-has : (n : List ℕ) (es : List Entry) → list_any (λ (e : Entry). bytes_eq n e.name) es ≡ has (map (λ (e : Entry). e.name) es) n
any-has n [] = refl
any-has n (e ∷ es) = ap (λ (b : Bool). bytes_eq n e.name || b) (any-has n es)

distinct-names : (es : List Entry) → are_distinct es ≡ true → AreDistinct (map (λ (e : Entry). e.name) es)
distinct-names [] h = tt
distinct-names (e ∷ es) h =
    let p = and_parts (not (list_any (λ (o : Entry). bytes_eq e.name o.name) es)) (are_distinct es) h in
    (sym (any-has e.name es) ∙ not-true _ p.0, distinct-names es p.1)

-- the names of a valid record are distinct
pub valid-names : (r : Record) → is_valid r ≡ true → AreDistinct (names_of r)
valid-names r h =
    let some = and_parts (nat_lt 0 (length r.entries)) _ h in
    let few = and_parts (nat_le (length r.entries) (most_files r.moment)) _ some.1 in
    let lawful = and_parts (list_all (λ (e : Entry). is_lawful e.name) r.entries)
    (are_distinct r.entries && (list_all fits_kind r.entries && (fit_phase r.phase r.entries && fits_moment r.moment))) few.1 in
    distinct-names r.entries (and_parts (are_distinct r.entries) (list_all fits_kind r.entries && (fit_phase r.phase r.entries && fits_moment r.moment)) lawful.1).0

pub stands-distinct : (c : Option (List ℕ)) (r : Record) → record_in c ≡ Some r → AreDistinct (names_of r)
stands-distinct c r e = valid-names r (stands-valid c r e).0
