-- The names that a recovery makes can be files'.
use Rattle.std.proofs.Common.{◌≡◌, ℕ, ◌+◌, ◌≤◌, ◌<◌, ◌==◌, zero, suc, Bool, true, false, List, [], ◌∷◌, ◌++◌, length, map, get_or, codes, refl, ap, sym, subst, inl, inr, ◌∙◌, arith, length-append}
use Rattle.std.specs.Prelude.{nat_lt, nat_le, not, ◌&&◌, ◌||◌, All}
use Rattle.std.specs.List.{list_all, list_any}
use Rattle.std.proofs.lemmas.Bool.{and_parts, cases_Bool, eqb-true, leb-true, ltb-true, not-true}
use Rattle.std.proofs.lemmas.List.Folds.{list_all-append}
use Rattle.host_port.specs.Names.{IsFileName, has_no_zero}
use Rattle.commit_record.specs.Format.{is_valid, token_digits}
use Rattle.commit_record.specs.Names.{is_lawful, is_lower_hex}
use Rattle.commit_record.specs.declared.record.Entry.{Entry}
use Rattle.commit_record.specs.declared.record.Record.{Record}
use Rattle.commit_machine.specs.Names.{actor_limit, record_name, new_name, right_name, staged_name}
use Rattle.commit_machine.specs.Settled.{Mem}
use Rattle.commit_machine.proofs.records.Names.{token_digits-hex, token_digits-long}
use Rattle.commit_machine.proofs.records.InFile.{valid-lawful}

-- the names of entries
abbrev pub entry_names : List Entry → List (List ℕ)
entry_names entries = map (λ e. e.name) entries

-- the staged names of entries
abbrev pub entry_staged : ℕ → List Entry → List (List ℕ)
entry_staged token entries = map (λ e. staged_name token e.name) entries

joined : (name end : List ℕ) → has_no_zero name ≡ true → has_no_zero end ≡ true → has_no_zero (name ++ end) ≡ true
joined name end a b = list_all-append (λ b. not (b == 0)) name end ∙ rw (a, b) refl

with_end : (name end : List ℕ) → length name + length end ≤ 4032 → 0 < length end → has_no_zero name ≡ true → has_no_zero end ≡ true → IsFileName (name ++ end)
with_end name end short some a b = record {
  some = omega (arith, length-append name end);
  short = omega (arith, length-append name end);
  no_zero = joined name end a b;
}

pub record-file : (actor : List ℕ) → length actor ≤ actor_limit → has_no_zero actor ≡ true → IsFileName (record_name actor)
unfolding record_name
record-file actor short none = with_end actor (codes ".commit") (omega arith) (omega arith) none refl

pub new-file : (actor : List ℕ) → length actor ≤ actor_limit → has_no_zero actor ≡ true → IsFileName (new_name actor)
unfolding new_name
new-file actor short none = with_end actor (codes ".commit.new") (omega arith) (omega arith) none refl

pub right-file : (actor : List ℕ) → length actor ≤ actor_limit → has_no_zero actor ≡ true → IsFileName (right_name actor)
unfolding right_name
right-file actor short none = with_end actor (codes ".right") (omega arith) (omega arith) none refl

abbrev is-zero : ℕ → Bool
is-zero b = b == 0

no-zero : (name : List ℕ) → list_any is-zero name ≡ false → has_no_zero name ≡ true
no-zero [] h = refl
no-zero (b ∷ bs) h = go (b == 0) h (no-zero bs)
  where
    go : (t : Bool) → (t || list_any is-zero bs) ≡ false → (list_any is-zero bs ≡ false → has_no_zero bs ≡ true) → (not t && has_no_zero bs) ≡ true
    go true h more = absurd (cc h)
    go false h more = more h

-- the parts of a lawful name
record Plain (name : List ℕ) : Type 0 where
  some : 0 < length name
  short : length name ≤ 4000
  no_zero : has_no_zero name ≡ true

plain : (name : List ℕ) → is_lawful name ≡ true → Plain name
plain name h =
    let p = and_parts (nat_lt 0 (length name)) _ h in
    let q = and_parts (nat_le (length name) 4000) _ p.1 in
    let r = and_parts (not (list_any is-zero name)) _ q.1 in
    record { some = ltb-true 0 (length name) p.0; short = leb-true (length name) 4000 q.0; no_zero = no-zero name (not-true (list_any is-zero name) r.0) }

pub lawful-file : (name : List ℕ) → is_lawful name ≡ true → IsFileName name
lawful-file name h = let p = plain name h in record { some = p.some; short = omega arith; no_zero = p.no_zero }

hex-not-zero : (b : ℕ) → is_lower_hex b ≡ true → not (b == 0) ≡ true
hex-not-zero zero h = absurd (cc)
hex-not-zero (suc b) h = elim (cases_Bool (suc b == 0)) [ inl y ↦ absurd (positive (eqb-true (suc b) 0 y)) | inr nay ↦ ap not nay ]
  where
    positive : suc b ≡ 0 → ⊥
    positive e = omega arith

hex-no-zero : (xs : List ℕ) → list_all is_lower_hex xs ≡ true → has_no_zero xs ≡ true
hex-no-zero [] h = refl
hex-no-zero (x ∷ xs) h = let p = and_parts (is_lower_hex x) (list_all is_lower_hex xs) h in rw (hex-not-zero x p.0, hex-no-zero xs p.1) refl

pub staged-file : (token : ℕ) (name : List ℕ) → is_lawful name ≡ true → IsFileName (staged_name token name)
unfolding staged_name
staged-file token name h =
    let p = plain name h in
    let long : length (codes ".mx" ++ token_digits token) ≡ 19 = omega (arith, token_digits-long token, length-append (codes ".mx") (token_digits token)) in
    with_end name (codes ".mx" ++ token_digits token) (omega arith) (omega arith) p.no_zero (joined (codes ".mx") (token_digits token) refl (hex-no-zero (token_digits token) (token_digits-hex token)))

all-none : {X : Type 0} (P : X → Type 0) → All P []
all-none P k d l = absurd (omega arith)

all-more : {X : Type 0} (P : X → Type 0) (x : X) (xs : List X) → P x → All P xs → All P (x ∷ xs)
all-more P x xs p h zero d l = p
all-more P x xs p h (suc k) d l = h k d (omega arith)

-- each of the names is lawful
abbrev AreLawful : List Entry → Type 0
AreLawful es = (n : List ℕ) → Mem n (entry_names es) → is_lawful n ≡ true

names-files : (es : List Entry) → AreLawful es → All (λ (e : Entry). IsFileName e.name) es
names-files [] h = all-none (λ (e : Entry). IsFileName e.name)
names-files (e ∷ es) h = all-more (λ (e : Entry). IsFileName e.name) e es (lawful-file e.name (h e.name (inl refl))) (names-files es (λ n m. h n (inr m)))

staged-files : (token : ℕ) (es : List Entry) → AreLawful es → All IsFileName (entry_staged token es)
staged-files token [] h = all-none IsFileName
staged-files token (e ∷ es) h = all-more IsFileName (staged_name token e.name) (entry_staged token es) (staged-file token e.name (h e.name (inl refl))) (staged-files token es (λ n m. h n (inr m)))

pub record-files : (r : Record) → is_valid r ≡ true → All (λ (e : Entry). IsFileName e.name) r.entries
record-files r valid = names-files r.entries (λ n m. valid-lawful r n valid m)

pub record-staged : (r : Record) → is_valid r ≡ true → All IsFileName (entry_staged r.token r.entries)
record-staged r valid = staged-files r.token r.entries (λ n m. valid-lawful r n valid m)

entry-at : (es : List Entry) (at : ℕ) (e : Entry) → at < length es → get_or (entry_names es) at [] ≡ (get_or es at e).name
entry-at [] at e l = absurd (omega (arith, l))
entry-at (x ∷ xs) zero e l = refl
entry-at (x ∷ xs) (suc at) e l = entry-at xs at e (omega (arith, l))

names-count : (es : List Entry) → length (entry_names es) ≡ length es
names-count [] = refl
names-count (e ∷ es) = ap suc (names-count es)

-- the name of an entry
pub entry-file : (es : List Entry) (at : ℕ) (e : Entry) → All IsFileName (entry_names es) → at < length es → e ≡ get_or es at e → IsFileName e.name
entry-file es at e h l is = subst IsFileName (entry-at es at e l ∙ ap (λ (x : Entry). x.name) (sym is)) (h at [] (omega (arith, l, names-count es)))
