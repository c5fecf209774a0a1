-- The code's table and the spellings.
use Rattle.std.proofs.Common.{◌≡◌, ℕ, ◌<◌, ◌≤◌, length, get_or, slice_get, List, [], ◌∷◌, Bool, map, refl, sym, ap, ◌∙◌, ⊎_elim, Option, Some, None}
use Rattle.std.proofs.lemmas.Option.{slice_get-map, slice_get-get_or, slice_get_past}
use Rattle.std.proofs.lemmas.Bool.{cond-true, cond-false, cases_Bool}
use Rattle.std.specs.Option.{option_map, option_copied}
use Rattle.std.specs.List.{find}
use Rattle.std.proofs.Common.{Bor}
use Rattle.line_words.specs.Spellings.{Spelling, spellings, names}
use Rattle.line_words.specs.declared.table.Spelling.{Spelling as Row}
use Rattle.line_words.specs.Table.{row_of}

-- a search among mapped elements is a search by what they are mapped to
pub find-map : {X Y : Type 0} (f : X → Y) (p : Y → Bool) (xs : List X) → option_map f (find (λ x. p (f x)) xs) ≡ find p (map f xs)
find-map f p [] = refl
find-map f p (x ∷ xs) =
    ⊎_elim
    (λ t. ap (option_map f) (cond-true _ _ _ t) ∙ sym (cond-true _ _ _ t))
    (λ e. ap (option_map f) (cond-false _ _ _ e) ∙ find-map f p xs ∙ sym (cond-false _ _ _ e))
    (cases_Bool (p (f x)))

pub option_map-copied : {X Y : Type 0} (f : X → Y) (o : Option (Bor X)) → option_map (λ b. f b.now) o ≡ option_map f (option_copied o)
option_map-copied f None = refl
option_map-copied f (Some b) = refl

option_map-twice : {X Y Z : Type 0} (f : X → Y) (g : Y → Z) (o : Option X) → option_map g (option_map f o) ≡ option_map (λ x. g (f x)) o
option_map-twice f g None = refl
option_map-twice f g (Some x) = refl

-- the whole name in a row is the name at its place
names_at : (rows : List Row) (k : ℕ) → map row_of rows ≡ spellings → slice_get names k ≡ option_map (λ r. r.whole.now) (slice_get rows k)
names_at rows k is =
    ap (λ (ss : List Spelling). slice_get (map (λ s. s.whole) ss) k) (sym is)
    ∙ slice_get-map (λ s. s.whole) (map row_of rows) k
    ∙ ap (option_map (λ s. s.whole)) (slice_get-map row_of rows k)
    ∙ option_map-twice row_of (λ s. s.whole) (slice_get rows k)

pub name_in : (rows : List Row) (k : ℕ) (r : Row) → map row_of rows ≡ spellings → k < length rows → r ≡ get_or rows k r → Some r.whole.now ≡ slice_get names k
name_in rows k r is lt here =
    ap (λ (x : Row). Some x.whole.now) here
    ∙ ap (option_map (λ x. x.whole.now)) (sym (slice_get-get_or rows k r lt))
    ∙ sym (names_at rows k is)

pub name_past : (rows : List Row) (k : ℕ) → map row_of rows ≡ spellings → length rows ≤ k → None ≡ slice_get names k
name_past rows k is past =
    ap (option_map (λ x. x.whole.now)) (sym (slice_get_past rows k past))
    ∙ sym (names_at rows k is)
