-- The names of a value that is partly read.
use Rattle.std.proofs.Common.{◌≡◌, ℕ, true, false, List, [], ◌∷◌, ◌++◌, refl, sym, ap, ◌∙◌, append_assoc}
use Rattle.std.proofs.lemmas.Bool.{cond-true, cond-false}
use Rattle.std.proofs.lemmas.List.{append-nil}
use Rattle.std.specs.List.{onto_first}
use Rattle.command_words.specs.Names.{parts_names, pieces_of, kept, some_of, names_in}

-- the front of a name before the pieces that are left
abbrev pub in_front : List ℕ → List (List ℕ) → List (List ℕ)
in_front name [] = name ∷ []
in_front name (piece ∷ pieces) = (name ++ piece) ∷ pieces

-- names, the front of one, and the bytes that are left
abbrev pub gives : List (List ℕ) → List ℕ → List ℕ → List (List ℕ)
gives names name bytes = names ++ some_of (in_front name (pieces_of bytes))

front-none : (pieces : List (List ℕ)) → some_of (in_front [] pieces) ≡ some_of pieces
unfolding some_of
front-none [] = refl
front-none (piece ∷ pieces) = refl

pub gives-all : (bytes : List ℕ) → gives [] [] bytes ≡ names_in bytes
gives-all bytes = front-none (pieces_of bytes)

front-more : (b : ℕ) (name : List ℕ) (pieces : List (List ℕ)) → in_front name (onto_first b pieces) ≡ in_front (name ++ b ∷ []) pieces
front-more b name [] = refl
front-more b name (piece ∷ pieces) = ap (λ (p : List ℕ). p ∷ pieces) (sym (append_assoc name (b ∷ []) piece))

-- a byte between names ends one
pub gives-parted : (b : ℕ) (names : List (List ℕ)) (name bytes : List ℕ) → parts_names b ≡ true → gives names name (b ∷ bytes) ≡ gives (names ++ kept name) [] bytes
unfolding some_of pieces_of
gives-parted b names name bytes is =
    ap (λ (pieces : List (List ℕ)). names ++ some_of (in_front name pieces)) (cond-true (parts_names b) ([] ∷ pieces_of bytes) (onto_first b (pieces_of bytes)) is)
    ∙ (ap (λ (n : List ℕ). names ++ (kept n ++ some_of (pieces_of bytes))) (append-nil name)
    ∙ (sym (append_assoc names (kept name) (some_of (pieces_of bytes))) ∙ ap (λ (l : List (List ℕ)). (names ++ kept name) ++ l) (sym (front-none (pieces_of bytes)))))

-- another belongs to one
pub gives-more : (b : ℕ) (names : List (List ℕ)) (name bytes : List ℕ) → parts_names b ≡ false → gives names name (b ∷ bytes) ≡ gives names (name ++ b ∷ []) bytes
unfolding some_of pieces_of
gives-more b names name bytes is =
    ap (λ (pieces : List (List ℕ)). names ++ some_of (in_front name pieces)) (cond-false (parts_names b) ([] ∷ pieces_of bytes) (onto_first b (pieces_of bytes)) is)
    ∙ ap (λ (pieces : List (List ℕ)). names ++ some_of pieces) (front-more b name (pieces_of bytes))

-- after the last byte the name is over
pub gives-last : (names : List (List ℕ)) (name : List ℕ) → gives names name [] ≡ names ++ kept name
unfolding some_of pieces_of
gives-last names name =
    ap (λ (n : List ℕ). names ++ (kept n ++ [])) (append-nil name) ∙ ap (λ (l : List (List ℕ)). names ++ l) (append-nil (kept name))

-- names and the front of one that are the same give the same
pub same-gives : (names more : List (List ℕ)) (name other bytes : List ℕ) → names ≡ more → name ≡ other → gives names name bytes ≡ gives more other bytes
same-gives names more name other bytes one two = ap (λ (l : List (List ℕ)). gives l name bytes) one ∙ ap (λ (n : List ℕ). gives more n bytes) two
