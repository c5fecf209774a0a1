-- Pieces: the first one, while its tokens are walked over.
use Rattle.std.proofs.Common.{◌≡◌, true, List, [], ◌∷◌, ◌++◌, refl, sym, ap, ◌∙◌, append_assoc, inl, inr}
use Rattle.std.proofs.lemmas.Bool.{cases_Bool, cond-true, cond-false, false≢true}
use Rattle.mail_addresses.specs.Lexical.{Lexeme}
use Rattle.mail_addresses.specs.declared.pieces.Place.{Place}
use Rattle.mail_addresses.specs.declared.pieces.Place.TheVariants.{Outside, Brackets, Group, GroupBrackets}
use Rattle.mail_addresses.specs.Forms.{is_mark}
use Rattle.mail_addresses.specs.Listing.{place_after, is_cut, in_first, pieces_from, pieces}

-- tokens in front of the first piece
abbrev pub with_front : List Lexeme → List (List Lexeme) → List (List Lexeme)
with_front front [] = front ∷ []
with_front front (piece ∷ pieces) = (front ++ piece) ∷ pieces

-- some pieces
pub record IsFull (list : List (List Lexeme)) : Type 0 where
  pub first : List Lexeme
  pub others : List (List Lexeme)
  pub whole : list ≡ first ∷ others

-- there is a first piece
pub full : (place : Place) (ts : List Lexeme) → IsFull (pieces_from place ts)
unfolding pieces_from
full place [] = record { first = []; others = []; whole = refl }
full place (t ∷ ts) =
    elim (cases_Bool (is_cut place t)) [
      | inl e ↦ record { first = []; others = pieces_from Outside ts; whole = cond-true _ _ _ e }
      | inr e ↦ let later = full (place_after place t) ts in record {
        first = t ∷ later.first;
        others = later.others;
        whole = cond-false _ _ _ e ∙ ap (in_first t) later.whole;
      }
    ]

pub with_front-nil : (place : Place) (ts : List Lexeme) → with_front [] (pieces_from place ts) ≡ pieces_from place ts
with_front-nil place ts = let l = full place ts in ap (with_front []) l.whole ∙ sym l.whole

pub with_front-in_first : (front : List Lexeme) (t : Lexeme) (list : List (List Lexeme)) → IsFull list → with_front front (in_first t list) ≡ with_front (front ++ t ∷ []) list
with_front-in_first front t list l =
    ap (λ (m : List (List Lexeme)). with_front front (in_first t m)) l.whole
    ∙ ap (λ (p : List Lexeme). p ∷ l.others) (sym (append_assoc front (t ∷ []) l.first)) ∙ ap (with_front (front ++ t ∷ [])) (sym l.whole)

pub cut_is_comma : (place : Place) (t : Lexeme) → is_cut place t ≡ true → is_mark 44 t ≡ true
cut_is_comma Outside t h = h
cut_is_comma Brackets t h = absurd (false≢true h)
cut_is_comma Group t h = absurd (false≢true h)
cut_is_comma GroupBrackets t h = absurd (false≢true h)
