-- Good pieces before a comma are cut again, whatever follows the comma.
use Rattle.std.proofs.Common.{◌≡◌, Bool, true, false, List, [], ◌∷◌, ◌++◌, inl, refl, sym, ap, ◌∙◌, append-nil, append_assoc}
use Rattle.std.specs.Prelude.{if◌then◌else◌}
use Rattle.mail_addresses.specs.declared.address.Address.{Address}
use Rattle.mail_addresses.specs.Lexical.{Lexeme, mark}
use Rattle.mail_addresses.specs.Listing.{Gives, Spells, in_first, is_cut, joined, pieces, pieces_from, place_after}
use Rattle.mail_addresses.proofs.CutAgain.{cut_again}
use Rattle.leaf_laws.specs.Cutting.{GoodPiecesAreCut}

abbrev Pieces : Type 0
Pieces = List (List Lexeme)

-- if it isn't, the first token didn't cut, and what follows it is the rest of the piece
later-cut : (b : Bool) (t : Lexeme) (ts m : List Lexeme) (cut one others other more : Pieces) → (if b then [] ∷ cut else in_first t one) ≡ (t ∷ ts) ∷ m ∷ []
    → (one ≡ ts ∷ m ∷ [] → other ≡ ts ∷ more) → (if b then [] ∷ others else in_first t other) ≡ (t ∷ ts) ∷ more
later-cut true t ts m cut one others other more is onward = absurd (cc is)
later-cut false t ts m cut [] others other more is onward = absurd (cc is)
later-cut false t ts m cut (p ∷ ps) others other more is onward = ap (in_first t) (onward (cc is))

module _ (rest : List Lexeme) where
  -- where a comma cuts that nothing follows, it cuts whatever follows
  comma-cuts : (place : _) (ts : List Lexeme) → pieces_from place (ts ++ mark 44 ∷ []) ≡ ts ∷ [] ∷ [] → pieces_from place (ts ++ mark 44 ∷ rest) ≡ ts ∷ pieces rest
  unfolding pieces_from
  comma-cuts place [] is = cut-here (is_cut place (mark 44)) is
    where
      cut-here : (b : Bool) → (if b then [] ∷ [] ∷ [] else (mark 44 ∷ []) ∷ []) ≡ [] ∷ [] ∷ []
          → (if b then [] ∷ pieces rest else in_first (mark 44) (pieces_from (place_after place (mark 44)) rest)) ≡ [] ∷ pieces rest
      cut-here true e = refl
      cut-here false e = absurd (cc e)
  comma-cuts place (t ∷ ts) is =
      later-cut (is_cut place t) t ts [] (pieces (ts ++ mark 44 ∷ [])) (pieces_from (place_after place t) (ts ++ mark 44 ∷ []))
      (pieces (ts ++ mark 44 ∷ rest)) (pieces_from (place_after place t) (ts ++ mark 44 ∷ rest)) (pieces rest) is
      (comma-cuts (place_after place t) ts)

  -- a good piece, which is cut from an empty one after it
  good-cut : (piece : List Lexeme) (list : List Address) → Gives Spells piece list → pieces (piece ++ mark 44 ∷ rest) ≡ piece ∷ pieces rest
  good-cut piece list gives =
      comma-cuts _ piece
      (cut_again (piece ∷ [] ∷ []) list (λ e. cc) (list, ([], sym (append-nil list), gives, ([], ([], refl, inl (refl, refl), refl)))))

pub good-pieces : GoodPiecesAreCut
good-pieces [] list rest some lists = absurd (some refl)
good-pieces (piece ∷ []) list rest some lists = good-cut rest piece lists.0 lists.1.2
good-pieces (piece ∷ other ∷ later) list rest some lists =
    ap pieces (append_assoc piece (mark 44 ∷ joined (other ∷ later)) (mark 44 ∷ rest))
    ∙ good-cut (joined (other ∷ later) ++ mark 44 ∷ rest) piece lists.0 lists.1.2
    ∙ ap (λ (ps : Pieces). piece ∷ ps) (good-pieces (other ∷ later) lists.1.0 rest (λ e. cc) lists.1.3)
