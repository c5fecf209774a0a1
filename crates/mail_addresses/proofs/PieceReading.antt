-- Pieces read one by one from the bytes of a value.
use Rattle.std.proofs.Common.{◌≡◌, ℕ, ◌+◌, true, false, List, [], ◌∷◌, ◌++◌, Option, Some, None, MatchOption, refl, sym, ap, ◌∙◌, subst, arith, append_assoc}
use Rattle.std.specs.Borrow.{Bor}
use Rattle.std.proofs.lemmas.Bool.{cond-true, cond-false}
use Rattle.std.proofs.lemmas.List.{append-nil}
use Rattle.mail_addresses.specs.declared.address.Address.{Address}
use Rattle.mail_addresses.specs.declared.pieces.Place.{Place}
use Rattle.mail_addresses.specs.declared.pieces.Place.TheVariants.{Outside}
use Rattle.mail_addresses.specs.Lexical.{Lexeme, mark, text_of, texts, IsToken, AreTokens}
use Rattle.mail_addresses.specs.Listing.{place_after, is_cut, pieces_from, pieces, Gives, Lists, Spells, IsBad, IsFirstBad, Reads, IsFault}
use Rattle.mail_addresses.specs.Plain.{AreFront}
use Rattle.mail_addresses.specs.Pieces.{IsLastPiece, IsPieceBefore}
use Rattle.mail_addresses.proofs.TokenLemmas.{token_less}
use Rattle.mail_addresses.proofs.PlainLemmas.{front_append, front_one, front_none, front_within}
use Rattle.mail_addresses.proofs.PieceLemmas.{with_front, with_front-nil, with_front-in_first, full, cut_is_comma}
use Rattle.mail_addresses.proofs.ListingLemmas.{lists_step, lists_end, bad_step, bad_here}
use Rattle.mail_addresses.proofs.TotalLemmas.{mark_is, tokens_of}

-- the tokens so far are the front of the first piece of the value
pub record IsPieceFront (value : List ℕ) (piece : List Lexeme) (place : Place) (rest : List ℕ) : Type 0 where
  pub front : AreFront value rest piece
  pub pieces : (later : List Lexeme) → with_front piece (pieces_from place later) ≡ pieces (piece ++ later)

pub piece_none : (value : List ℕ) (piece : List Lexeme) → piece ≡ [] → IsPieceFront value piece Outside value
piece_none value piece e =
    let none : IsPieceFront value [] Outside value = record { front = front_none value value refl; pieces = λ later. with_front-nil Outside later } in
    subst (λ (ts : List Lexeme). IsPieceFront value ts Outside value) (sym e) none

token_front : (rest after : List ℕ) (t : Lexeme) → rest ≡ text_of t ++ after → IsToken t after → AreFront rest after (t ∷ [])
token_front rest after t e is = front_one rest after t e is

-- a token that doesn't cut is one more
pub piece_more : (value : List ℕ) (piece more : List Lexeme) (place next : Place) (rest after : List ℕ) (t : Lexeme) → IsPieceFront value piece place rest → rest ≡ text_of t ++ after → IsToken t after
    → is_cut place t ≡ false → next ≡ place_after place t → more ≡ piece ++ t ∷ [] → IsPieceFront value more next after
unfolding pieces_from
piece_more value piece more place next rest after t h e is plain n m =
    let cut = λ (later : List Lexeme).
    ap (λ (p : Place). with_front (piece ++ t ∷ []) (pieces_from p later)) n
    ∙ sym (with_front-in_first piece t (pieces_from (place_after place t) later) (full (place_after place t) later))
    ∙ ap (with_front piece) (sym (cond-false (is_cut place t) _ _ plain))
    ∙ h.pieces (t ∷ later)
    ∙ ap pieces (sym (append_assoc piece (t ∷ []) later)) in
    let one : IsPieceFront value (piece ++ t ∷ []) next after = record { front = front_append value rest after piece (t ∷ []) h.front (token_front rest after t e is); pieces = cut } in
    subst (λ (ts : List Lexeme). IsPieceFront value ts next after) (sym m) one

-- a token that cuts ends the piece
pub piece_cut : (value : List ℕ) (piece : List Lexeme) (place : Place) (rest after : List ℕ) (t : Lexeme) → IsPieceFront value piece place rest
    → rest ≡ text_of t ++ after → IsToken t after → is_cut place t ≡ true → IsPieceBefore value piece after
unfolding pieces_from
piece_cut value piece place rest after t h e is cuts =
    let comma : t ≡ mark 44 = mark_is 44 t (cut_is_comma place t cuts) in
    let behind : AreFront rest after (mark 44 ∷ []) = subst (λ (u : Lexeme). AreFront rest after (u ∷ [])) comma (token_front rest after t e is) in
    record {
      less = let less = token_less t rest after e is in let within = front_within value rest piece h.front in omega arith;
      are_tokens = λ later tokens.
          let last : AreFront after [] later = record { joined = sym tokens.joined ∙ sym (append-nil (texts later)); stand = tokens.stand } in
          let all = front_append value rest [] piece (mark 44 ∷ later) h.front (front_append rest after [] (mark 44 ∷ []) later behind last) in
          record { joined = sym (all.joined ∙ append-nil (texts (piece ++ mark 44 ∷ later))); stand = all.stand };
      cut = λ later.
          ap (λ (u : Lexeme). pieces (piece ++ u ∷ later)) (sym comma)
          ∙ sym (h.pieces (t ∷ later))
          ∙ ap (with_front piece) (cond-true (is_cut place t) _ _ cuts)
          ∙ ap (λ (ts : List Lexeme). ts ∷ pieces later) (append-nil piece);
    }

-- where no token is left, all are one piece
pub piece_last : (value : List ℕ) (piece : List Lexeme) (place : Place) (rest : List ℕ) → IsPieceFront value piece place rest → rest ≡ [] → IsLastPiece value piece
unfolding pieces_from
piece_last value piece place rest h none =
    let all : AreFront value [] piece = subst (λ (xs : List ℕ). AreFront value xs piece) none h.front in
    record {
      are_tokens = record { joined = sym (all.joined ∙ append-nil (texts piece)); stand = all.stand };
      one = ap pieces (sym (append-nil piece)) ∙ sym (h.pieces []) ∙ ap (λ (ts : List Lexeme). ts ∷ []) (append-nil piece);
    }

-- ---- the list of a value

-- the pieces before gave what was added, so that the answer on what is left is the answer on the value
pub record IsReadTo (value : List ℕ) (left : List Lexeme) (added : List Address) (number : ℕ) : Type 0 where
  pub tokens : List Lexeme
  pub are_tokens : AreTokens value tokens
  pub lists : (later : List Address) → Lists Spells (pieces left) later → Lists Spells (pieces tokens) (added ++ later)
  pub bad : (at : ℕ) → IsFirstBad (pieces left) at → IsFirstBad (pieces tokens) (number + at)

abbrev pub IsRead : List ℕ → List ℕ → List Address → ℕ → Type 0
IsRead value rest added number = (left : List Lexeme) → AreTokens rest left → IsReadTo value left added number

pub read_none : (value : List ℕ) → IsRead value value [] 0
read_none value left are = record { tokens = left; are_tokens = are; lists = λ later l. l; bad = λ at b. subst (IsFirstBad (pieces left)) (omega arith) b }

pub read_more : (value rest after : List ℕ) (piece : List Lexeme) (added here : List Address) (number : ℕ) → IsRead value rest added number
    → IsPieceBefore rest piece after → Gives Spells piece here → IsRead value after (added ++ here) (number + 1)
read_more value rest after piece added here number so_far cut gives left are =
    let w = so_far (piece ++ mark 44 ∷ left) (cut.are_tokens left are) in
    record {
      tokens = w.tokens;
      are_tokens = w.are_tokens;
      lists = λ later l. lists_step Spells (pieces w.tokens) (pieces (piece ++ mark 44 ∷ left)) (pieces left) piece added here (cut.cut left) gives w.lists later l;
      bad = λ at b. bad_step (pieces w.tokens) (pieces (piece ++ mark 44 ∷ left)) (pieces left) piece here number (cut.cut left) gives w.bad at b;
    }

bad_before : (value rest after : List ℕ) (piece : List Lexeme) (added : List Address) (number : ℕ) → IsRead value rest added number
    → IsPieceBefore rest piece after → IsBad piece → IsFault value number
bad_before value rest after piece added number so_far cut bad =
    let left = tokens_of after in
    let w = so_far (piece ++ mark 44 ∷ left.0) (cut.are_tokens left.0 left.1) in
    record {
      tokens = w.tokens;
      are_tokens = w.are_tokens;
      first_bad = bad_here (pieces w.tokens) (pieces (piece ++ mark 44 ∷ left.0)) (pieces left.0) piece number (cut.cut left.0) bad w.bad;
    }

bad_last : (value rest : List ℕ) (piece : List Lexeme) (added : List Address) (number : ℕ) → IsRead value rest added number → IsLastPiece rest piece → IsBad piece → IsFault value number
bad_last value rest piece added number so_far last bad =
    let w = so_far piece last.are_tokens in
    record {
      tokens = w.tokens;
      are_tokens = w.are_tokens;
      first_bad = bad_here (pieces w.tokens) (pieces piece) [] piece number last.one bad w.bad;
    }

-- the piece is bad, whether a comma cuts it off or not
pub bad_piece_at : (value rest : List ℕ) (piece : List Lexeme) (after : Option (Bor (List ℕ))) (added : List Address) (number : ℕ)
    → IsRead value rest added number → MatchOption after (IsLastPiece rest piece) (λ later. IsPieceBefore rest piece later.now) → IsBad piece → IsFault value number
bad_piece_at value rest piece None added number so_far last bad = bad_last value rest piece added number so_far last bad
bad_piece_at value rest piece (Some later) added number so_far cut bad = bad_before value rest later.now piece added number so_far cut bad

pub reads_last : (value rest : List ℕ) (piece : List Lexeme) (added here : List Address) (number : ℕ) → IsRead value rest added number
    → IsLastPiece rest piece → Gives Spells piece here → Reads value (added ++ here)
reads_last value rest piece added here number so_far last gives =
    let w = so_far piece last.are_tokens in
    record {
      tokens = w.tokens;
      are_tokens = w.are_tokens;
      lists = lists_end Spells (pieces w.tokens) (pieces piece) piece added here last.one gives w.lists;
    }

-- what was put at the end of an empty list is the list
pub read_all : (value : List ℕ) (old items : List Address) → old ≡ [] → (added : List Address) × (items ≡ old ++ added) × Reads value added → Reads value items
read_all value old items empty (added, put, reads) = subst (Reads value) (sym (put ∙ ap (λ (xs : List Address). xs ++ added) empty)) reads
