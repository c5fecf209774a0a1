use Rattle.std.proofs.Common.{[], ◌∷◌, ◌++◌, List, ap, sym, ◌∙◌, refl, subst}
use Rattle.mail_addresses.specs.Lexical.{Lexeme}
use Rattle.mail_addresses.specs.Pieces.{IsLastPiece, IsPieceBefore}
use Rattle.mail_addresses.specs.Tokens.{tokens_in}
use Rattle.mail_addresses.proofs.PieceReading.{piece_none, piece_more, piece_cut, piece_last}
use Rattle.mail_addresses.proofs.PlainLemmas.{front_within}
use Rattle.mail_addresses.proofs.TokenLemmas.{token_less}
use Rattle.mail_addresses.proofs.Walks.{in_is, front_alone}
use Rattle.mail_addresses.proofs.pieces.first_piece.Goals as goal

pub loop-token-init : goal.loop-token-init
loop-token-init c = ([], piece_none c.args.value.now [] refl)

pub loop-token-smaller : goal.loop-token-smaller
loop-token-smaller c = token_less c.in-Some.token c.loop-token.rest.now c.in-Some.after.now c.in-Some.ensures.0 c.in-Some.ensures.1

pub loop-token-preserved : goal.loop-token-preserved
loop-token-preserved c =
    let piece = c.loop-token.invariant.0 in (
      piece ++ c.in-Some.token ∷ [],
      piece_more c.args.value.now piece _ c.loop-token.place c.place_after-place.result c.loop-token.rest.now c.in-Some.after.now c.in-Some.token
          c.loop-token.invariant.1 c.in-Some.ensures.0 c.in-Some.ensures.1
          (sym c.is_cut.ensures ∙ c.if-is_cut.false) c.place_after-place.ensures refl,
    )

pub before-requires : goal.before-requires
before-requires c = front_within c.args.value.now c.loop-token.rest.now c.loop-token.invariant.0 c.loop-token.invariant.1.front

pub returns-then-is_cut : goal.returns-then-is_cut
returns-then-is_cut c =
    let piece = c.loop-token.invariant.0 in
    let same = ap tokens_in c.before-then-is_cut.ensures ∙ front_alone c.args.value.now c.loop-token.rest.now piece c.loop-token.invariant.1.front in
    subst (λ (ts : List Lexeme). IsPieceBefore c.args.value.now ts c.in-Some.after.now) (sym same)
    (piece_cut c.args.value.now piece c.loop-token.place c.loop-token.rest.now c.in-Some.after.now c.in-Some.token c.loop-token.invariant.1
    c.in-Some.ensures.0 c.in-Some.ensures.1 (sym c.is_cut.ensures ∙ c.if-is_cut.true))

pub returns : goal.returns
returns c =
    let piece = c.loop-token.invariant.0 in
    let last = piece_last c.args.value.now piece c.loop-token.place c.loop-token.rest.now c.loop-token.invariant.1 c.in_default.ensures in
    subst (λ (ts : List Lexeme). IsLastPiece c.args.value.now ts) (sym (in_is c.args.value.now piece last.are_tokens)) last
