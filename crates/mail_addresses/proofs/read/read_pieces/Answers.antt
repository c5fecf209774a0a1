use Rattle.std.proofs.Common.{[], ◌++◌, arith, sym}
use Rattle.std.proofs.lemmas.Bool.{MatchBool-at_true, MatchBool-at_false}
use Rattle.mail_addresses.specs.Pieces.{IsPieceBefore}
use Rattle.mail_addresses.specs.Tokens.{tokens_in}
use Rattle.mail_addresses.proofs.KeepLemmas.{kept_none, put_more}
use Rattle.mail_addresses.proofs.MailboxLemmas.{at_none, at_some}
use Rattle.mail_addresses.proofs.PieceReading.{read_none, read_more, bad_piece_at, reads_last}
use Rattle.mail_addresses.proofs.read.read_pieces.Goals as goal

pub returns-then-not-good : goal.returns-then-not-good
returns-then-not-good c =
    let inv = c.loop-good.invariant in
    bad_piece_at c.args.value.now c.loop-good.rest.now (tokens_in c.first_piece.result.0.now) c.first_piece.result.1 inv.added c.loop-good.number inv.read c.first_piece.ensures
    (MatchBool-at_false _ _ c.if-not-good.true c.in_ok-good.ensures)

pub returns-in-None : goal.returns-in-None
returns-in-None c =
    let inv = c.loop-good.invariant in
    let good = MatchBool-at_true _ _ c.if-not-good.false c.in_ok-good.ensures in
    let gives = good.2 in (
      inv.added ++ good.0,
      put_more c.args.keep c.args.list.now.items inv.added good.0 _ _ inv.put good.1,
      reads_last c.args.value.now c.loop-good.rest.now (tokens_in c.first_piece.result.0.now) inv.added good.0 c.loop-good.number inv.read
          (at_none c.first_piece.result.1 _ _ c.in-None.is c.first_piece.ensures) gives,
    )

pub loop-good-preserved : goal.loop-good-preserved
loop-good-preserved c =
    let inv = c.loop-good.invariant in
    let good = MatchBool-at_true _ _ c.if-not-good.false c.in_ok-good.ensures in
    let gives = good.2 in
    let cut : IsPieceBefore c.loop-good.rest.now (tokens_in c.first_piece.result.0.now) c.in-Some.after.now = at_some c.first_piece.result.1 c.in-Some.after _ _ c.in-Some.is c.first_piece.ensures in
    record {
      added = inv.added ++ good.0;
      put = put_more c.args.keep c.args.list.now.items inv.added good.0 _ _ inv.put good.1;
      read = read_more c.args.value.now c.loop-good.rest.now c.in-Some.after.now (tokens_in c.first_piece.result.0.now) inv.added good.0 c.loop-good.number inv.read cut gives;
      counted = omega (arith, cut.less, inv.counted);
    }

pub loop-good-init : goal.loop-good-init
loop-good-init c = record { added = []; put = sym (kept_none c.args.keep c.args.list.now.items); read = read_none c.args.value.now; counted = omega arith }
