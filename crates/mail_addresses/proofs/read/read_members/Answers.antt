use Rattle.std.proofs.Common.{[], ◌++◌, sym}
use Rattle.std.proofs.lemmas.Bool.{MatchBool-at_true, MatchBool-at_false}
use Rattle.mail_addresses.specs.Listing.{pieces, SpellsMailbox}
use Rattle.mail_addresses.specs.Pieces.{IsLastPiece, IsPieceBefore}
use Rattle.mail_addresses.specs.Tokens.{tokens_in}
use Rattle.mail_addresses.proofs.ListingLemmas.{lists_step, lists_end, lists_first, lists_others}
use Rattle.mail_addresses.proofs.KeepLemmas.{kept_none, put_more}
use Rattle.mail_addresses.proofs.MailboxLemmas.{at_none, at_some}
use Rattle.mail_addresses.proofs.Walks.{last_in, cut_in, piece_in}
use Rattle.mail_addresses.proofs.read.read_members.Goals as goal

pub returns-then-not-good : goal.returns-then-not-good
returns-then-not-good c = λ all lists.
    let rest = c.loop-good.rest.now in
    let piece = tokens_in c.first_piece.result.0.now in
    let here = piece_in rest piece c.first_piece.result.1 c.first_piece.ensures in
    let left = c.loop-good.invariant.left all lists in
    let first = lists_first SpellsMailbox (pieces (tokens_in rest)) here.0 piece here.1 left.0 left.1 in
    MatchBool-at_false _ _ c.if-not-good.true c.in_ok-good.ensures first.0 first.1

pub returns-in-None : goal.returns-in-None
returns-in-None c =
    let rest = c.loop-good.rest.now in
    let piece = tokens_in c.first_piece.result.0.now in
    let inv = c.loop-good.invariant in
    let good = MatchBool-at_true _ _ c.if-not-good.false c.in_ok-good.ensures in
    let last : IsLastPiece rest piece = at_none c.first_piece.result.1 _ _ c.in-None.is c.first_piece.ensures in (
      inv.added ++ good.0,
      put_more c.args.keep c.args.list.now.items inv.added good.0 _ _ inv.put good.1,
      lists_end SpellsMailbox (pieces (tokens_in c.args.bytes.now)) (pieces (tokens_in rest)) piece inv.added good.0 (last_in rest piece last) good.2 inv.lists,
    )

pub loop-good-preserved : goal.loop-good-preserved
loop-good-preserved c =
    let rest = c.loop-good.rest.now in
    let after = c.in-Some.after.now in
    let piece = tokens_in c.first_piece.result.0.now in
    let inv = c.loop-good.invariant in
    let good = MatchBool-at_true _ _ c.if-not-good.false c.in_ok-good.ensures in
    let before : IsPieceBefore rest piece after = at_some c.first_piece.result.1 c.in-Some.after _ _ c.in-Some.is c.first_piece.ensures in
    let cut = cut_in rest after piece before in
    record {
      added = inv.added ++ good.0;
      put = put_more c.args.keep c.args.list.now.items inv.added good.0 _ _ inv.put good.1;
      lists = λ later l. lists_step SpellsMailbox (pieces (tokens_in c.args.bytes.now)) (pieces (tokens_in rest)) (pieces (tokens_in after)) piece inv.added good.0 cut good.2 inv.lists later l;
      left = λ all lists. let left = inv.left all lists in lists_others SpellsMailbox (pieces (tokens_in rest)) (pieces (tokens_in after)) piece cut left.0 left.1;
    }

pub loop-good-init : goal.loop-good-init
loop-good-init c = record { added = []; put = sym (kept_none c.args.keep c.args.list.now.items); lists = λ later l. l; left = λ all lists. (all, lists) }
