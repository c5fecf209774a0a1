use Rattle.std.proofs.Common.{◌==◌, sym}
use Rattle.std.proofs.lemmas.Bool.{eqb-true}
use Rattle.std.proofs.lemmas.List.Quantifiers.{position-Some}
use Rattle.message_state.proofs.PlaceLemmas.{place_at}
use Rattle.message_show.proofs.SummaryLemmas.{has-place}
use Rattle.message_show.proofs.summary.place_of.Goals as goal

pub returns-clause-found : goal.returns-clause-found
returns-clause-found c = eqb-true _ _ (position-Some (λ n. n == c.args.k) c.args.shown.now.order c.in-Some.place 0 (sym c.in-Some.ensures.place)).1

pub unreachable-requires : goal.unreachable-requires
unreachable-requires c =
    let there = has-place c.args.shown.now c.requires.valid c.args.k c.requires.first c.requires.last in
    let at = place_at _ c.args.shown.now.order c.requires.valid.order there.0 c.args.k there.1 there.2 in
    (cc (c.in-None.ensures.place))
