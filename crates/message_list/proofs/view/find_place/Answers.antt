use Rattle.std.proofs.Common.{sym, arith}
use Rattle.message_list.proofs.ViewLemmas.{place_none, message_at}
use Rattle.message_list.proofs.view.find_place.Goals as goal

pub returns-then-k-from-clause-place : goal.returns-then-k-from-clause-place
returns-then-k-from-clause-place c =
    sym (place_none c.args.shown.now c.args.k (λ p lt same.
    let is = message_at c.args.shown.now c.requires p lt in
    let few = c.requires.few in
    let big = c.if-k-from.true in
    omega (arith, is.0, is.1)))
