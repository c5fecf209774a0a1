use Rattle.std.proofs.Common.{◌≢◌, sym, arith}
use Rattle.message_state.proofs.PlaceLemmas.{place_by_number, no_place_by_number}
use Rattle.message_state.proofs.order.place_by_number.Goals as goal

pub returns-then-k-eq0 : goal.returns-then-k-eq0
returns-then-k-eq0 c = sym (no_place_by_number c.args.count c.args.k (λ low high. let zero = c.if-k-eq0.true in omega arith))

pub returns-then-k-count : goal.returns-then-k-count
returns-then-k-count c = sym (no_place_by_number c.args.count c.args.k (λ low high. let past = c.if-k-count.true in omega arith))

pub returns : goal.returns
returns c =
    let some : c.args.k ≢ 0 = c.if-k-eq0.false in
    let within = c.if-k-count.false in
    sym (place_by_number c.args.count c.args.k (omega arith) (omega arith))
