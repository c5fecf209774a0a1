use Rattle.std.proofs.Common.{◌≡◌, ℕ, List, length, sym, ap, arith}
use Rattle.message_list.proofs.ViewLemmas.{place_none, message_at, order_length}
use Rattle.message_list.proofs.SpanLemmas.{table_at}
use Rattle.message_list.proofs.span.place_in.Goals as goal
use Rattle.message_list.proofs.span.place_in.Goals.{then-k-eq0-via-then-k-eq0, then-k-eq0-via-else-k-eq0+then-k-items}

pub returns-then-k-eq0-clause-place : goal.returns-then-k-eq0-clause-place
returns-then-k-eq0-clause-place c =
    sym (place_none c.args.shown.now c.args.k (λ p lt same.
    let is = message_at c.args.shown.now c.requires.valid p lt in
    let count = order_length c.args.shown.now c.requires.valid in
    elim c.then-k-eq0.branch [
      | then-k-eq0-via-then-k-eq0 w ↦ omega (arith, is.0, is.1, w.if-k-eq0.true)
      | then-k-eq0-via-else-k-eq0+then-k-items w ↦ omega (arith, is.0, is.1, w.if-k-items.true, ap (λ (o : List ℕ). length o) w.items.ensures)
    ]))

pub returns-clause-place : goal.returns-clause-place
returns-clause-place c =
    (table_at c.args.shown.now c.requires.valid c.args.places.now c.requires.places c.args.k
    (let some : c.args.k ≡ 0 → ⊥ = c.if-k-eq0.false in omega arith) (omega (arith, ap (λ (o : List ℕ). length o) c.items.ensures))).0

pub returns-clause-within : goal.returns-clause-within
returns-clause-within c =
    (table_at c.args.shown.now c.requires.valid c.args.places.now c.requires.places c.args.k
    (let some : c.args.k ≡ 0 → ⊥ = c.if-k-eq0.false in omega arith) (omega (arith, ap (λ (o : List ℕ). length o) c.items.ensures))).1
