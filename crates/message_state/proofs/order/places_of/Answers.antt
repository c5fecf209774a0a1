use Rattle.std.proofs.Common.{ℕ, length, get_or, refl, arith, length-set}
use Rattle.message_state.proofs.PlaceLemmas.{number_at, listed_step, listed_all}
use Rattle.message_state.proofs.order.places_of.Goals as goal

pub overflow_sub-n : goal.overflow_sub-n
overflow_sub-n c =
    let is = number_at (length c.args.numbers.now) c.args.numbers.now c.requires.once c.loop-p.p (omega arith) in
    omega (arith, is.0)

pub index_mut-requires : goal.index_mut-requires
index_mut-requires c =
    let is = number_at (length c.args.numbers.now) c.args.numbers.now c.requires.once c.loop-p.p (omega arith) in
    omega (arith, is.0, is.1, c.loop-p.places.ok.0, c.loop-p.invariant.long)

pub loop-p-preserved : goal.loop-p-preserved
loop-p-preserved c =
    let xs = c.args.numbers.now in
    let p = c.loop-p.p in
    record {
      long = omega (arith, length-set {A = ℕ}, c.loop-p.invariant.long);
      at = listed_step xs c.requires.once p (get_or xs p 0) c.loop-p.places.items (omega arith) refl c.loop-p.invariant.long c.loop-p.invariant.at;
    }

pub returns : goal.returns
returns c = listed_all c.args.numbers.now c.loop-p.places.items c.requires.once c.loop-p.invariant.long (λ q lt. c.loop-p.invariant.at q (omega arith))
