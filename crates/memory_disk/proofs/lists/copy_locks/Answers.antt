use Rattle.std.proofs.Common.{◌∙◌, ◌+◌, ap, sym, refl, drop}
use Rattle.memory_disk.specs.Lists.{lookup, named, or_else}
use Rattle.memory_disk.proofs.NamedLemmas.{copies-put, copies-skip, is-none, not-none}
use Rattle.memory_disk.proofs.lists.copy_locks.Goals as goal
use Rattle.memory_disk.proofs.lists.copy_locks.Goals.{then-not-has+in_ok-put, else-not-has}

pub loop-name-preserved : goal.loop-name-preserved
loop-name-preserved c = λ q.
    let rest = lookup (drop (c.loop-name.name-index + 1) c.args.locks.now) q in
    elim c.if-not-has.branch [
      | then-not-has+in_ok-put w ↦
          ap (λ m. or_else (named m q) rest) w.named-is
          ∙ copies-put c.loop-name.named w.put.new.self c.args.locks.now c.loop-name.name-index c.loop-name-item.result q _ _ _ c.loop-name-test.true c.loop-name-item.is
          w.bytes-then-not-has.ensures refl
          (ap (named c.loop-name.named) (w.bytes-then-not-has.ensures ∙ sym c.bytes.ensures) ∙ is-none _ _ c.has.ensures w.if-not-has.true) w.in_ok-put.ensures.ok (c.loop-name.invariant q)
      | else-not-has w ↦
          ap (λ m. or_else (named m q) rest) w.named-is
          ∙ copies-skip c.loop-name.named c.args.locks.now c.loop-name.name-index c.loop-name-item.result q _ _ c.loop-name-test.true c.loop-name-item.is
          c.bytes.ensures (not-none _ _ c.has.ensures w.if-not-has.false) (c.loop-name.invariant q)
    ]
