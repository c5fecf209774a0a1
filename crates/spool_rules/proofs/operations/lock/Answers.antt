use Rattle.std.proofs.Common.{refl}
use Rattle.std.proofs.lemmas.Result.{err_from_is_err_and}
use Rattle.spool_rules.specs.declared.words.Operation.TheVariants as op
use Rattle.spool_rules.proofs.CallLemmas.{ends_one, ends_two}
use Rattle.spool_rules.proofs.CauseLemmas.{stopped_at, call_ends, not_locked_clears, not_free_clears, lock_stands, other_stands}
use Rattle.spool_rules.proofs.operations.lock.Goals as goal

pub returns-in_err-has_locked-clause-keeps : goal.returns-in_err-has_locked-clause-keeps
returns-in_err-has_locked-clause-keeps g c = c.has_locked.ensures.keeps

pub returns-in_err-has_locked-clause-ended : goal.returns-in_err-has_locked-clause-ended
returns-in_err-has_locked-clause-ended g c = let p = err_from_is_err_and c.from_residual.result c.from_residual.ensures.1 in
    rw (p.1, p.2) (stopped_at op.Lock c.args.number c.args.request.now _ (g.S.Spool.told c.has_locked.new.out) c.in_err-has_locked.ensures.stopped)

pub returns-then-branch-clause-keeps : goal.returns-then-branch-clause-keeps
returns-then-branch-clause-keeps g c = c.has_locked.ensures.keeps

pub returns-then-branch-clause-ended : goal.returns-then-branch-clause-ended
returns-then-branch-clause-ended g c = lock_stands c.args.number c.args.request.now (g.S.Spool.told c.has_locked.new.out)
    (c.has_locked.ensures.looked c.requires.looked) (c.in_ok-has_locked.ensures.locked c.if-branch.true)

pub clear-requires-clause-clears : goal.clear-requires-clause-clears
clear-requires-clause-clears g c = rw c.requires.locks c.bytes.ensures

pub clear-requires-clause-after : goal.clear-requires-clause-after
clear-requires-clause-after g c = not_locked_clears c.args.number c.args.request.now (g.S.Spool.told c.has_locked.new.out) c.requires.locks (c.in_ok-has_locked.ensures.free c.if-branch.false)

pub returns-in_err-clear-clause-keeps : goal.returns-in_err-clear-clause-keeps
returns-in_err-clear-clause-keeps g c = λ s. c.clear.ensures.keeps (c.has_locked.ensures.keeps s)

pub returns-in_err-clear-clause-ended : goal.returns-in_err-clear-clause-ended
returns-in_err-clear-clause-ended g c = let p = err_from_is_err_and c.from_residual-in_err-clear.result c.from_residual-in_err-clear.ensures.1 in
    rw (p.1, p.2) (stopped_at op.Lock c.args.number c.args.request.now _ (g.S.Spool.told c.clear.new.out) c.in_err-clear.ensures.stopped)

pub make-requires-clause-locks : goal.make-requires-clause-locks
make-requires-clause-locks g c = c.requires.locks

pub make-requires-clause-gone : goal.make-requires-clause-gone
make-requires-clause-gone g c = rw c.bytes.ensures at c.in_ok-clear.ensures.gone

pub returns-in_err-make-clause-keeps : goal.returns-in_err-make-clause-keeps
returns-in_err-make-clause-keeps g c = λ s. c.make.ensures.keeps (c.clear.ensures.keeps (c.has_locked.ensures.keeps s))

pub returns-in_err-make-clause-ended : goal.returns-in_err-make-clause-ended
returns-in_err-make-clause-ended g c = let p = err_from_is_err_and c.from_residual-in_err-make.result c.from_residual-in_err-make.ensures.1 in
    rw (p.1, p.2) (call_ends op.Lock c.args.number c.args.request.now (g.S.Spool.told c.clear.new.out) (g.S.Spool.told c.make.new.out) _ _ c.in_err-make.ensures.told refl)

pub link-requires : goal.link-requires
link-requires g c = ends_one (g.S.Spool.told c.clear.new.out) (g.S.Spool.told c.make.new.out) _ c.in_ok-make.ensures.told

pub returns-in_err-link-clause-keeps : goal.returns-in_err-link-clause-keeps
returns-in_err-link-clause-keeps g c = λ s. c.link.ensures.keeps (c.make.ensures.keeps (c.clear.ensures.keeps (c.has_locked.ensures.keeps s)))

pub returns-in_err-link-clause-ended : goal.returns-in_err-link-clause-ended
returns-in_err-link-clause-ended g c = let p = err_from_is_err_and c.from_residual-in_err-link.result c.from_residual-in_err-link.ensures.1 in
    rw (p.1, p.2) (call_ends op.Lock c.args.number c.args.request.now (g.S.Spool.told c.make.new.out) (g.S.Spool.told c.link.new.out) _ _ c.in_err-link.ensures.told refl)

pub returns-in_err-sync-clause-keeps : goal.returns-in_err-sync-clause-keeps
returns-in_err-sync-clause-keeps g c = λ s. c.sync.ensures.keeps (c.link.ensures.keeps (c.make.ensures.keeps (c.clear.ensures.keeps (c.has_locked.ensures.keeps s))))

pub returns-in_err-sync-clause-ended : goal.returns-in_err-sync-clause-ended
returns-in_err-sync-clause-ended g c = let p = err_from_is_err_and c.from_residual-in_err-sync.result c.from_residual-in_err-sync.ensures.1 in
    rw (p.1, p.2) (call_ends op.Lock c.args.number c.args.request.now (g.S.Spool.told c.link.new.out) (g.S.Spool.told c.sync.new.out) _ _ c.in_err-sync.ensures.told refl)

pub clear-requires-else-branch-2-clause-clears : goal.clear-requires-else-branch-2-clause-clears
clear-requires-else-branch-2-clause-clears g c = rw c.requires.locks c.bytes-else-branch-2.ensures

pub clear-requires-else-branch-2-clause-after : goal.clear-requires-else-branch-2-clause-after
clear-requires-else-branch-2-clause-after g c =
    not_free_clears c.args.number c.args.request.now (g.S.Spool.told c.make.new.out) (g.S.Spool.told c.link.new.out) c.requires.locks (rw c.if-branch-2.false at c.in_ok-link.ensures.told)

pub returns-in_err-clear-2-clause-keeps : goal.returns-in_err-clear-2-clause-keeps
returns-in_err-clear-2-clause-keeps g c = λ s. c.clear-else-branch-2.ensures.keeps (c.link.ensures.keeps (c.make.ensures.keeps (c.clear.ensures.keeps (c.has_locked.ensures.keeps s))))

pub returns-in_err-clear-2-clause-ended : goal.returns-in_err-clear-2-clause-ended
returns-in_err-clear-2-clause-ended g c = let p =
    err_from_is_err_and c.from_residual-in_err-clear-2.result c.from_residual-in_err-clear-2.ensures.1 in
    rw (p.1, p.2) (stopped_at op.Lock c.args.number c.args.request.now _ (g.S.Spool.told c.clear-else-branch-2.new.out) c.in_err-clear-2.ensures.stopped)

pub returns-in_ok-sync-clause-keeps : goal.returns-in_ok-sync-clause-keeps
returns-in_ok-sync-clause-keeps g c = λ s. c.sync.ensures.keeps (c.link.ensures.keeps (c.make.ensures.keeps (c.clear.ensures.keeps (c.has_locked.ensures.keeps s))))

pub returns-in_ok-sync-clause-ended : goal.returns-in_ok-sync-clause-ended
returns-in_ok-sync-clause-ended g c = ends_two (g.S.Spool.told c.make.new.out) (g.S.Spool.told c.link.new.out) (g.S.Spool.told c.sync.new.out) _ _
    (rw c.if-branch-2.true at c.in_ok-link.ensures.told) c.in_ok-sync.ensures.told

pub returns-in_ok-clear-2-clause-keeps : goal.returns-in_ok-clear-2-clause-keeps
returns-in_ok-clear-2-clause-keeps g c = λ s. c.clear-else-branch-2.ensures.keeps (c.link.ensures.keeps (c.make.ensures.keeps (c.clear.ensures.keeps (c.has_locked.ensures.keeps s))))

pub returns-in_ok-clear-2-clause-ended : goal.returns-in_ok-clear-2-clause-ended
returns-in_ok-clear-2-clause-ended g c =
    other_stands c.args.number c.args.request.now (g.S.Spool.told c.make.new.out) (g.S.Spool.told c.link.new.out)
    (g.S.Spool.told c.clear-else-branch-2.new.out) (rw c.if-branch-2.false at c.in_ok-link.ensures.told) c.clear-else-branch-2.ensures.onward
    (rw c.bytes-else-branch-2.ensures at c.in_ok-clear-2.ensures.gone)
