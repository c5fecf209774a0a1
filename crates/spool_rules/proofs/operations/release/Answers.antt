use Rattle.std.proofs.lemmas.Result.{err_from_is_err_and}
use Rattle.spool_rules.proofs.OperationLemmas.{lock_may_go, removed_unlocks, not_locked_unlocks}
use Rattle.spool_rules.proofs.CauseLemmas.{removed_stopped}
use Rattle.spool_rules.proofs.operations.release.Goals as goal

pub returns-in_err-has_locked-clause-keeps : goal.returns-in_err-has_locked-clause-keeps
returns-in_err-has_locked-clause-keeps g c = c.has_locked.ensures.keeps

pub returns-in_err-has_locked-clause-stopped : goal.returns-in_err-has_locked-clause-stopped
returns-in_err-has_locked-clause-stopped g c = let p = err_from_is_err_and c.from_residual.result c.from_residual.ensures.1 in rw (p.1, p.2) c.in_err-has_locked.ensures.stopped

pub remove-requires : goal.remove-requires
remove-requires g c = rw c.bytes.ensures (lock_may_go c.args.number c.args.request.now (g.S.Spool.told c.has_locked.new.out) c.requires (c.in_ok-has_locked.ensures.locked c.if-branch.true))

pub returns-then-branch-clause-keeps : goal.returns-then-branch-clause-keeps
returns-then-branch-clause-keeps g c = λ s. c.remove.ensures.keeps (c.has_locked.ensures.keeps s)

pub returns-then-branch-clause-done : goal.returns-then-branch-clause-done
returns-then-branch-clause-done g c = removed_unlocks c.args.number c.args.request.now (g.S.Spool.told c.has_locked.new.out)
    (g.S.Spool.told c.remove.new.out) c.remove.result (rw c.bytes.ensures at c.remove.ensures.told)

pub returns-then-branch-clause-stopped : goal.returns-then-branch-clause-stopped
returns-then-branch-clause-stopped g c =
    removed_stopped c.args.number c.args.request.now (g.S.Spool.told c.has_locked.new.out) (g.S.Spool.told c.remove.new.out) _ c.remove.result c.remove.ensures.told

pub returns-else-branch-clause-keeps : goal.returns-else-branch-clause-keeps
returns-else-branch-clause-keeps g c = c.has_locked.ensures.keeps

pub returns-else-branch-clause-done : goal.returns-else-branch-clause-done
returns-else-branch-clause-done g c = not_locked_unlocks c.args.number c.args.request.now (g.S.Spool.told c.has_locked.new.out) (c.in_ok-has_locked.ensures.free c.if-branch.false)
