use Rattle.std.proofs.Common.{refl}
use Rattle.std.proofs.lemmas.Result.{err_from_is_err_and}
use Rattle.spool_rules.specs.declared.words.Operation.TheVariants as op
use Rattle.spool_rules.proofs.OperationLemmas.{unlock_done}
use Rattle.spool_rules.proofs.CauseLemmas.{clears_by, stopped_at, call_ends}
use Rattle.spool_rules.proofs.operations.unlock.Goals as goal

pub returns-in_err-release-clause-keeps : goal.returns-in_err-release-clause-keeps
returns-in_err-release-clause-keeps g c = c.release.ensures.keeps

pub returns-in_err-release-clause-ended : goal.returns-in_err-release-clause-ended
returns-in_err-release-clause-ended g c = let p = err_from_is_err_and c.from_residual.result c.from_residual.ensures.1 in
    rw (p.1, p.2) (stopped_at op.Unlock c.args.number c.args.request.now _ (g.S.Spool.told c.release.new.out) c.in_err-release.ensures.stopped)

pub release-requires : goal.release-requires
release-requires g c = c.requires

pub clear-requires-clause-clears : goal.clear-requires-clause-clears
clear-requires-clause-clears g c = rw c.requires c.bytes.ensures

pub clear-requires-clause-after : goal.clear-requires-clause-after
clear-requires-clause-after g c = clears_by op.Unlock c.args.number c.args.request.now (g.S.Spool.told c.release.new.out) c.requires c.in_ok-release.ensures.done

pub returns-in_err-clear-clause-keeps : goal.returns-in_err-clear-clause-keeps
returns-in_err-clear-clause-keeps g c = λ s. c.clear.ensures.keeps (c.release.ensures.keeps s)

pub returns-in_err-clear-clause-ended : goal.returns-in_err-clear-clause-ended
returns-in_err-clear-clause-ended g c = let p = err_from_is_err_and c.from_residual-in_err-clear.result c.from_residual-in_err-clear.ensures.1 in
    rw (p.1, p.2) (stopped_at op.Unlock c.args.number c.args.request.now _ (g.S.Spool.told c.clear.new.out) c.in_err-clear.ensures.stopped)

pub returns-in_err-sync-clause-keeps : goal.returns-in_err-sync-clause-keeps
returns-in_err-sync-clause-keeps g c = λ s. c.sync.ensures.keeps (c.clear.ensures.keeps (c.release.ensures.keeps s))

pub returns-in_err-sync-clause-ended : goal.returns-in_err-sync-clause-ended
returns-in_err-sync-clause-ended g c = let p = err_from_is_err_and c.from_residual-in_err-sync.result c.from_residual-in_err-sync.ensures.1 in
    rw (p.1, p.2) (call_ends op.Unlock c.args.number c.args.request.now (g.S.Spool.told c.clear.new.out) (g.S.Spool.told c.sync.new.out) _ _ c.in_err-sync.ensures.told refl)

pub returns-clause-keeps : goal.returns-clause-keeps
returns-clause-keeps g c = λ s. c.sync.ensures.keeps (c.clear.ensures.keeps (c.release.ensures.keeps s))

pub returns-clause-ended : goal.returns-clause-ended
returns-clause-ended g c = unlock_done c.args.number c.args.request.now (g.S.Spool.told c.release.new.out) (g.S.Spool.told c.clear.new.out)
    (g.S.Spool.told c.sync.new.out) c.in_ok-release.ensures.done c.clear.ensures.onward (rw c.bytes.ensures at c.in_ok-clear.ensures.gone) c.in_ok-sync.ensures.told
