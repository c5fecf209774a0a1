use Rattle.std.proofs.Common.{refl}
use Rattle.std.proofs.lemmas.Result.{err_from_is_err_and}
use Rattle.spool_rules.specs.declared.words.Operation.TheVariants as op
use Rattle.spool_rules.proofs.OperationLemmas.{gone_sync}
use Rattle.spool_rules.proofs.CauseLemmas.{stopped_at, call_ends, wants_lock}
use Rattle.spool_rules.proofs.operations.erase.Goals as goal

pub returns-in_err-has_locked-clause-keeps : goal.returns-in_err-has_locked-clause-keeps
returns-in_err-has_locked-clause-keeps g c = c.has_locked.ensures.keeps

pub returns-in_err-has_locked-clause-ended : goal.returns-in_err-has_locked-clause-ended
returns-in_err-has_locked-clause-ended g c = let p = err_from_is_err_and c.from_residual.result c.from_residual.ensures.1 in
    rw (p.1, p.2) (stopped_at op.Erase c.args.number c.args.request.now _ (g.S.Spool.told c.has_locked.new.out) c.in_err-has_locked.ensures.stopped)

pub returns-then-not-branch-clause-keeps : goal.returns-then-not-branch-clause-keeps
returns-then-not-branch-clause-keeps g c = c.has_locked.ensures.keeps

pub returns-then-not-branch-clause-ended : goal.returns-then-not-branch-clause-ended
returns-then-not-branch-clause-ended g c = wants_lock op.Erase c.args.number c.args.request.now (g.S.Spool.told c.has_locked.new.out) (c.in_ok-has_locked.ensures.free c.if-not-branch.true)

pub erase_locked-requires-clause-erases : goal.erase_locked-requires-clause-erases
erase_locked-requires-clause-erases g c = c.requires

pub erase_locked-requires-clause-locked : goal.erase_locked-requires-clause-locked
erase_locked-requires-clause-locked g c = c.in_ok-has_locked.ensures.locked c.if-not-branch.false

pub returns-in_err-erase_locked-clause-keeps : goal.returns-in_err-erase_locked-clause-keeps
returns-in_err-erase_locked-clause-keeps g c = λ s. c.erase_locked.ensures.keeps (c.has_locked.ensures.keeps s)

pub returns-in_err-erase_locked-clause-ended : goal.returns-in_err-erase_locked-clause-ended
returns-in_err-erase_locked-clause-ended g c = let p =
    err_from_is_err_and c.from_residual-in_err-erase_locked.result c.from_residual-in_err-erase_locked.ensures.1 in
    rw (p.1, p.2) (stopped_at op.Erase c.args.number c.args.request.now _ (g.S.Spool.told c.erase_locked.new.out) c.in_err-erase_locked.ensures.stopped)

pub returns-in_err-sync-clause-keeps : goal.returns-in_err-sync-clause-keeps
returns-in_err-sync-clause-keeps g c = λ s. c.sync.ensures.keeps (c.erase_locked.ensures.keeps (c.has_locked.ensures.keeps s))

pub returns-in_err-sync-clause-ended : goal.returns-in_err-sync-clause-ended
returns-in_err-sync-clause-ended g c = let p = err_from_is_err_and c.from_residual-in_err-sync.result c.from_residual-in_err-sync.ensures.1 in
    rw (p.1, p.2) (call_ends op.Erase c.args.number c.args.request.now (g.S.Spool.told c.erase_locked.new.out) (g.S.Spool.told c.sync.new.out) _ _ c.in_err-sync.ensures.told refl)

pub returns-clause-keeps : goal.returns-clause-keeps
returns-clause-keeps g c = λ s. c.sync.ensures.keeps (c.erase_locked.ensures.keeps (c.has_locked.ensures.keeps s))

pub returns-clause-ended : goal.returns-clause-ended
returns-clause-ended g c = gone_sync c.args.request.now.mailbox (g.S.Spool.told c.erase_locked.new.out) (g.S.Spool.told c.sync.new.out) c.in_ok-sync.ensures.told c.in_ok-erase_locked.ensures.gone
