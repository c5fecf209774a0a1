use Rattle.std.proofs.Common.{refl, []}
use Rattle.std.proofs.lemmas.Result.{err_from_is_err_and}
use Rattle.spool_rules.specs.declared.words.Operation.TheVariants as op
use Rattle.spool_rules.proofs.CallLemmas.{once_on, looked_has_input}
use Rattle.spool_rules.proofs.OperationLemmas.{stage_done}
use Rattle.spool_rules.proofs.CauseLemmas.{clears_by, stopped_at, call_ends, wants_lock}
use Rattle.spool_rules.specs.Lawful.{LockedThen}
use Rattle.spool_rules.proofs.operations.stage.Goals as goal

pub returns-in_err-has_locked-clause-keeps : goal.returns-in_err-has_locked-clause-keeps
returns-in_err-has_locked-clause-keeps g c = c.has_locked.ensures.keeps

pub returns-in_err-has_locked-clause-ended : goal.returns-in_err-has_locked-clause-ended
returns-in_err-has_locked-clause-ended g c = let p = err_from_is_err_and c.from_residual.result c.from_residual.ensures.1 in
    rw (p.1, p.2) (stopped_at op.Stage c.args.number c.args.request.now _ (g.S.Spool.told c.has_locked.new.out) c.in_err-has_locked.ensures.stopped)

pub returns-then-not-branch-clause-keeps : goal.returns-then-not-branch-clause-keeps
returns-then-not-branch-clause-keeps g c = c.has_locked.ensures.keeps

pub returns-then-not-branch-clause-ended : goal.returns-then-not-branch-clause-ended
returns-then-not-branch-clause-ended g c = wants_lock op.Stage c.args.number c.args.request.now (g.S.Spool.told c.has_locked.new.out) (c.in_ok-has_locked.ensures.free c.if-not-branch.true)

pub clear-requires-clause-clears : goal.clear-requires-clause-clears
clear-requires-clause-clears g c = rw c.requires.stages c.bytes.ensures

pub clear-requires-clause-after : goal.clear-requires-clause-after
clear-requires-clause-after g c = clears_by op.Stage c.args.number c.args.request.now (g.S.Spool.told c.has_locked.new.out) c.requires.stages (c.in_ok-has_locked.ensures.locked c.if-not-branch.false)

pub mode_to_take-requires-clause-stages : goal.mode_to_take-requires-clause-stages
mode_to_take-requires-clause-stages g c = c.requires.stages

pub mode_to_take-requires-clause-gone : goal.mode_to_take-requires-clause-gone
mode_to_take-requires-clause-gone g c = rw c.bytes.ensures at c.in_ok-clear.ensures.gone

pub mode_to_take-requires-clause-locked : goal.mode_to_take-requires-clause-locked
mode_to_take-requires-clause-locked g c =
    once_on (λ steps. LockedThen c.args.number c.args.request.now steps []) (g.S.Spool.told c.has_locked.new.out) (g.S.Spool.told c.clear.new.out)
    (c.in_ok-has_locked.ensures.locked c.if-not-branch.false) c.clear.ensures.onward

pub returns-in_err-clear-clause-keeps : goal.returns-in_err-clear-clause-keeps
returns-in_err-clear-clause-keeps g c = λ s. c.clear.ensures.keeps (c.has_locked.ensures.keeps s)

pub returns-in_err-clear-clause-ended : goal.returns-in_err-clear-clause-ended
returns-in_err-clear-clause-ended g c = let p = err_from_is_err_and c.from_residual-in_err-clear.result c.from_residual-in_err-clear.ensures.1 in
    rw (p.1, p.2) (stopped_at op.Stage c.args.number c.args.request.now _ (g.S.Spool.told c.clear.new.out) c.in_err-clear.ensures.stopped)

pub returns-in_err-mode-clause-keeps : goal.returns-in_err-mode-clause-keeps
returns-in_err-mode-clause-keeps g c = λ s. c.mode_to_take.ensures.keeps (c.clear.ensures.keeps (c.has_locked.ensures.keeps s))

pub returns-in_err-mode-clause-ended : goal.returns-in_err-mode-clause-ended
returns-in_err-mode-clause-ended g c = let p = err_from_is_err_and c.from_residual-in_err-mode.result c.from_residual-in_err-mode.ensures.1 in
    rw (p.1, p.2) (stopped_at op.Stage c.args.number c.args.request.now _ (g.S.Spool.told c.mode_to_take.new.out) c.in_err-mode.ensures.stopped)

pub take-requires-clause-stages : goal.take-requires-clause-stages
take-requires-clause-stages g c = c.requires.stages

pub take-requires-clause-input : goal.take-requires-clause-input
take-requires-clause-input g c = c.mode_to_take.ensures.input (c.clear.ensures.input (looked_has_input (g.S.Spool.told c.has_locked.new.out) (c.has_locked.ensures.looked c.requires.looked)))

pub take-requires-clause-may : goal.take-requires-clause-may
take-requires-clause-may g c = c.in_ok-mode.ensures.mode

pub returns-in_err-take-clause-keeps : goal.returns-in_err-take-clause-keeps
returns-in_err-take-clause-keeps g c = λ s. c.take.ensures.keeps (c.mode_to_take.ensures.keeps (c.clear.ensures.keeps (c.has_locked.ensures.keeps s)))

pub returns-in_err-take-clause-ended : goal.returns-in_err-take-clause-ended
returns-in_err-take-clause-ended g c = let p = err_from_is_err_and c.from_residual-in_err-take.result c.from_residual-in_err-take.ensures.1 in
    rw (p.1, p.2) (call_ends op.Stage c.args.number c.args.request.now (g.S.Spool.told c.mode_to_take.new.out) (g.S.Spool.told c.take.new.out) _ _ c.in_err-take.ensures.told refl)

pub returns-in_err-sync-clause-keeps : goal.returns-in_err-sync-clause-keeps
returns-in_err-sync-clause-keeps g c = λ s. c.sync.ensures.keeps (c.take.ensures.keeps (c.mode_to_take.ensures.keeps (c.clear.ensures.keeps (c.has_locked.ensures.keeps s))))

pub returns-in_err-sync-clause-ended : goal.returns-in_err-sync-clause-ended
returns-in_err-sync-clause-ended g c = let p = err_from_is_err_and c.from_residual-in_err-sync.result c.from_residual-in_err-sync.ensures.1 in
    rw (p.1, p.2) (call_ends op.Stage c.args.number c.args.request.now (g.S.Spool.told c.take.new.out) (g.S.Spool.told c.sync.new.out) _ _ c.in_err-sync.ensures.told refl)

pub returns-clause-keeps : goal.returns-clause-keeps
returns-clause-keeps g c = λ s. c.sync.ensures.keeps (c.take.ensures.keeps (c.mode_to_take.ensures.keeps (c.clear.ensures.keeps (c.has_locked.ensures.keeps s))))

pub returns-clause-ended : goal.returns-clause-ended
returns-clause-ended g c = stage_done c.args.request.now _ (g.S.Spool.told c.mode_to_take.new.out) (g.S.Spool.told c.take.new.out)
    (g.S.Spool.told c.sync.new.out) c.in_ok-take.ensures.told c.in_ok-sync.ensures.told
