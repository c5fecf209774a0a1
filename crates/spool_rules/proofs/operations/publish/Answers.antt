use Rattle.std.proofs.Common.{refl}
use Rattle.std.proofs.lemmas.Result.{err_from_is_err_and}
use Rattle.spool_rules.specs.declared.words.Operation.TheVariants as op
use Rattle.spool_rules.proofs.CallLemmas.{ends_two}
use Rattle.spool_rules.proofs.CauseLemmas.{call_ends}
use Rattle.spool_rules.proofs.operations.publish.Goals as goal

pub may_replace-requires-clause-publishes : goal.may_replace-requires-clause-publishes
may_replace-requires-clause-publishes g c = c.requires.publishes

pub may_replace-requires-clause-looked : goal.may_replace-requires-clause-looked
may_replace-requires-clause-looked g c = c.requires.looked

pub returns-in_err-may_replace-clause-keeps : goal.returns-in_err-may_replace-clause-keeps
returns-in_err-may_replace-clause-keeps g c = c.may_replace.ensures.keeps

pub returns-in_err-may_replace-clause-ended : goal.returns-in_err-may_replace-clause-ended
returns-in_err-may_replace-clause-ended g c = let p = err_from_is_err_and c.from_residual.result c.from_residual.ensures.1 in rw (p.1, p.2) c.in_err-may_replace.ensures.stopped

pub returns-then-not-branch-clause-keeps : goal.returns-then-not-branch-clause-keeps
returns-then-not-branch-clause-keeps g c = c.may_replace.ensures.keeps

pub returns-then-not-branch-clause-ended : goal.returns-then-not-branch-clause-ended
returns-then-not-branch-clause-ended g c = c.in_ok-may_replace.ensures.stands c.if-not-branch.true

pub rename-requires-clause-publishes : goal.rename-requires-clause-publishes
rename-requires-clause-publishes g c = c.requires.publishes

pub rename-requires-clause-may : goal.rename-requires-clause-may
rename-requires-clause-may g c = c.in_ok-may_replace.ensures.may c.if-not-branch.false

pub returns-in_err-rename-clause-keeps : goal.returns-in_err-rename-clause-keeps
returns-in_err-rename-clause-keeps g c = λ s. c.rename.ensures.keeps (c.may_replace.ensures.keeps s)

pub returns-in_err-rename-clause-ended : goal.returns-in_err-rename-clause-ended
returns-in_err-rename-clause-ended g c = let p = err_from_is_err_and c.from_residual-in_err-rename.result c.from_residual-in_err-rename.ensures.1 in
    rw (p.1, p.2) (call_ends op.Publish c.args.number c.args.request.now (g.S.Spool.told c.may_replace.new.out) (g.S.Spool.told c.rename.new.out) _ _ c.in_err-rename.ensures.told refl)

pub returns-in_err-sync-clause-keeps : goal.returns-in_err-sync-clause-keeps
returns-in_err-sync-clause-keeps g c = λ s. c.sync.ensures.keeps (c.rename.ensures.keeps (c.may_replace.ensures.keeps s))

pub returns-in_err-sync-clause-ended : goal.returns-in_err-sync-clause-ended
returns-in_err-sync-clause-ended g c = let p = err_from_is_err_and c.from_residual-in_err-sync.result c.from_residual-in_err-sync.ensures.1 in
    rw (p.1, p.2) (call_ends op.Publish c.args.number c.args.request.now (g.S.Spool.told c.rename.new.out) (g.S.Spool.told c.sync.new.out) _ _ c.in_err-sync.ensures.told refl)

pub returns-clause-keeps : goal.returns-clause-keeps
returns-clause-keeps g c = λ s. c.sync.ensures.keeps (c.rename.ensures.keeps (c.may_replace.ensures.keeps s))

pub returns-clause-ended : goal.returns-clause-ended
returns-clause-ended g c = ends_two (g.S.Spool.told c.may_replace.new.out) (g.S.Spool.told c.rename.new.out) (g.S.Spool.told c.sync.new.out) _ _ c.in_ok-rename.ensures.told c.in_ok-sync.ensures.told
