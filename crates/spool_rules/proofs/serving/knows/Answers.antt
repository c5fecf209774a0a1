use Rattle.std.proofs.Common.{refl, sym, ◌∙◌}
use Rattle.std.proofs.lemmas.Result.{err_from_is_err_and}
use Rattle.spool_rules.proofs.OperationLemmas.{users_lawful, users_known}
use Rattle.spool_rules.proofs.CauseLemmas.{call_failed, users_foreign}
use Rattle.spool_rules.proofs.serving.knows.Goals as goal

pub returns-in_err-list-clause-lawful : goal.returns-in_err-list-clause-lawful
returns-in_err-list-clause-lawful g c = users_lawful c.args.number c.args.request.now (g.S.Spool.told c.args.out.now) (g.S.Spool.told c.users.new.self) c.users.result c.requires c.users.ensures

pub returns-in_err-list-clause-failed : goal.returns-in_err-list-clause-failed
returns-in_err-list-clause-failed g c = let p = err_from_is_err_and c.from_residual.result c.from_residual.ensures.1 in
    rw (p.1, p.2) (call_failed (g.S.Spool.told c.args.out.now) (g.S.Spool.told c.users.new.self) _ _ c.in_err-list.ensures refl)

pub returns-clause-lawful : goal.returns-clause-lawful
returns-clause-lawful g c = users_lawful c.args.number c.args.request.now (g.S.Spool.told c.args.out.now) (g.S.Spool.told c.users.new.self) c.users.result c.requires c.users.ensures

pub returns-clause-known : goal.returns-clause-known
returns-clause-known g c = λ e. users_known c.args.number c.args.request.now (g.S.Spool.told c.args.out.now)
    (g.S.Spool.told c.users.new.self) _ c.requires c.in_ok-list.ensures (sym (rw c.bytes.ensures at c.is_callers.ensures) ∙ e)

pub returns-clause-foreign : goal.returns-clause-foreign
returns-clause-foreign g c = λ e. users_foreign c.args.number c.args.request.now (g.S.Spool.told c.args.out.now)
    (g.S.Spool.told c.users.new.self) _ c.requires c.in_ok-list.ensures (sym (rw c.bytes.ensures at c.is_callers.ensures) ∙ e)
