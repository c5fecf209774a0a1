use Rattle.std.proofs.Common.{sym, ◌∙◌, refl, inl, inr}
use Rattle.std.proofs.lemmas.Result.{err_from_is_err_and}
use Rattle.spool_rules.proofs.OperationLemmas.{seen_locked, seen_free}
use Rattle.spool_rules.proofs.CauseLemmas.{failed}
use Rattle.spool_rules.proofs.operations.has_locked.Goals as goal

pub look-requires : goal.look-requires
look-requires g c = inr (inl c.bytes.ensures)

pub returns-in_err-lock-clause-keeps : goal.returns-in_err-lock-clause-keeps
returns-in_err-lock-clause-keeps g c = c.look.ensures.keeps

pub returns-in_err-lock-clause-stopped : goal.returns-in_err-lock-clause-stopped
returns-in_err-lock-clause-stopped g c = let p = err_from_is_err_and c.from_residual.result c.from_residual.ensures.1 in
    rw (p.1, p.2) (failed c.args.number c.args.request.now (g.S.Spool.told c.args.out.now) (g.S.Spool.told c.look.new.out) _ _ c.in_err-lock.ensures.told refl)

pub look-requires-2 : goal.look-requires-2
look-requires-2 g c = inr (inr (inl c.bytes-2.ensures))

pub returns-in_err-beside-clause-keeps : goal.returns-in_err-beside-clause-keeps
returns-in_err-beside-clause-keeps g c = λ s. c.look-2.ensures.keeps (c.look.ensures.keeps s)

pub returns-in_err-beside-clause-stopped : goal.returns-in_err-beside-clause-stopped
returns-in_err-beside-clause-stopped g c = let p = err_from_is_err_and c.from_residual-in_err-beside.result c.from_residual-in_err-beside.ensures.1 in
    rw (p.1, p.2) (failed c.args.number c.args.request.now (g.S.Spool.told c.look.new.out) (g.S.Spool.told c.look-2.new.out) _ _ c.in_err-beside.ensures.told refl)

pub returns-clause-keeps : goal.returns-clause-keeps
returns-clause-keeps g c = λ s. c.look-2.ensures.keeps (c.look.ensures.keeps s)

pub returns-clause-locked : goal.returns-clause-locked
returns-clause-locked g c = λ e. seen_locked c.args.number c.args.request.now (g.S.Spool.told c.args.out.now) (g.S.Spool.told c.look.new.out)
    (g.S.Spool.told c.look-2.new.out) _ _ (rw c.bytes.ensures at c.in_ok-lock.ensures.told) (rw c.bytes-2.ensures at c.in_ok-beside.ensures.told) (sym c.holds.ensures ∙ e)

pub returns-clause-free : goal.returns-clause-free
returns-clause-free g c = λ e. seen_free c.args.number c.args.request.now (g.S.Spool.told c.args.out.now) (g.S.Spool.told c.look.new.out)
    (g.S.Spool.told c.look-2.new.out) _ _ (rw c.bytes.ensures at c.in_ok-lock.ensures.told) (rw c.bytes-2.ensures at c.in_ok-beside.ensures.told) (sym c.holds.ensures ∙ e)

pub returns-in_err-lock-clause-looked : goal.returns-in_err-lock-clause-looked
returns-in_err-lock-clause-looked g c = c.look.ensures.looked

pub returns-in_err-beside-clause-looked : goal.returns-in_err-beside-clause-looked
returns-in_err-beside-clause-looked g c = λ h. c.look-2.ensures.looked (c.look.ensures.looked h)

pub returns-clause-looked : goal.returns-clause-looked
returns-clause-looked g c = λ h. c.look-2.ensures.looked (c.look.ensures.looked h)
