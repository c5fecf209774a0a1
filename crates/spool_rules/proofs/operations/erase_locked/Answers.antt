use Rattle.std.proofs.Common.{sym, ◌∙◌, refl, inl}
use Rattle.std.proofs.lemmas.Result.{err_from_is_err_and}
use Rattle.spool_rules.proofs.OperationLemmas.{mailbox_may_go, nothing_gone, removed_gone}
use Rattle.spool_rules.proofs.CauseLemmas.{failed, saw_others, not_free, removed_stopped}
use Rattle.spool_rules.proofs.operations.erase_locked.Goals as goal

pub look-requires : goal.look-requires
look-requires g c = inl c.bytes.ensures

pub returns-in_err-seen-clause-keeps : goal.returns-in_err-seen-clause-keeps
returns-in_err-seen-clause-keeps g c = c.look.ensures.keeps

pub returns-in_err-seen-clause-stopped : goal.returns-in_err-seen-clause-stopped
returns-in_err-seen-clause-stopped g c = let p = err_from_is_err_and c.from_residual.result c.from_residual.ensures.1 in
    rw (p.1, p.2) (failed c.args.number c.args.request.now (g.S.Spool.told c.args.out.now) (g.S.Spool.told c.look.new.out) _ _ c.in_err-seen.ensures.told refl)

pub remove-requires : goal.remove-requires
remove-requires g c = rw c.bytes-then-is_own.ensures
    (mailbox_may_go c.args.number c.args.request.now (g.S.Spool.told c.args.out.now)
    (g.S.Spool.told c.look.new.out) _ c.requires.erases c.requires.locked (rw c.bytes.ensures at c.in_ok-seen.ensures.told) (sym c.is_own.ensures ∙ c.if-is_own.true))

pub returns-in-Nothing-clause-keeps : goal.returns-in-Nothing-clause-keeps
returns-in-Nothing-clause-keeps g c = c.look.ensures.keeps

pub returns-in-Nothing-clause-gone : goal.returns-in-Nothing-clause-gone
returns-in-Nothing-clause-gone g c = nothing_gone c.args.request.now.mailbox (g.S.Spool.told c.args.out.now) (g.S.Spool.told c.look.new.out)
    (rw (c.bytes.ensures, c.in-Nothing.is) at c.in_ok-seen.ensures.told)

pub returns-then-is_own : goal.returns-then-is_own
returns-then-is_own g c = record {
  keeps = λ s. c.remove.ensures.keeps (c.look.ensures.keeps s);
  gone =
      removed_gone c.args.request.now.mailbox (g.S.Spool.told c.look.new.out) (g.S.Spool.told c.remove.new.out) c.remove.result
      (rw c.bytes-then-is_own.ensures at c.remove.ensures.told);
  stopped =
      removed_stopped c.args.number c.args.request.now (g.S.Spool.told c.look.new.out) (g.S.Spool.told c.remove.new.out) _ c.remove.result c.remove.ensures.told;
}

pub returns-else-is_own : goal.returns-else-is_own
returns-else-is_own g c = record {
  keeps = c.look.ensures.keeps;
  gone = tt;
  stopped =
      saw_others c.args.number c.args.request.now (g.S.Spool.told c.args.out.now) (g.S.Spool.told c.look.new.out) _ _
      (rw c.requires.erases c.bytes.ensures) c.in_ok-seen.ensures.told (not_free c.args.number _ c.in_default.not-Nothing (sym c.is_own.ensures ∙ c.if-is_own.false));
}
