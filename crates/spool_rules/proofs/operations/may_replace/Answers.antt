use Rattle.std.proofs.Common.{refl, sym, ◌∙◌, inl, inr}
use Rattle.std.proofs.lemmas.Result.{err_from_is_err_and}
use Rattle.spool_rules.specs.declared.words.Operation.TheVariants as op
use Rattle.spool_rules.proofs.OperationLemmas.{may_replace_now, nothing_staged}
use Rattle.spool_rules.proofs.CauseLemmas.{stopped_at, failed, saw_others, not_free, wants_lock}
use Rattle.spool_rules.proofs.operations.may_replace.Goals as goal

pub returns-in_err-has_locked-clause-keeps : goal.returns-in_err-has_locked-clause-keeps
returns-in_err-has_locked-clause-keeps g c = c.has_locked.ensures.keeps

pub returns-in_err-has_locked-clause-stopped : goal.returns-in_err-has_locked-clause-stopped
returns-in_err-has_locked-clause-stopped g c = let p = err_from_is_err_and c.from_residual.result c.from_residual.ensures.1 in
    rw (p.1, p.2) (stopped_at op.Publish c.args.number c.args.request.now _ (g.S.Spool.told c.has_locked.new.out) c.in_err-has_locked.ensures.stopped)

pub returns-then-not-branch-clause-keeps : goal.returns-then-not-branch-clause-keeps
returns-then-not-branch-clause-keeps g c = c.has_locked.ensures.keeps

pub returns-then-not-branch-clause-stopped : goal.returns-then-not-branch-clause-stopped
returns-then-not-branch-clause-stopped g c = wants_lock op.Publish c.args.number c.args.request.now (g.S.Spool.told c.has_locked.new.out) (c.in_ok-has_locked.ensures.free c.if-not-branch.true)

pub look-requires : goal.look-requires
look-requires g c = inl c.bytes.ensures

pub returns-in_err-mailbox-clause-keeps : goal.returns-in_err-mailbox-clause-keeps
returns-in_err-mailbox-clause-keeps g c = λ s. c.look.ensures.keeps (c.has_locked.ensures.keeps s)

pub returns-in_err-mailbox-clause-stopped : goal.returns-in_err-mailbox-clause-stopped
returns-in_err-mailbox-clause-stopped g c = let p =
    err_from_is_err_and c.from_residual-in_err-mailbox.result c.from_residual-in_err-mailbox.ensures.1 in
    rw (p.1, p.2) (stopped_at op.Publish c.args.number c.args.request.now _ (g.S.Spool.told c.look.new.out)
    (failed c.args.number c.args.request.now (g.S.Spool.told c.has_locked.new.out) (g.S.Spool.told c.look.new.out) _ _ c.in_err-mailbox.ensures.told refl))

pub returns-then-not-is_free-clause-keeps : goal.returns-then-not-is_free-clause-keeps
returns-then-not-is_free-clause-keeps g c = λ s. c.look.ensures.keeps (c.has_locked.ensures.keeps s)

pub returns-then-not-is_free-clause-stopped : goal.returns-then-not-is_free-clause-stopped
returns-then-not-is_free-clause-stopped g c =
    stopped_at op.Publish c.args.number c.args.request.now _ (g.S.Spool.told c.look.new.out)
    (saw_others c.args.number c.args.request.now (g.S.Spool.told c.has_locked.new.out) (g.S.Spool.told c.look.new.out) _ _
    (rw c.requires.publishes (inr c.bytes.ensures)) c.in_ok-mailbox.ensures.told (sym c.is_free.ensures ∙ c.if-not-is_free.true))

pub look-requires-2 : goal.look-requires-2
look-requires-2 g c = inr (inr (inr c.bytes-2.ensures))

pub returns-in_err-staged-clause-keeps : goal.returns-in_err-staged-clause-keeps
returns-in_err-staged-clause-keeps g c = λ s. c.look-2.ensures.keeps (c.look.ensures.keeps (c.has_locked.ensures.keeps s))

pub returns-in_err-staged-clause-stopped : goal.returns-in_err-staged-clause-stopped
returns-in_err-staged-clause-stopped g c = let p = err_from_is_err_and c.from_residual-in_err-staged.result c.from_residual-in_err-staged.ensures.1 in
    rw (p.1, p.2) (stopped_at op.Publish c.args.number c.args.request.now _ (g.S.Spool.told c.look-2.new.out)
    (failed c.args.number c.args.request.now (g.S.Spool.told c.look.new.out) (g.S.Spool.told c.look-2.new.out) _ _ c.in_err-staged.ensures.told refl))

pub returns-in-Nothing-clause-keeps : goal.returns-in-Nothing-clause-keeps
returns-in-Nothing-clause-keeps g c = λ s. c.look-2.ensures.keeps (c.look.ensures.keeps (c.has_locked.ensures.keeps s))

pub returns-in-Nothing-clause-stands : goal.returns-in-Nothing-clause-stands
returns-in-Nothing-clause-stands g c = λ e. nothing_staged c.args.number c.args.request.now (g.S.Spool.told c.has_locked.new.out)
    (g.S.Spool.told c.look.new.out) (g.S.Spool.told c.look-2.new.out) _
    (c.look-2.ensures.looked (c.look.ensures.looked (c.has_locked.ensures.looked c.requires.looked)))
    (c.in_ok-has_locked.ensures.locked c.if-not-branch.false) (rw c.bytes.ensures at c.in_ok-mailbox.ensures.told) (rw (c.bytes-2.ensures, c.in-Nothing.is) at c.in_ok-staged.ensures.told)

pub returns-then-is_own : goal.returns-then-is_own
returns-then-is_own g c = record {
  keeps = λ s. c.look-2.ensures.keeps (c.look.ensures.keeps (c.has_locked.ensures.keeps s));
  may =
      λ e. may_replace_now c.args.number c.args.request.now (g.S.Spool.told c.has_locked.new.out) (g.S.Spool.told c.look.new.out)
      (g.S.Spool.told c.look-2.new.out) _ _ (c.in_ok-has_locked.ensures.locked c.if-not-branch.false)
      (rw c.bytes.ensures at c.in_ok-mailbox.ensures.told) (rw c.bytes-2.ensures at c.in_ok-staged.ensures.told)
      (sym c.is_free.ensures ∙ c.if-not-is_free.false) (sym c.is_own.ensures ∙ c.if-is_own.true);
  stands = λ e. (cc);
  stopped = tt;
}

pub returns-else-is_own : goal.returns-else-is_own
returns-else-is_own g c = record {
  keeps = λ s. c.look-2.ensures.keeps (c.look.ensures.keeps (c.has_locked.ensures.keeps s));
  may = tt;
  stands =
      tt;
  stopped = stopped_at op.Publish c.args.number c.args.request.now _ (g.S.Spool.told c.look-2.new.out)
      (saw_others c.args.number c.args.request.now (g.S.Spool.told c.look.new.out) (g.S.Spool.told c.look-2.new.out) _ _
      (rw c.requires.publishes (inl c.bytes-2.ensures)) c.in_ok-staged.ensures.told (not_free c.args.number _ c.in_default.not-Nothing (sym c.is_own.ensures ∙ c.if-is_own.false)));
}
