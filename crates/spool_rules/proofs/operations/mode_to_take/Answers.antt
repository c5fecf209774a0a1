use Rattle.std.proofs.Common.{refl, inl, inr, eq-eqb}
use Rattle.std.proofs.lemmas.Result.{err_from_is_err_and}
use Rattle.spool_rules.proofs.CallLemmas.{input_more}
use Rattle.spool_rules.proofs.OperationLemmas.{may_take_now}
use Rattle.spool_rules.proofs.CauseLemmas.{failed, saw_others, others_owner}
use Rattle.spool_rules.specs.declared.port.Step.TheVariants.{Look}
use Rattle.spool_rules.specs.declared.port.Seen.TheVariants.{Nothing, File, Other}
use Rattle.spool_rules.proofs.operations.mode_to_take.Goals as goal

pub look-requires : goal.look-requires
look-requires g c = inl c.bytes.ensures

pub returns-in_err-look-clause-keeps : goal.returns-in_err-look-clause-keeps
returns-in_err-look-clause-keeps g c = c.look.ensures.keeps

pub returns-in_err-look-clause-stopped : goal.returns-in_err-look-clause-stopped
returns-in_err-look-clause-stopped g c = let p = err_from_is_err_and c.from_residual.result c.from_residual.ensures.1 in
    rw (p.1, p.2) (failed c.args.number c.args.request.now (g.S.Spool.told c.args.out.now) (g.S.Spool.told c.look.new.out) _ _ c.in_err-look.ensures.told refl)

pub returns-in-Nothing-clause-keeps : goal.returns-in-Nothing-clause-keeps
returns-in-Nothing-clause-keeps g c = c.look.ensures.keeps

pub returns-in-File-clause-keeps : goal.returns-in-File-clause-keeps
returns-in-File-clause-keeps g c = c.look.ensures.keeps

pub returns-in_default-clause-keeps : goal.returns-in_default-clause-keeps
returns-in_default-clause-keeps g c = c.look.ensures.keeps

pub returns-in_default-2-clause-keeps : goal.returns-in_default-2-clause-keeps
returns-in_default-2-clause-keeps g c = c.look.ensures.keeps

pub returns-in-Nothing-clause-mode : goal.returns-in-Nothing-clause-mode
returns-in-Nothing-clause-mode g c = may_take_now c.args.number c.args.request.now (g.S.Spool.told c.args.out.now)
    (g.S.Spool.told c.look.new.out) Nothing 432 c.requires.gone c.requires.locked (rw (c.bytes.ensures, c.in-Nothing.is) at c.in_ok-look.ensures.told) refl refl

pub returns-in-File-clause-mode : goal.returns-in-File-clause-mode
returns-in-File-clause-mode g c = may_take_now c.args.number c.args.request.now (g.S.Spool.told c.args.out.now) (g.S.Spool.told c.look.new.out)
    (File c.in-File.found) c.in-File.found.mode c.requires.gone c.requires.locked (rw (c.bytes.ensures, c.in-File.is) at c.in_ok-look.ensures.told)
    (eq-eqb c.in-File.found.owner c.args.number c.if-found-number.true) refl

pub returns-in_default-clause-stopped : goal.returns-in_default-clause-stopped
returns-in_default-clause-stopped g c = saw_others c.args.number c.args.request.now (g.S.Spool.told c.args.out.now) (g.S.Spool.told c.look.new.out) _
    (File c.in-File.found) (rw c.requires.stages (inr c.bytes.ensures)) (rw c.in-File.is at c.in_ok-look.ensures.told) (others_owner c.in-File.found c.args.number c.if-found-number.false)

pub returns-in_default-2-clause-stopped : goal.returns-in_default-2-clause-stopped
returns-in_default-2-clause-stopped g c =
    saw_others c.args.number c.args.request.now (g.S.Spool.told c.args.out.now) (g.S.Spool.told c.look.new.out) _ Other
    (rw c.requires.stages (inr c.bytes.ensures)) (rw c.in_default.is at c.in_ok-look.ensures.told) refl

pub returns-in_err-look-clause-input : goal.returns-in_err-look-clause-input
returns-in_err-look-clause-input g c = input_more (g.S.Spool.told c.args.out.now) (g.S.Spool.told c.look.new.out) (Look _ c.look.result) tt c.look.ensures.told

pub returns-in-Nothing-clause-input : goal.returns-in-Nothing-clause-input
returns-in-Nothing-clause-input g c = input_more (g.S.Spool.told c.args.out.now) (g.S.Spool.told c.look.new.out) (Look _ c.look.result) tt c.look.ensures.told

pub returns-in-File-clause-input : goal.returns-in-File-clause-input
returns-in-File-clause-input g c = input_more (g.S.Spool.told c.args.out.now) (g.S.Spool.told c.look.new.out) (Look _ c.look.result) tt c.look.ensures.told

pub returns-in_default-clause-input : goal.returns-in_default-clause-input
returns-in_default-clause-input g c = input_more (g.S.Spool.told c.args.out.now) (g.S.Spool.told c.look.new.out) (Look _ c.look.result) tt c.look.ensures.told

pub returns-in_default-2-clause-input : goal.returns-in_default-2-clause-input
returns-in_default-2-clause-input g c = input_more (g.S.Spool.told c.args.out.now) (g.S.Spool.told c.look.new.out) (Look _ c.look.result) tt c.look.ensures.told
