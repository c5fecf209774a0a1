use Rattle.std.proofs.Common.{sym, ◌∙◌, refl}
use Rattle.std.proofs.lemmas.Result.{err_from_is_err_and}
use Rattle.spool_rules.proofs.CallLemmas.{input_more, on_one, on_then}
use Rattle.spool_rules.proofs.LawLemmas.{cleared_name}
use Rattle.spool_rules.proofs.OperationLemmas.{own_may_go, nothing_gone, removed_gone}
use Rattle.spool_rules.proofs.CauseLemmas.{failed, clears_minds, saw_others, not_free, removed_stopped}
use Rattle.spool_rules.specs.declared.port.Step.TheVariants.{Look, Remove}
use Rattle.spool_rules.proofs.operations.clear.Goals as goal

pub look-requires : goal.look-requires
look-requires g c = cleared_name c.args.request.now.operation c.args.request.now c.args.name.now c.requires.clears

pub returns-in_err-seen-clause-keeps : goal.returns-in_err-seen-clause-keeps
returns-in_err-seen-clause-keeps g c = c.look.ensures.keeps

pub returns-in_err-seen-clause-onward : goal.returns-in_err-seen-clause-onward
returns-in_err-seen-clause-onward g c = on_one (g.S.Spool.told c.args.out.now) (g.S.Spool.told c.look.new.out) _ c.look.ensures.told

pub returns-in_err-seen-clause-stopped : goal.returns-in_err-seen-clause-stopped
returns-in_err-seen-clause-stopped g c = let p = err_from_is_err_and c.from_residual.result c.from_residual.ensures.1 in
    rw (p.1, p.2) (failed c.args.number c.args.request.now (g.S.Spool.told c.args.out.now) (g.S.Spool.told c.look.new.out) _ _ c.in_err-seen.ensures.told refl)

pub remove-requires : goal.remove-requires
remove-requires g c = own_may_go c.args.number c.args.request.now c.args.name.now (g.S.Spool.told c.args.out.now)
    (g.S.Spool.told c.look.new.out) _ c.requires.clears c.requires.after c.in_ok-seen.ensures.told (sym c.is_own.ensures ∙ c.if-is_own.true)

pub returns-in-Nothing-clause-keeps : goal.returns-in-Nothing-clause-keeps
returns-in-Nothing-clause-keeps g c = c.look.ensures.keeps

pub returns-in-Nothing-clause-gone : goal.returns-in-Nothing-clause-gone
returns-in-Nothing-clause-gone g c = nothing_gone c.args.name.now (g.S.Spool.told c.args.out.now) (g.S.Spool.told c.look.new.out) (rw c.in-Nothing.is at c.in_ok-seen.ensures.told)

pub returns-in-Nothing-clause-onward : goal.returns-in-Nothing-clause-onward
returns-in-Nothing-clause-onward g c = on_one (g.S.Spool.told c.args.out.now) (g.S.Spool.told c.look.new.out) _ c.look.ensures.told

pub returns-then-is_own : goal.returns-then-is_own
returns-then-is_own g c = record {
  input =
      λ h. input_more (g.S.Spool.told c.look.new.out) (g.S.Spool.told c.remove.new.out)
      (Remove c.args.name.now c.remove.result) tt c.remove.ensures.told
      (input_more (g.S.Spool.told c.args.out.now) (g.S.Spool.told c.look.new.out) (Look c.args.name.now c.look.result) tt c.look.ensures.told h);
  keeps = λ s. c.remove.ensures.keeps (c.look.ensures.keeps s);
  gone =
      removed_gone c.args.name.now (g.S.Spool.told c.look.new.out) (g.S.Spool.told c.remove.new.out) c.remove.result c.remove.ensures.told;
  onward =
      on_then (g.S.Spool.told c.args.out.now) (g.S.Spool.told c.look.new.out) (g.S.Spool.told c.remove.new.out)
      (on_one (g.S.Spool.told c.args.out.now) (g.S.Spool.told c.look.new.out) _ c.look.ensures.told)
      (on_one (g.S.Spool.told c.look.new.out) (g.S.Spool.told c.remove.new.out) _ c.remove.ensures.told);
  stopped =
      removed_stopped c.args.number c.args.request.now (g.S.Spool.told c.look.new.out) (g.S.Spool.told c.remove.new.out) c.args.name.now c.remove.result c.remove.ensures.told;
}

pub returns-else-is_own : goal.returns-else-is_own
returns-else-is_own g c = record {
  input =
      input_more (g.S.Spool.told c.args.out.now) (g.S.Spool.told c.look.new.out) (Look c.args.name.now c.look.result) tt c.look.ensures.told;
  keeps =
      c.look.ensures.keeps;
  gone = tt;
  onward = on_one (g.S.Spool.told c.args.out.now) (g.S.Spool.told c.look.new.out) _ c.look.ensures.told;
  stopped =
      saw_others c.args.number c.args.request.now (g.S.Spool.told c.args.out.now) (g.S.Spool.told c.look.new.out) c.args.name.now _
      (clears_minds c.args.request.now.operation c.args.request.now c.args.name.now c.requires.clears) c.in_ok-seen.ensures.told
      (not_free c.args.number _ c.in_default.not-Nothing (sym c.is_own.ensures ∙ c.if-is_own.false));
}

pub returns-in_err-seen-clause-input : goal.returns-in_err-seen-clause-input
returns-in_err-seen-clause-input g c = input_more (g.S.Spool.told c.args.out.now) (g.S.Spool.told c.look.new.out) (Look c.args.name.now c.look.result) tt c.look.ensures.told

pub returns-in-Nothing-clause-input : goal.returns-in-Nothing-clause-input
returns-in-Nothing-clause-input g c = input_more (g.S.Spool.told c.args.out.now) (g.S.Spool.told c.look.new.out) (Look c.args.name.now c.look.result) tt c.look.ensures.told
