use Rattle.std.proofs.Common.{◌≡◌, ◌∙◌, ℕ, List, Option, ap, sym, subst, refl}
use Rattle.std.specs.Prelude.{option_copied}
use Rattle.std.proofs.lemmas.Result.{err_from_is_err_and, on_ok_weaker}
use Rattle.folder_change.specs.Outcomes.{base_list, outcome_of}
use Rattle.commit_driver.specs.Holding.{IsHeldOf, MakesHeld}
use Rattle.commit_driver.proofs.MakingLemmas.{memory-explains}
use Rattle.commit_driver.proofs.making.change_file.Goals as goal

pub returns-in_err-change_part-in-Some-clause-err : goal.returns-in_err-change_part-in-Some-clause-err
returns-in_err-change_part-in-Some-clause-err c = λ whole is.
    let texts = base_list (option_copied c.args.base) in
    let part = subst (λ (s : Option ℕ). IsHeldOf s c.args.end.now whole c.args.file.now) c.in-Some.is is in
    memory-explains (outcome_of whole c.args.change.now texts) c.from_residual.result (c.in_err-change_part-in-Some.ensures.can c.in-Some.field-0 whole texts part)
    (err_from_is_err_and c.from_residual.result c.from_residual.ensures.1)

pub returns-in_ok-change_part-in-Some-clause-ok : goal.returns-in_ok-change_part-in-Some-clause-ok
returns-in_ok-change_part-in-Some-clause-ok c = λ whole is.
    let texts = base_list (option_copied c.args.base) in
    let part = subst (λ (s : Option ℕ). IsHeldOf s c.args.end.now whole c.args.file.now) c.in-Some.is is in
    subst (λ (s : Option ℕ). MakesHeld s c.args.end.now c.args.change.now texts whole c.change_part.new.file) (sym c.in-Some.is)
    (c.in_ok-change_part-in-Some.ensures.made c.in-Some.field-0 whole texts part)

pub returns-in-None-clause-ok : goal.returns-in-None-clause-ok
returns-in-None-clause-ok c = λ whole is.
    let texts = base_list (option_copied c.args.base) in
    let new = c.change_whole.new.file in
    let same : c.args.file.now ≡ whole = subst (λ (s : Option ℕ). IsHeldOf s c.args.end.now whole c.args.file.now) c.in-None.is is in
    on_ok_weaker c.change_whole.result
    (λ made. subst (λ (s : Option ℕ). MakesHeld s c.args.end.now c.args.change.now texts whole new) (sym c.in-None.is)
    (new, ap (λ (w : Option (List ℕ)). outcome_of w c.args.change.now texts) (sym same) ∙ made, refl))
    c.change_whole.ensures.ok
