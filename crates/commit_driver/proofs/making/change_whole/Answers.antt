use Rattle.std.proofs.Common.{◌∙◌, List, ℕ, [], Option, ap, refl}
use Rattle.std.specs.Prelude.{option_copied}
use Rattle.folder_change.specs.Outcomes.{base_list, outcome_of}
use Rattle.commit_driver.proofs.making.change_whole.Goals as goal

pub returns-in_ok-add-in-Some-clause-ok : goal.returns-in_ok-add-in-Some-clause-ok
returns-in_ok-add-in-Some-clause-ok c =
    let texts = base_list (option_copied c.args.base) in
    ap (λ (f : Option (List ℕ)). outcome_of f c.args.change.now texts) c.in-Some.is ∙ c.in_ok-add-in-Some.ensures.made [] texts refl
