use Rattle.std.proofs.Common.{ap, ◌∙◌}
use Rattle.std.specs.List.{position}
use Rattle.mailx_vars.specs.Changes.{named}
use Rattle.mailx_vars.specs.Settings.{Settings}
use Rattle.mailx_vars.proofs.PairLemmas.{found_here, out_here}
use Rattle.mailx_vars.proofs.settings.take_out.Goals as goal

pub returns-in-Some-clause-said : goal.returns-in-Some-clause-said
returns-in-Some-clause-said c =
    let name = c.args.name.now in
    found_here name c.args.list.now.items c.in-Some.k
    (c.in-Some.ensures ∙ ap (λ (vars : Settings). position (named name) vars) c.deref.ensures.value)

pub returns-in-Some-clause-items : goal.returns-in-Some-clause-items
returns-in-Some-clause-items c =
    let name = c.args.name.now in
    c.remove.ensures.items
    ∙ out_here name c.args.list.now.items c.in-Some.k
    (c.in-Some.ensures ∙ ap (λ (vars : Settings). position (named name) vars) c.deref.ensures.value)
