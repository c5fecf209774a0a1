use Rattle.std.proofs.Common.{List, ap, ◌∙◌}
use Rattle.std.specs.List.{position}
use Rattle.mailx_macros.specs.Macros.{Macro, named}
use Rattle.mailx_macros.proofs.PlaceLemmas.{found_here, out_here}
use Rattle.mailx_macros.proofs.macros.take_out.Goals as goal

pub returns-in-Some-clause-said : goal.returns-in-Some-clause-said
returns-in-Some-clause-said c =
    let name = c.args.name.now in
    found_here name c.args.list.now.items c.in-Some.k
    (c.in-Some.ensures ∙ ap (λ (macros : List Macro). position (named name) macros) c.deref.ensures.value)

pub returns-in-Some-clause-items : goal.returns-in-Some-clause-items
returns-in-Some-clause-items c =
    let name = c.args.name.now in
    c.remove-lines.ensures.items
    ∙ out_here name c.args.list.now.items c.in-Some.k
    (c.in-Some.ensures ∙ ap (λ (macros : List Macro). position (named name) macros) c.deref.ensures.value)
