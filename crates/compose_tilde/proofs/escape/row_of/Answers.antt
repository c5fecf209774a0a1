use Rattle.std.proofs.Common.{ap, ◌∙◌, ◌==◌, rules, tests}
use Rattle.std.specs.List.{find}
use Rattle.std.proofs.lemmas.Iterator.{YieldsList-from_slice}
use Rattle.std.proofs.lemmas.Iterator.Search.{find_from_yields_List}
use Rattle.compose_tilde.proofs.escape.row_of.Goals as goal

pub returns : goal.returns
returns c =
    let found = find_from_yields_List (λ r. r.letter == c.args.letter) _ _ _ c.find.ensures.ran (YieldsList-from_slice c.rows.result.now cc) (λ x b q k. search (rules, tests)) in
    found ∙ ap (find (λ r. r.letter == c.args.letter)) c.rows.ensures
