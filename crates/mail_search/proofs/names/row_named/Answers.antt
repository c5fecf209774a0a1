use Rattle.std.proofs.Common.{ap, ◌∙◌, rules, tests}
use Rattle.std.specs.List.{find}
use Rattle.std.specs.Option.{option_map}
use Rattle.std.proofs.lemmas.Iterator.{YieldsList-from_slice}
use Rattle.std.proofs.lemmas.Iterator.Search.{find_from_yields_List}
use Rattle.mail_text.specs.Ascii.{same_ascii}
use Rattle.mail_search.specs.Names.{named_by}
use Rattle.mail_search.proofs.NameLemmas.{find-map, option_map-copied}
use Rattle.mail_search.proofs.names.row_named.Goals as goal

pub returns : goal.returns
returns c =
    let word = c.args.word.now in
    let found = find_from_yields_List (λ n. same_ascii (named_by n).name word) _ _ _ c.find.ensures.ran (YieldsList-from_slice c.rows.result.now cc) (λ x b q k. search (rules, tests)) in
    option_map-copied named_by c.find.result ∙ ap (option_map named_by) found ∙ find-map named_by (λ n. same_ascii n.name word) c.rows.result.now
    ∙ ap (find (λ n. same_ascii n.name word)) c.rows.ensures
