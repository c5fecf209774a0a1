use Rattle.std.proofs.Common.{ap, ◌∙◌, rules, tests}
use Rattle.std.specs.List.{find}
use Rattle.std.specs.Option.{option_map}
use Rattle.std.proofs.lemmas.Iterator.{YieldsList-from_slice}
use Rattle.std.proofs.lemmas.Iterator.Search.{find_from_yields_List}
use Rattle.line_words.specs.Spellings.{is_met}
use Rattle.line_words.specs.Table.{row_of}
use Rattle.line_words.proofs.TableLemmas.{find-map, option_map-copied}
use Rattle.line_words.proofs.table.spelling_of.Goals as goal

pub returns : goal.returns
returns c =
    let word = c.args.word.now in
    let found = find_from_yields_List (λ s. is_met word (row_of s)) _ _ _ c.find.ensures.ran (YieldsList-from_slice c.rows.result.now cc) (λ x b q k. search (rules, tests)) in
    option_map-copied row_of c.find.result ∙ ap (option_map row_of) found ∙ find-map row_of (is_met word) c.rows.result.now ∙ ap (find (is_met word)) c.rows.ensures
