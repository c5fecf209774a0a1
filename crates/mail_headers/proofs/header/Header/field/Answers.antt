use Rattle.std.proofs.Common.{sym, ◌∙◌, rules, tests}
use Rattle.std.proofs.lemmas.Iterator.Adapters.{option_map_id}
use Rattle.std.proofs.lemmas.Iterator.Consumers.{YieldsList-from_first}
use Rattle.std.proofs.lemmas.Iterator.Search.{find_from_yields_List}
use Rattle.mail_text.specs.Ascii.{same_ascii}
use Rattle.mail_headers.specs.Field.{Field}
use Rattle.mail_headers.specs.Header.{fields_of}
use Rattle.mail_headers.proofs.header.Header.field.Goals as goal

pub returns : goal.returns
returns c =
    let chain = YieldsList-from_first (λ x. x) (λ fields. fields) (fields_of c.args.self.now) c.fields.ensures in
    let found = find_from_yields_List (λ (f : Field). same_ascii f.name c.args.name.now) _ _ c.find.result c.find.ensures.ran chain (λ x b q k. search (rules, tests)) in
    sym (option_map_id c.find.result) ∙ found
