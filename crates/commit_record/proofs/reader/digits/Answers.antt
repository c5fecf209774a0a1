use Rattle.std.proofs.Common.{ℕ, not, ◌∙◌, rules, tests}
use Rattle.std.proofs.lemmas.Iterator.{YieldsList-from_slice}
use Rattle.std.proofs.lemmas.Iterator.Search.{position_from_yields_List}
use Rattle.std.specs.Char.{is_ascii_digit}
use Rattle.mail_text.proofs.FrontLemmas.{prefix_len-from_position}
use Rattle.commit_record.proofs.reader.digits.Goals as goal

pub returns-clause-value : goal.returns-clause-value
returns-clause-value c =
    let bytes = c.args.bytes.now in
    let found = position_from_yields_List (λ (b : ℕ). not (is_ascii_digit b)) _ _ c.position.result c.position.ensures.ran (YieldsList-from_slice bytes cc) (λ x b q k. search (rules, tests)) in
    c.unwrap_or.ensures ∙ prefix_len-from_position is_ascii_digit bytes c.position.result found
