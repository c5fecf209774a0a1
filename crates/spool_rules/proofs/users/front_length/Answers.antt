use Rattle.std.proofs.Common.{ℕ, not, ◌∙◌, rules, tests}
use Rattle.std.proofs.lemmas.Iterator.{YieldsList-from_slice}
use Rattle.std.proofs.lemmas.Iterator.Search.{position_from_yields_List}
use Rattle.mail_text.proofs.FrontLemmas.{prefix_len-from_position}
use Rattle.spool_rules.specs.Users.{is_no_colon}
use Rattle.spool_rules.proofs.users.front_length.Goals as goal

pub returns-clause-value : goal.returns-clause-value
returns-clause-value c =
    let line = c.args.line.now in
    let found = position_from_yields_List (λ (b : ℕ). not (is_no_colon b)) _ _ c.position.result c.position.ensures.ran (YieldsList-from_slice line cc) (λ x b q k. search (rules, tests)) in
    c.unwrap_or.ensures ∙ prefix_len-from_position is_no_colon line c.position.result found
