use Rattle.std.proofs.Common.{ℕ, not, ◌∙◌, rules, tests}
use Rattle.std.proofs.lemmas.Iterator.{YieldsList-from_slice}
use Rattle.std.proofs.lemmas.Iterator.Search.{position_from_yields_List}
use Rattle.mail_text.proofs.FrontLemmas.{prefix_len-from_position}
use Rattle.mail_search.specs.Tokens.{is_run_byte}
use Rattle.mail_search.proofs.token.run_len.Goals as goal

pub returns-clause-value : goal.returns-clause-value
returns-clause-value c =
    let text = c.args.text.now in
    let found = position_from_yields_List (λ (b : ℕ). not (is_run_byte b)) _ _ c.position.result c.position.ensures.ran (YieldsList-from_slice text cc) (λ x b q k. search (rules, tests)) in
    c.unwrap_or.ensures ∙ prefix_len-from_position is_run_byte text c.position.result found
