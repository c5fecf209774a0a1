use Rattle.std.proofs.Common.{ℕ, not, ◌∙◌, rules, tests}
use Rattle.std.proofs.lemmas.Iterator.{YieldsList-from_slice}
use Rattle.std.proofs.lemmas.Iterator.Search.{position_from_yields_List}
use Rattle.mail_text.proofs.FrontLemmas.{prefix_len-from_position}
use Rattle.mbox_scan.specs.Mailbox.{is_feed}
use Rattle.mbox_scan.proofs.growth.leading_feeds.Goals as goal

pub returns-clause-value : goal.returns-clause-value
returns-clause-value c =
    let bytes = c.args.bytes.now in
    let found = position_from_yields_List (λ (b : ℕ). not (is_feed b)) _ _ c.position.result c.position.ensures.ran (YieldsList-from_slice bytes cc) (λ x b q k. search (rules, tests)) in
    c.unwrap_or.ensures ∙ prefix_len-from_position is_feed bytes c.position.result found
