use Rattle.std.proofs.Common.{sym, ◌∙◌}
use Rattle.mail_headers.proofs.UnfoldLemmas.{without_feeds-none}
use Rattle.mail_headers.proofs.unfold.unfold_value.Goals as goal

pub returns-then-flat : goal.returns-then-flat
returns-then-flat c =
    let flat = c.trimmed-value.ensures.flat (c.is_flat-flat.ensures c.if-flat.true) in
    sym (without_feeds-none c.trimmed-value.result.now flat) ∙ c.trimmed-value.ensures.value
