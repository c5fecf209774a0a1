use Rattle.std.proofs.Common.{ap, ◌∙◌, ◌++◌}
use Rattle.std.specs.Prelude.{codes}
use Rattle.folder_commands.proofs.GrowingLemmas.{news-text}
use Rattle.folder_commands.proofs.growing.news_line.Goals as goal

pub returns : goal.returns
returns c = news-text _ _ (c.in_ok-push.ensures.ok ∙ ap (λ l. l ++ codes " new messages\n") (c.in_ok-line.ensures ∙ c.as_bytes.ensures.value ∙ c.format.ensures.text))
