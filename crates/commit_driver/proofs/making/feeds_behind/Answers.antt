use Rattle.std.proofs.Common.{◌++◌, ◌∙◌, List, ℕ, ap, arith}
use Rattle.folder_change.specs.Outcomes.{missing_feeds}
use Rattle.commit_driver.proofs.MakingLemmas.{feeds-held, feeds-seam}
use Rattle.commit_driver.proofs.making.feeds_behind.Goals as goal

pub returns-then-held-ge-END : goal.returns-then-held-ge-END
returns-then-held-ge-END c = λ front ends. c.missing_feeds.ensures ∙ feeds-held front c.args.end.now c.args.held.now (omega (arith, c.if-held-ge-END.true))

pub returns : goal.returns
returns c = λ front ends.
    c.missing_feeds-2.ensures
    ∙ ap missing_feeds (c.bytes.ensures ∙ c.in_ok-push.ensures.ok ∙ ap (λ (l : List ℕ). l ++ c.args.held.now) c.in_ok-seam.ensures)
    ∙ feeds-seam front c.args.end.now c.args.held.now ends
