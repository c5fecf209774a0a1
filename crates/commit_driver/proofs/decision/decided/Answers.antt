use Rattle.std.proofs.Common.{length, ap, sym, ◌∙◌}
use Rattle.commit_driver.proofs.WayLemmas.{ways-long}
use Rattle.commit_driver.proofs.decision.decided.Goals as goal

pub decided_text-requires-clause-ways : goal.decided_text-requires-clause-ways
decided_text-requires-clause-ways c =
    ap length (c.items.ensures ∙ c.in_ok-ways.ensures) ∙ ways-long c.args.files.now c.args.tails.now (c.requires.tails ∙ sym c.requires.files) ∙ c.requires.files
