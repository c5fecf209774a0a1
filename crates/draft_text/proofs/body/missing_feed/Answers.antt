use Rattle.std.proofs.Common.{sym}
use Rattle.draft_text.proofs.BodyLemmas.{fed-ended, fed-unended, fed-empty}
use Rattle.draft_text.proofs.body.missing_feed.Goals as goal

pub returns-then-last-eq10 : goal.returns-then-last-eq10
returns-then-last-eq10 c = fed-ended c.args.body.now c.in-Some.last.now (sym c.in-Some.ensures.value) c.if-last-eq10.true

pub returns-else-last-eq10 : goal.returns-else-last-eq10
returns-else-last-eq10 c = fed-unended c.args.body.now c.in-Some.last.now (sym c.in-Some.ensures.value) c.if-last-eq10.false

pub returns-in-None : goal.returns-in-None
returns-in-None c = fed-empty c.args.body.now (sym c.in-None.ensures.value)
