use Rattle.std.proofs.Common.{sym}
use Rattle.compose_tilde.proofs.GrownLemmas.{fed-last, fed-none}
use Rattle.compose_tilde.proofs.values.is_ended.Goals as goal

pub returns-in-Some : goal.returns-in-Some
returns-in-Some c = fed-last c.args.body.now c.in-Some.last.now (sym c.in-Some.ensures.value)

pub returns-in-None : goal.returns-in-None
returns-in-None c = fed-none c.args.body.now (sym c.in-None.ensures.value)
