use Rattle.host_port.proofs.RanLemmas.{called, said-counted}
use Rattle.mailx_top.proofs.EndLemmas.{said-far}
use Rattle.mailx_top.proofs.trying.say_stop.Goals as goal

pub returns : goal.returns
returns g c = called (said-far c.say.result _ _ c.stop_line.ensures) (said-counted c.say.result _ _ _ c.say.ensures.cause) c.say.ensures.start c.say.ensures.counts c.say.ensures.call
