use Rattle.host_port.proofs.RanLemmas.{called, seized-counted}
use Rattle.commit_driver.proofs.CallLemmas.{seized}
use Rattle.commit_driver.proofs.calls.seize.Goals as goal

pub returns-clause-ran : goal.returns-clause-ran
returns-clause-ran g c = called (seized c.args.name.now c.seize.result)
    (seized-counted c.args.name.now c.seize.result _ _ c.seize.ensures.cause) c.seize.ensures.start c.seize.ensures.counts c.seize.ensures.call
