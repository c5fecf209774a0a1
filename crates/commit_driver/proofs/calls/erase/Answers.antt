use Rattle.host_port.proofs.RanLemmas.{called, erased-counted}
use Rattle.commit_driver.proofs.CallLemmas.{erased}
use Rattle.commit_driver.proofs.calls.erase.Goals as goal

pub returns-clause-ran : goal.returns-clause-ran
returns-clause-ran g c = called (erased c.args.name.now c.erase.result)
    (erased-counted c.args.name.now c.erase.result _ _ c.erase.ensures.cause) c.erase.ensures.start c.erase.ensures.counts c.erase.ensures.call
