use Rattle.host_port.proofs.RanLemmas.{called, loaded-counted}
use Rattle.commit_driver.proofs.CallLemmas.{loaded}
use Rattle.commit_driver.proofs.calls.load.Goals as goal

pub returns-clause-ran : goal.returns-clause-ran
returns-clause-ran g c = called (λ d e. loaded _ _ c.args.name.now c.load.result d e c.load.ensures.cause)
    (loaded-counted c.args.name.now c.load.result _ _ c.load.ensures.cause) c.load.ensures.start c.load.ensures.counts c.load.ensures.call
