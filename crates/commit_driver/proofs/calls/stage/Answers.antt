use Rattle.host_port.proofs.RanLemmas.{called, staged-counted}
use Rattle.commit_driver.proofs.CallLemmas.{staged}
use Rattle.commit_driver.proofs.calls.stage.Goals as goal

pub returns-clause-ran : goal.returns-clause-ran
returns-clause-ran g c = called (staged c.args.name.now c.args.bytes.now c.stage.result)
    (staged-counted c.args.name.now c.args.bytes.now c.stage.result _ _ c.stage.ensures.cause) c.stage.ensures.start c.stage.ensures.counts c.stage.ensures.call
