use Rattle.host_port.proofs.RanLemmas.{called, published-counted}
use Rattle.commit_driver.proofs.CallLemmas.{published}
use Rattle.commit_driver.proofs.calls.publish.Goals as goal

pub returns-clause-ran : goal.returns-clause-ran
returns-clause-ran g c = called (published c.args.from.now c.args.to.now c.publish.result)
    (published-counted c.args.from.now c.args.to.now c.publish.result _ _ c.publish.ensures.cause) c.publish.ensures.start c.publish.ensures.counts c.publish.ensures.call
