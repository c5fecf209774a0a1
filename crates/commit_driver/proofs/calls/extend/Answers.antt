use Rattle.host_port.proofs.RanLemmas.{called, extended-counted}
use Rattle.commit_driver.proofs.CallLemmas.{extended}
use Rattle.commit_driver.proofs.calls.extend.Goals as goal

pub returns-clause-ran : goal.returns-clause-ran
returns-clause-ran g c = called (extended c.args.name.now c.args.at c.args.bytes.now c.extend.result)
    (extended-counted c.args.name.now c.args.at c.args.bytes.now c.extend.result _ _ c.extend.ensures.cause) c.extend.ensures.start c.extend.ensures.counts c.extend.ensures.call
