use Rattle.host_port.proofs.RanLemmas.{called, locked-counted}
use Rattle.commit_driver.proofs.CallLemmas.{locked}
use Rattle.commit_driver.proofs.calls.lock.Goals as goal

pub returns-clause-ran : goal.returns-clause-ran
returns-clause-ran g c = called (locked c.args.name.now c.args.token c.lock.result)
    (locked-counted c.args.name.now c.args.token c.lock.result _ _ c.lock.ensures.cause) c.lock.ensures.start c.lock.ensures.counts c.lock.ensures.call
