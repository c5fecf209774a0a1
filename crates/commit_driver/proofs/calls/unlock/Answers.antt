use Rattle.host_port.proofs.RanLemmas.{called, unlocked-counted}
use Rattle.commit_driver.proofs.CallLemmas.{unlocked}
use Rattle.commit_driver.proofs.calls.unlock.Goals as goal

pub returns-clause-ran : goal.returns-clause-ran
returns-clause-ran g c = called (unlocked c.args.name.now c.args.token c.unlock.result)
    (unlocked-counted c.args.name.now c.args.token c.unlock.result _ _ c.unlock.ensures.cause) c.unlock.ensures.start c.unlock.ensures.counts c.unlock.ensures.call
