use Rattle.folder_recovery.proofs.BusyLemmas.{ran-completely}
use Rattle.folder_recovery.proofs.SafeLemmas.{ran-safely}
use Rattle.folder_recovery.proofs.ToldLemmas.{is-told}
use Rattle.host_port.proofs.RanLemmas.{Ran-map}
use Rattle.folder_recovery.proofs.recovery.recover.Goals as goal

pub returns-clause-safe : goal.returns-clause-safe
returns-clause-safe g c = λ token before es at to may. ran-safely c.args.actor.now token c.run.result before es (c.run.ensures.ran token) at to may

pub returns-clause-told : goal.returns-clause-told
returns-clause-told g c = Ran-map (λ es h. is-told c.args.actor.now 0 es c.run.result h) (c.run.ensures.ran 0)

pub returns-clause-complete : goal.returns-clause-complete
returns-clause-complete g c = ran-completely c.args.actor.now c.run.result (c.run.ensures.ran 0) c.run.ensures.cause
