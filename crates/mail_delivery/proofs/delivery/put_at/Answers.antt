use Rattle.host_port.proofs.RanLemmas.{Ran-none, Ran-map}
use Rattle.mail_delivery.proofs.StepLemmas.{committed, uncommitted}
use Rattle.mail_delivery.proofs.delivery.put_at.Goals as goal

pub returns-in-Ok-clause-ran : goal.returns-in-Ok-clause-ran
returns-in-Ok-clause-ran g c =
    Ran-map (λ es goes. committed c.args.request.now c.args.env.now c.args.m c.args.body c.in-Ok.changes c.commit_changes.result es c.in-Ok.ensures goes)
    (rw c.items.ensures at c.commit_changes.ensures.ran)

pub returns-in-Err-clause-ran : goal.returns-in-Err-clause-ran
returns-in-Err-clause-ran g c = Ran-none (uncommitted c.args.request.now c.args.env.now c.args.m c.args.body)
