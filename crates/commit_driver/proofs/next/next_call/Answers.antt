use Rattle.std.proofs.Common.{subst, sym}
use Rattle.commit_driver.specs.Places.{NextOf}
use Rattle.commit_driver.proofs.NextLemmas.{next-of}
use Rattle.commit_driver.proofs.next.next_call.Goals as goal

pub returns-clause-next : goal.returns-clause-next
returns-clause-next c = subst (NextOf c.args.plan.now c.args.place.now) (sym c.call_at.ensures) (next-of c.args.plan.now c.args.place.now)
