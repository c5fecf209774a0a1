use Rattle.host_port.proofs.RanLemmas.{Ran-map, Ran-then}
use Rattle.commit_driver.proofs.BeginLemmas.{begins-taken, begins-busy, begins-failed}
use Rattle.commit_driver.proofs.beginning.begin.Goals as goal

pub returns-in-Ok-true-clause-ran : goal.returns-in-Ok-true-clause-ran
returns-in-Ok-true-clause-ran g c = λ j is. Ran-map (begins-taken j c.args.right.now is) (rw c.in-Ok-true.field-0-test at c.in-Ok-true.ensures.ran)

pub returns-in-Ok-false-clause-ran : goal.returns-in-Ok-false-clause-ran
returns-in-Ok-false-clause-ran g c = λ j is. Ran-map (begins-busy j c.args.right.now is) (rw c.in-Ok-false.field-0-test at c.in-Ok-false.ensures.ran)

pub returns-in-Err-clause-ran : goal.returns-in-Err-clause-ran
returns-in-Err-clause-ran g c = λ j is. Ran-then (begins-failed j c.args.right.now is) c.in-Err.ensures.ran c.release.ensures.ran
