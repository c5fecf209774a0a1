use Rattle.std.proofs.Common.{refl}
use Rattle.host_port.proofs.RanLemmas.{Ran-then, Ran-map}
use Rattle.mailx_session.specs.Leaving.{then_leaves, ends_before, cut_before}
use Rattle.mailx_session.proofs.leaving.end_input.Goals as goal

pub returns-in-Ok-Go-clause-ran : goal.returns-in-Ok-Go-clause-ran
returns-in-Ok-Go-clause-ran g c =
    Ran-then (λ front rest finished goes. then_leaves front rest refl finished goes) (rw c.in-Ok-Go.field-0-is at c.in-Ok-Go.ensures.ran) c.leave.ensures.ran

pub returns-in-Ok-End-clause-ran : goal.returns-in-Ok-End-clause-ran
returns-in-Ok-End-clause-ran g c = Ran-map (λ es finished. ends_before finished) (rw c.in-Ok-End.field-0-is at c.in-Ok-End.ensures.ran)

pub returns-in-Ok-End-clause-end : goal.returns-in-Ok-End-clause-end
returns-in-Ok-End-clause-end g c = rw c.in-Ok-End.field-0-is at c.in-Ok-End.ensures.done

pub returns-in-Err-clause-ran : goal.returns-in-Err-clause-ran
returns-in-Err-clause-ran g c = Ran-map (λ es finished. cut_before finished) c.in-Err.ensures.ran
