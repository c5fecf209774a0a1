use Rattle.std.proofs.Common.{refl}
use Rattle.host_port.proofs.RanLemmas.{Ran-then, Ran-map}
use Rattle.mailx_session.specs.Startup.{begun, unread}
use Rattle.mailx_session.proofs.startup.startup_file.Goals as goal

pub returns-in-Ok-waiting_lines-clause-ran : goal.returns-in-Ok-waiting_lines-clause-ran
returns-in-Ok-waiting_lines-clause-ran g c =
    Ran-then (λ front rest goes waits. begun front rest refl goes waits) c.in-Ok.ensures.ran
    (rw (c.in-Ok-waiting_lines.ensures.goes_on c.load_startup.ensures.waits) at c.in-Ok-waiting_lines.ensures.ran)

pub returns-in-Err-waiting_lines-clause-ran : goal.returns-in-Err-waiting_lines-clause-ran
returns-in-Err-waiting_lines-clause-ran g c =
    Ran-then (λ front rest goes waits. begun front rest refl goes waits) c.in-Ok.ensures.ran c.in-Err-waiting_lines.ensures.ran

pub returns-in-Err-clause-ran : goal.returns-in-Err-clause-ran
returns-in-Err-clause-ran g c = Ran-map (λ es goes. unread goes) c.in-Err.ensures.ran
