use Rattle.host_port.proofs.RanLemmas.{Ran-map}
use Rattle.session_play.specs.Play.{Ask, Ret, Say}
use Rattle.activities.specs.Acting.{Said}
use Rattle.activities.proofs.DriveLemmas.{replied, cut-off}
use Rattle.activities.proofs.driving.print.Goals as goal

pub returns-in-Ok-clause-ran : goal.returns-in-Ok-clause-ran
returns-in-Ok-clause-ran g c = Ran-map (replied (Ask (Say c.args.bytes.now) Ret) (λ _. Said) _) (rw c.bytes.ensures at c.in-Ok.ensures.ran)

pub returns-in-Err-clause-ran : goal.returns-in-Err-clause-ran
returns-in-Err-clause-ran g c = Ran-map (cut-off (Ask (Say c.args.bytes.now) Ret) (λ _. Said) _) (rw c.bytes.ensures at c.in-Err.ensures.ran)
