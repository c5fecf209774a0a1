use Rattle.host_port.proofs.RanLemmas.{Ran-map}
use Rattle.session_state.specs.Saving.{saved}
use Rattle.activities.specs.Acting.{Committed}
use Rattle.activities.proofs.DriveLemmas.{replied, cut-off}
use Rattle.activities.proofs.driving.save.Goals as goal

pub returns-in-Ok-clause-ran : goal.returns-in-Ok-clause-ran
returns-in-Ok-clause-ran g c = Ran-map (replied (saved c.args.state.now c.args.changes) Committed _) c.in-Ok.ensures.ran

pub returns-in-Err-clause-ran : goal.returns-in-Err-clause-ran
returns-in-Err-clause-ran g c = Ran-map (cut-off (saved c.args.state.now c.args.changes) Committed _) c.in-Err.ensures.ran
