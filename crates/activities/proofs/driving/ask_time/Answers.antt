use Rattle.host_port.proofs.RanLemmas.{Ran-map}
use Rattle.session_play.specs.Play.{Ask, Ret, Now}
use Rattle.activities.specs.Acting.{Time}
use Rattle.activities.proofs.DriveLemmas.{replied, cut-off}
use Rattle.activities.proofs.driving.ask_time.Goals as goal

pub returns-in-Ok-clause-ran : goal.returns-in-Ok-clause-ran
returns-in-Ok-clause-ran g c = Ran-map (replied (Ask (Now c.args.state.now.desk.places.tz) Ret) Time _) (rw c.bytes.ensures at c.in-Ok.ensures.ran)

pub returns-in-Err-clause-ran : goal.returns-in-Err-clause-ran
returns-in-Err-clause-ran g c =
    Ran-map (cut-off (Ask (Now c.args.state.now.desk.places.tz) Ret) Time _) (rw (c.bytes.ensures, c.in-Err.ensures.only_memory) at c.in-Err.ensures.ran)
