use Rattle.host_port.proofs.RanLemmas.{Ran-map}
use Rattle.session_play.specs.Play.{Ask, Ret, Try}
use Rattle.session_state.proofs.NameLemmas.{file-name}
use Rattle.activities.specs.Acting.{Loaded}
use Rattle.activities.proofs.DriveLemmas.{replied, cut-off}
use Rattle.activities.proofs.driving.load.Goals as goal

pub try_load-requires : goal.try_load-requires
try_load-requires g c = rw c.bytes.ensures (file-name c.args.file.now c.requires)

pub returns-in-Ok-clause-ran : goal.returns-in-Ok-clause-ran
returns-in-Ok-clause-ran g c = Ran-map (replied (Ask (Try c.args.file.now) Ret) Loaded _) (rw c.bytes.ensures at c.in-Ok.ensures.ran)

pub returns-in-Err-clause-ran : goal.returns-in-Err-clause-ran
returns-in-Err-clause-ran g c = Ran-map (cut-off (Ask (Try c.args.file.now) Ret) Loaded _) (rw (c.bytes.ensures, c.in-Err.ensures.only_memory) at c.in-Err.ensures.ran)
