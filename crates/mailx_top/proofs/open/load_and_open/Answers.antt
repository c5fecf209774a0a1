use Rattle.host_port.proofs.RanLemmas.{Ran-then, Ran-map}
use Rattle.session_play.specs.Play.{Ask, Ret, Read}
use Rattle.session_play.proofs.PlayLemmas.{goes-then, goes-cut}
use Rattle.mailx_top.specs.Meaning.{loaded}
use Rattle.session_state.proofs.NameLemmas.{file-name}
use Rattle.mailx_top.proofs.open.load_and_open.Goals as goal

pub load-requires : goal.load-requires
load-requires g c = file-name c.args.file.now c.requires

pub returns-in-Ok-clause-ran : goal.returns-in-Ok-clause-ran
returns-in-Ok-clause-ran g c = Ran-then (goes-then (Ask (Read c.args.file.now) Ret) (loaded c.args.session.now c.args.options.now c.args.name.now) _ _) c.in-Ok.ensures.ran c.open_found.ensures.ran

pub returns-in-Err-clause-ran : goal.returns-in-Err-clause-ran
returns-in-Err-clause-ran g c = Ran-map (goes-cut (Ask (Read c.args.file.now) Ret) (loaded c.args.session.now c.args.options.now c.args.name.now) _) c.in-Err.ensures.ran
