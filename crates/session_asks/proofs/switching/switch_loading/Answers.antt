use Rattle.host_port.proofs.RanLemmas.{Ran-then, Ran-map}
use Rattle.std.proofs.Common.{Option}
use Rattle.session_play.specs.declared.act.Found.{Found}
use Rattle.session_play.specs.Play.{Ask, Ret, Try}
use Rattle.session_play.proofs.PlayLemmas.{goes-then, goes-cut}
use Rattle.session_asks.specs.Switching.{switched_to, loaded_folder}
use Rattle.session_state.proofs.NameLemmas.{file-name}
use Rattle.session_asks.proofs.switching.switch_loading.Goals as goal

pub try_load-requires : goal.try_load-requires
try_load-requires g c = file-name c.args.file.now c.requires.file

pub returns-in-Ok-clause-ran : goal.returns-in-Ok-clause-ran
returns-in-Ok-clause-ran g c =
    let s = c.args.state.now in
    Ran-then
    (goes-then (Ask (Try c.args.file.now) Ret) (λ (f : Option Found). switched_to s c.args.name.now c.args.changes c.args.reply.now (loaded_folder s.desk c.args.changes c.args.name.now f)) _ _)
    c.in-Ok.ensures.ran c.switch_found.ensures.ran

pub returns-in-Err-clause-ran : goal.returns-in-Err-clause-ran
returns-in-Err-clause-ran g c =
    let s = c.args.state.now in
    rw c.in-Err.ensures.only_memory at
    (Ran-map
    (goes-cut (Ask (Try c.args.file.now) Ret) (λ (f : Option Found). switched_to s c.args.name.now c.args.changes c.args.reply.now (loaded_folder s.desk c.args.changes c.args.name.now f)) _)
    c.in-Err.ensures.ran)
