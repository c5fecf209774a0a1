use Rattle.host_port.proofs.RanLemmas.{Ran-then, Ran-map}
use Rattle.std.proofs.Common.{Option}
use Rattle.session_play.specs.declared.act.Found.{Found}
use Rattle.session_play.specs.Play.{Ask, Ret, Try}
use Rattle.session_play.proofs.PlayLemmas.{goes-then, goes-cut}
use Rattle.session_asks.specs.Renewing.{loaded_again, taking}
use Rattle.session_state.proofs.NameLemmas.{file-name}
use Rattle.session_asks.proofs.renewing.load_again.Goals as goal

pub try_load-requires : goal.try_load-requires
try_load-requires g c = file-name c.args.file.now c.requires.file

pub returns-in-Ok-clause-ran : goal.returns-in-Ok-clause-ran
returns-in-Ok-clause-ran g c =
    let s = c.args.state.now in
    Ran-then (goes-then (Ask (Try c.args.file.now) Ret) (λ (f : Option Found). taking s (loaded_again s.desk f)) _ _) c.in-Ok.ensures.ran c.add_and_say_news.ensures.ran

pub returns-in-Err-clause-ran : goal.returns-in-Err-clause-ran
returns-in-Err-clause-ran g c =
    let s = c.args.state.now in
    rw c.in-Err.ensures.only_memory at
    (Ran-map (goes-cut (Ask (Try c.args.file.now) Ret) (λ (f : Option Found). taking s (loaded_again s.desk f)) _) c.in-Err.ensures.ran)
