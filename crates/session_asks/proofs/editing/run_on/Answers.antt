use Rattle.host_port.proofs.RanLemmas.{Ran-then, Ran-map}
use Rattle.session_play.specs.Play.{Ask, Editor, Ret}
use Rattle.session_play.proofs.PlayLemmas.{goes-then, goes-cut}
use Rattle.session_asks.specs.Editing.{edited, judged}
use Rattle.session_asks.proofs.editing.run_on.Goals as goal

pub returns-in-Ok-clause-ran : goal.returns-in-Ok-clause-ran
returns-in-Ok-clause-ran g c =
    let s = c.args.state.now in
    Ran-then (goes-then (Ask (Editor c.args.name.now s.desk.places.shell c.args.command.now c.args.text.now) Ret)
    (λ a. edited s c.args.n (judged a)) _ _) (rw c.bytes-shell.ensures at c.in-Ok.ensures.ran)
    c.take_edited.ensures.ran

pub returns-in-Err-clause-ran : goal.returns-in-Err-clause-ran
returns-in-Err-clause-ran g c =
    let s = c.args.state.now in
    Ran-map (goes-cut (Ask (Editor c.args.name.now s.desk.places.shell c.args.command.now c.args.text.now) Ret) (λ a. edited s c.args.n (judged a)) _)
    (rw (c.bytes-shell.ensures, c.in-Err.ensures.only_memory) at c.in-Err.ensures.ran)
