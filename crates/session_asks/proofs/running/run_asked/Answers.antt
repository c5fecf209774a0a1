use Rattle.host_port.proofs.RanLemmas.{Ran-then, Ran-map}
use Rattle.session_play.specs.Play.{Ask, Ret}
use Rattle.session_play.proofs.PlayLemmas.{goes-then, goes-cut}
use Rattle.session_asks.specs.Running.{after_run, by_shell}
use Rattle.session_asks.proofs.running.run_asked.Goals as goal

pub returns-in-Ok-clause-ran : goal.returns-in-Ok-clause-ran
returns-in-Ok-clause-ran g c =
    let s = c.args.state.now in
    Ran-then (goes-then (Ask (by_shell s.desk c.args.command.now c.args.input.now) Ret) (after_run s) _ _)
    c.in-Ok.ensures.ran (c.after_run.ensures.ran s)

pub returns-in-Err-clause-ran : goal.returns-in-Err-clause-ran
returns-in-Err-clause-ran g c =
    let s = c.args.state.now in
    Ran-map (goes-cut (Ask (by_shell s.desk c.args.command.now c.args.input.now) Ret) (after_run s) _) c.in-Err.ensures.ran
