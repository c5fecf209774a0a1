use Rattle.host_port.proofs.RanLemmas.{Ran-none, Ran-map}
use Rattle.session_play.specs.Play.{Ask, Ret, Child}
use Rattle.session_state.proofs.MemoryLemmas.{out-of-memory}
use Rattle.activities.specs.declared.call.Call.TheVariants.{Shell}
use Rattle.activities.specs.Acting.{asked_of, shell_args, Ran}
use Rattle.activities.proofs.DriveLemmas.{replied, cut-off}
use Rattle.activities.proofs.driving.run.Goals as goal

pub returns-in-Ok-clause-ran : goal.returns-in-Ok-clause-ran
returns-in-Ok-clause-ran g c =
    Ran-map (replied (Ask (Child c.args.state.now.desk.places.shell (shell_args c.args.command.now) c.args.input.now) Ret) Ran _)
    (rw (c.bytes-shell.ensures, c.items.ensures, c.in_ok-args.ensures, c.bytes.ensures) at c.in-Ok.ensures.ran)

pub returns-clause-ran : goal.returns-clause-ran
returns-clause-ran g c =
    Ran-map (cut-off (Ask (Child c.args.state.now.desk.places.shell (shell_args c.args.command.now) c.args.input.now) Ret) Ran _)
    (rw (c.bytes-shell.ensures, c.items.ensures, c.in_ok-args.ensures, c.bytes.ensures, c.in-Err.ensures.only_memory) at c.in-Err.ensures.ran)

pub returns-in_err-args-clause-ran : goal.returns-in_err-args-clause-ran
returns-in_err-args-clause-ran g c =
    Ran-none (out-of-memory (asked_of c.args.state.now (Shell c.args.command.now c.args.input.now)) _ c.from_residual.result c.from_residual.ensures.1)
