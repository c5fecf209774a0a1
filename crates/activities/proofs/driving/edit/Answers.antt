use Rattle.host_port.proofs.RanLemmas.{Ran-none, Ran-map}
use Rattle.session_play.specs.Play.{Ask, Ret, Editor}
use Rattle.session_state.specs.Placing.{edit_file}
use Rattle.session_state.proofs.MemoryLemmas.{out-of-memory}
use Rattle.activities.specs.declared.call.Call.TheVariants.{Edit}
use Rattle.activities.specs.Acting.{asked_of, Edited}
use Rattle.activities.proofs.DriveLemmas.{replied, cut-off}
use Rattle.activities.proofs.driving.edit.Goals as goal

pub returns-in-Ok-clause-ran : goal.returns-in-Ok-clause-ran
returns-in-Ok-clause-ran g c =
    let s = c.args.state.now in
    Ran-map (replied (Ask (Editor (edit_file s.actor s.token) s.desk.places.shell c.args.command.now c.args.text.now) Ret) Edited _)
    (rw (c.bytes-2.ensures, c.in_ok-name.ensures, c.bytes-shell.ensures, c.bytes.ensures, c.bytes-3.ensures, c.bytes-4.ensures) at c.in-Ok.ensures.ran)

pub returns-clause-ran : goal.returns-clause-ran
returns-clause-ran g c =
    let s = c.args.state.now in
    Ran-map (cut-off (Ask (Editor (edit_file s.actor s.token) s.desk.places.shell c.args.command.now c.args.text.now) Ret) Edited _)
    (rw (c.bytes-2.ensures, c.in_ok-name.ensures, c.bytes-shell.ensures, c.bytes.ensures, c.bytes-3.ensures, c.bytes-4.ensures, c.in-Err.ensures.only_memory) at c.in-Err.ensures.ran)

pub returns-in_err-name-clause-ran : goal.returns-in_err-name-clause-ran
returns-in_err-name-clause-ran g c =
    Ran-none (out-of-memory (asked_of c.args.state.now (Edit c.args.command.now c.args.text.now)) _ c.from_residual.result c.from_residual.ensures.1)
