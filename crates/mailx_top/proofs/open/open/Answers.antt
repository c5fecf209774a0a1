use Rattle.host_port.proofs.RanLemmas.{Ran-none}
use Rattle.session_play.proofs.PlayLemmas.{at-memory}
use Rattle.mailx_top.specs.Meaning.{starting}
use Rattle.mailx_top.proofs.FolderLemmas.{with-word}
use Rattle.mailx_top.proofs.open.open.Goals as goal

pub returns-in-Ok-clause-ran : goal.returns-in-Ok-clause-ran
returns-in-Ok-clause-ran g c =
    rw (with-word c.args.session.now c.args.options.now _ (rw (c.desk.ensures.desk, c.folder_word.ensures) at c.in-Ok.ensures)) (rw c.bytes.ensures at c.open_name.ensures.ran)

pub returns-in-Err-Fault-clause-ran : goal.returns-in-Err-Fault-clause-ran
returns-in-Err-Fault-clause-ran g c =
    rw (with-word c.args.session.now c.args.options.now _
    (rw (c.desk.ensures.desk, c.folder_word.ensures, c.in-Err-Fault.field-0-is) at c.in-Err-Fault.ensures))
    (rw (c.bytes-in-Err-Fault.ensures, c.in-Err-Fault.field-0-is) at c.end_with.ensures.ran c.args.session.now)

pub returns-in-Err-Memory-clause-ran : goal.returns-in-Err-Memory-clause-ran
returns-in-Err-Memory-clause-ran g c = Ran-none (at-memory (starting c.args.session.now c.args.options.now))

pub returns-in-Ok-clause-bad_name : goal.returns-in-Ok-clause-bad_name
returns-in-Ok-clause-bad_name g c = λ bad.
    (rw c.bytes.ensures at c.open_name.ensures.bad_name) (rw (rw (c.desk.ensures.desk, c.folder_word.ensures) at c.in-Ok.ensures) at bad)
