use Rattle.host_port.proofs.RanLemmas.{Ran-none}
use Rattle.session_play.specs.Play.{cut}
use Rattle.session_play.proofs.PlayLemmas.{at-memory}
use Rattle.mailx_top.specs.Meaning.{Preparing, files_with, round}
use Rattle.mailx_top.proofs.startup.read_files.Goals as goal

pub returns-in-Ok-clause-ran : goal.returns-in-Ok-clause-ran
returns-in-Ok-clause-ran g c = λ env start. rw (c.bytes.ensures, c.in-Ok.ensures) at (c.read_named.ensures.ran env start)

pub returns-in-Err-clause-ran : goal.returns-in-Err-clause-ran
returns-in-Err-clause-ran g c = λ env start.
    let s = c.args.session.now in
    Ran-none (cut (at-memory (round env (Preparing start s (files_with c.args.no_system_file s.desk.places.rc)))))
