use Rattle.host_port.proofs.RanLemmas.{Ran-map, Ran-none}
use Rattle.session_play.proofs.PlayLemmas.{at-memory}
use Rattle.mbox_scan.specs.Mailbox.{texts_of}
use Rattle.mailx_top.specs.Meaning.{begun}
use Rattle.mailx_top.proofs.FolderLemmas.{begun-goes}
use Rattle.mailx_top.proofs.open.begin.Goals as goal

pub returns-in-Ok-clause-ran : goal.returns-in-Ok-clause-ran
returns-in-Ok-clause-ran g c = Ran-map (begun-goes c.args.session.now c.args.options.now c.args.name.now c.args.folder c.put_folder.new.session _
    c.in-Ok.ensures) (rw c.manner_of.ensures at c.greet.ensures.ran)

pub returns-in-Err-clause-ran : goal.returns-in-Err-clause-ran
returns-in-Err-clause-ran g c = Ran-none (at-memory (begun c.args.session.now c.args.options.now c.args.name.now c.args.folder (texts_of c.args.folder)))
