use Rattle.mbox_scan.specs.Mailbox.{texts_of}
use Rattle.message_list.specs.Choosing as of_list
use Rattle.command_desk.proofs.ChosenLemmas.{means-chosen}
use Rattle.command_desk.proofs.selecting.chosen.Goals as goal

pub returns-in-Ok-clause-means : goal.returns-in-Ok-clause-means
returns-in-Ok-clause-means c = means-chosen c.in-Ok.numbers (of_list.chosen c.args.purpose c.args.desk.now.shown (texts_of c.args.desk.now.folder.folder) c.args.words.now) c.in-Ok.ensures.chosen
