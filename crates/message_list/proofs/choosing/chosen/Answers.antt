use Rattle.mbox_scan.specs.Mailbox.{texts_of}
use Rattle.message_list.proofs.ChosenLemmas.{chosen-bad, chosen-met, chosen-unmet}
use Rattle.message_list.proofs.choosing.chosen.Goals as goal

pub returns-in-Err-clause-chosen : goal.returns-in-Err-clause-chosen
returns-in-Err-clause-chosen c = chosen-bad c.args.purpose c.args.shown.now (texts_of c.args.folder.now) c.args.words.now c.in-Err.error c.in-Err.ensures.err

pub returns-in-Ok-select-clause-chosen : goal.returns-in-Ok-select-clause-chosen
returns-in-Ok-select-clause-chosen c =
    let met = chosen-met c.args.purpose c.args.shown.now
    (texts_of c.args.folder.now) c.args.words.now c.in-Ok.list.items c.in-Ok-select.numbers.items c.in-Ok.ensures.ok c.in-Ok-select.ensures.ok
    c.in-Ok-select.ensures.met c.in-Ok-select.ensures.some in
    rw c.of.ensures met

pub returns-clause-chosen : goal.returns-clause-chosen
returns-clause-chosen c = chosen-unmet c.args.purpose c.args.shown.now
    (texts_of c.args.folder.now) c.args.words.now c.in-Ok.list.items c.in-Err-select.error c.in-Ok.ensures.ok c.in-Err-select.ensures.err
