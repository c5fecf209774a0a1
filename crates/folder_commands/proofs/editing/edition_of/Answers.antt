use Rattle.std.proofs.Common.{◌∙◌, ap}
use Rattle.mbox_scan.specs.Mailbox.{join}
use Rattle.folder_commands.proofs.EditingLemmas.{edited-listed}
use Rattle.folder_commands.proofs.editing.edition_of.Goals as goal

pub returns-clause-listed : goal.returns-clause-listed
returns-clause-listed c =
    let bytes = c.in_ok-bytes.ensures ∙ ap join (c.items.ensures ∙ c.in_ok-texts.ensures.texts) in
    rw c.in_ok-folder.ensures.is
    (edited-listed c.args.folder.now c.in_ok-bytes.bytes c.args.text.now c.args.n c.in_ok-texts.ensures.listed c.requires.message bytes c.in_ok-folder.ensures.listed)
