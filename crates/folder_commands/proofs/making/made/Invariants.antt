use Rattle.std.proofs.Common.{◌≡◌, drop}
use Rattle.mbox_scan.specs.Mailbox.{texts_of}
use Rattle.folder_commands.specs.Making.{made}
use Rattle.folder_commands.proofs.making.made.Given as goal

abbrev pub invariant-loop-change : goal.invariant-loop-change
invariant-loop-change l = made (drop l.change-index l.changes) (texts_of l.base) l.name l.file ≡ made l.changes (texts_of l.base) l.name l.fn.file
