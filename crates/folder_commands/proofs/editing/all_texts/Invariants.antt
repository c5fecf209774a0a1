use Rattle.std.proofs.Common.{◌≡◌, take}
use Rattle.mbox_scan.specs.Mailbox.{texts_of}
use Rattle.folder_commands.proofs.editing.all_texts.Given as goal

abbrev pub invariant-loop-k : goal.invariant-loop-k
invariant-loop-k l = l.texts ≡ take l.k (texts_of l.folder)
