use Rattle.mbox_scan.specs.Mailbox.{texts_of}
use Rattle.folder_change.proofs.DifferenceLemmas.{IsWalked}
use Rattle.folder_change.proofs.writing.first_difference.Given as goal

abbrev pub invariant-loop-k : goal.invariant-loop-k
invariant-loop-k l = IsWalked (texts_of l.base) l.initial.texts l.texts l.k
