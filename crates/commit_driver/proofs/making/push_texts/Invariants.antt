use Rattle.std.proofs.Common.{◌≡◌, ◌++◌, take}
use Rattle.mbox_scan.specs.Mailbox.{join}
use Rattle.commit_driver.proofs.making.push_texts.Given as goal

abbrev pub invariant-loop-text : goal.invariant-loop-text
invariant-loop-text l = l.held ≡ l.initial.held ++ join (take l.text-index l.texts)
