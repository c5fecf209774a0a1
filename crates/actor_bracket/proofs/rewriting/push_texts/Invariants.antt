use Rattle.std.proofs.Common.{◌≡◌, ◌++◌, take}
use Rattle.mbox_scan.specs.Mailbox.{join}
use Rattle.actor_bracket.proofs.rewriting.push_texts.Given as goal

abbrev pub invariant-loop-text : goal.invariant-loop-text
invariant-loop-text l = l.file ≡ l.initial.file ++ join (take l.text-index l.texts)
