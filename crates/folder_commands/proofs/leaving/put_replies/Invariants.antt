use Rattle.std.proofs.Common.{◌≡◌, ◌++◌, take}
use Rattle.folder_commands.specs.Leaving.{replies}
use Rattle.folder_commands.proofs.leaving.put_replies.Given as goal

abbrev pub invariant-loop-one : goal.invariant-loop-one
invariant-loop-one l = l.out ≡ l.fn.out ++ replies (take l.one-index l.gathered)
