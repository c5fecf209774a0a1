use Rattle.std.proofs.Common.{◌≡◌, ◌+◌, take, length}
use Rattle.command_desk.specs.Selecting.{AreFlags}
use Rattle.command_desk.proofs.selecting.flags_of.Given as goal

abbrev pub invariant-loop-n : goal.invariant-loop-n
invariant-loop-n l = (length l.flags.items ≡ l.count + 1) × AreFlags l.flags.items (take l.n-index l.numbers)
