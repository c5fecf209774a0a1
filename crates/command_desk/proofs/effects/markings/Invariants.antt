use Rattle.std.proofs.Common.{◌≡◌, take}
use Rattle.command_desk.specs.Effects.{markings}
use Rattle.command_desk.proofs.effects.markings.Given as goal

abbrev pub invariant-loop-number : goal.invariant-loop-number
invariant-loop-number l = l.marks ≡ markings l.act (take l.number-index l.numbers)
