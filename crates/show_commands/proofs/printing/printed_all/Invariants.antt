use Rattle.std.proofs.Common.{◌≡◌, take}
use Rattle.std.specs.List.{flat_map}
use Rattle.show_commands.proofs.printing.printed_all.Given as goal
use Rattle.command_desk.specs.Messages.{printed}

abbrev pub invariant-loop-n : goal.invariant-loop-n
invariant-loop-n l = l.out ≡ flat_map (printed l.desk l.how) (take l.n-index l.numbers)
