use Rattle.std.proofs.Common.{◌≡◌, map, take}
use Rattle.command_desk.specs.Desks.{message_text}
use Rattle.folder_commands.proofs.saving.texts_of.Given as goal

abbrev pub invariant-loop-n : goal.invariant-loop-n
invariant-loop-n l = l.texts ≡ map (message_text l.desk) (take l.n-index l.numbers)
