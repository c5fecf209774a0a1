use Rattle.std.proofs.Common.{◌≡◌, take}
use Rattle.command_desk.specs.Naming.{without_these}
use Rattle.command_desk.proofs.naming.undef_all.Given as goal

abbrev pub invariant-loop-name : goal.invariant-loop-name
invariant-loop-name l = l.macros ≡ without_these l.fn.macros (take l.name-index l.names)
