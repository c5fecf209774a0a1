use Rattle.std.proofs.Common.{◌≡◌, drop}
use Rattle.command_words.specs.Names.{names_in}
use Rattle.command_words.proofs.NameLemmas.{gives}
use Rattle.command_words.proofs.names.names_in.Given as goal

-- what was read and the bytes that are left give the names of the value
abbrev pub invariant-loop-byte : goal.invariant-loop-byte
invariant-loop-byte l = gives l.names l.name (drop l.byte-index l.value) ≡ names_in l.value
