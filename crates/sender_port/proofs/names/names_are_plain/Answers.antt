use Rattle.std.proofs.lemmas.List.Elements.{All-from_recursion}
use Rattle.sender_port.specs.Names.{IsPlainName}
use Rattle.sender_port.proofs.NameLemmas.{names-plain}
use Rattle.sender_port.proofs.names.names_are_plain.Goals as goal

pub returns : goal.returns
returns c = λ names none. All-from_recursion IsPlainName names (names-plain names none)
