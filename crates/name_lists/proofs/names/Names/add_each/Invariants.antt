use Rattle.std.proofs.Common.{◌≡◌, length, take, drop}
use Rattle.name_lists.specs.Names.{with_names}
use Rattle.name_lists.proofs.names.Names.add_each.Given as goal

abbrev pub invariant-loop-name : goal.invariant-loop-name
invariant-loop-name l =
    (with_names l.self (drop l.name-index l.names) ≡ with_names l.initial.self l.names)
    × (take (length l.initial.self) l.self ≡ l.initial.self)
