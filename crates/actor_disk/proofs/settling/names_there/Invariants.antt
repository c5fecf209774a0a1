use Rattle.std.proofs.Common.{◌≡◌, ◌++◌, map, take}
use Rattle.std.specs.List.{flat_map}
use Rattle.memory_disk.specs.Lists.{named}
use Rattle.core_steps.specs.Settling.{standing_in}
use Rattle.actor_disk.specs.Settling.{names_found}
use Rattle.actor_disk.proofs.settling.names_there.Given as goal

abbrev pub invariant-loop-name : goal.invariant-loop-name
invariant-loop-name l = l.names ≡ map (λ p. p.0) (take l.name-index l.listed)

abbrev pub invariant-loop-member : goal.invariant-loop-member
invariant-loop-member l = l.names ≡ map (λ p. p.0) l.listed ++ flat_map (λ m. names_found (standing_in (named l.files) m.actor.name)) (take l.member-index l.members)
