-- Loads that tell what stands.
use Rattle.std.specs.Prelude.{List, [], ◌∷◌}
use Rattle.host_port.specs.declared.event.Event.{Event}
use Rattle.host_port.specs.declared.event.Event.TheVariants.{Load}
use Rattle.host_port.specs.declared.event.Seen.{Seen}
use Rattle.host_port.specs.declared.event.Seen.TheVariants as seen
use Rattle.host_port.specs.Calls.{FitsLoad}

-- a load gave a file within the limit, or saw one past it: it neither failed nor wanted memory
abbrev pub Tells : Seen → Type 0
Tells (seen.Bytes bytes held) = FitsLoad bytes
Tells (seen.TooLarge n) = Unit {0}
Tells seen.Failed = ⊥
Tells seen.Memory = ⊥

-- each load did so
abbrev pub LoadsTell : List Event → Type 0
LoadsTell [] = Unit {0}
LoadsTell (Load name s ∷ es) = Tells s × LoadsTell es
LoadsTell (e ∷ es) = LoadsTell es
