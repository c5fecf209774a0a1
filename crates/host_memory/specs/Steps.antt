-- The steps of others.
use Rattle.std.specs.Prelude.{ℕ, List}
use Rattle.host_port.specs.declared.event.ForeignStep.{ForeignStep}
use Rattle.host_port.specs.declared.event.ForeignStep.TheVariants.{Write, Remove, Lock, Unlock, Seize, Release}

-- the name that a step is about
abbrev pub name_in : ForeignStep → List ℕ
name_in (Write name bytes) = name
name_in (Remove name) = name
name_in (Lock name token) = name
name_in (Unlock name token) = name
name_in (Seize name) = name
name_in (Release name) = name
