-- What follows from the order of lawful calls.
use Rattle.std.specs.Prelude.{◌≡◌, ℕ, false, ◌⊎◌, List, [], ◌∷◌, Some}
use Rattle.std.specs.declared.result.Result.TheVariants.{Ok}
use Rattle.spool_rules.specs.declared.port.Step.{Step}
use Rattle.spool_rules.specs.declared.port.Step.TheVariants.{Users, Hold, Look, Make, Take, Link, Rename, Remove, Sync}
use Rattle.spool_rules.specs.Users.{entry_of, has_number}

-- the call is about this name
abbrev pub Concerns : List ℕ → Step → Type 0
Concerns name (Users list) = ⊥
Concerns name (Hold other done) = name ≡ other
Concerns name (Look other seen) = name ≡ other
Concerns name (Make other bytes done) = name ≡ other
Concerns name (Take other mode done) = name ≡ other
Concerns name (Link from to free) = (name ≡ from) ⊎ (name ≡ to)
Concerns name (Rename from to done) = (name ≡ from) ⊎ (name ≡ to)
Concerns name (Remove other done) = name ≡ other
Concerns name (Sync done) = ⊥

-- none of these calls is about this name
abbrev pub Spares : List ℕ → List Step → Type 0
Spares name [] = Unit {0}
Spares name (step ∷ steps) = (Concerns name step → ⊥) × Spares name steps

-- in the list that was read first the name is that of another user
abbrev pub IsOthers : ℕ → List ℕ → List Step → Type 0
IsOthers n name (Users (Ok list) ∷ steps) = (line : List ℕ) × (entry_of list name ≡ Some line) × (has_number n (Some line) ≡ false)
IsOthers n name steps = ⊥
