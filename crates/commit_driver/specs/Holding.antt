-- What is held of files while changes are made of them: of one that is only added to, what comes behind the bytes that stay.
use Rattle.std.specs.Prelude.{◌≡◌, ◌≤◌, ◌-◌, ℕ, List, [], ◌∷◌, ◌++◌, length, drop}
use Rattle.std.specs.declared.option.Option.{Option}
use Rattle.std.specs.declared.option.Option.TheVariants.{Some, None}
use Rattle.std.specs.declared.result.Result.TheVariants.{Ok}
use Rattle.folder_change.specs.declared.change.Change.{Change}
use Rattle.folder_change.specs.Outcomes.{outcome_of}
use Rattle.host_port.specs.Calls.{load_limit}

-- the last two bytes, or all if there are fewer
abbrev pub end_of : List ℕ → List ℕ
end_of b = drop (length b - 2) b

-- the end of the bytes that stay of a loaded file
abbrev pub stay_end : Option (List ℕ) → Option ℕ → List ℕ
stay_end file None = []
stay_end None (Some stay) = []
stay_end (Some b) (Some stay) = end_of b

abbrev pub ends_for : List (Option (List ℕ)) → List (Option ℕ) → List (List ℕ)
ends_for [] stays = []
ends_for (file ∷ files) [] = []
ends_for (file ∷ files) (stay ∷ stays) = stay_end file stay ∷ ends_for files stays

-- what is held of a loaded file before changes: nothing of the bytes that stay
abbrev pub held_first : Option ℕ → Option (List ℕ) → Option (List ℕ)
held_first None file = file
held_first (Some stay) None = None
held_first (Some stay) (Some b) = Some []

abbrev pub held_for : List (Option (List ℕ)) → List (Option ℕ) → List (Option (List ℕ))
held_for [] stays = []
held_for (file ∷ files) [] = file ∷ files
held_for (file ∷ files) (stay ∷ stays) = held_first stay file ∷ held_for files stays

-- what is held of a whole file of which so many bytes stay, that end so; or all of it
abbrev pub IsHeldOf : Option ℕ → List ℕ → Option (List ℕ) → Option (List ℕ) → Type 0
IsHeldOf None end whole held = held ≡ whole
IsHeldOf (Some stay) end whole held =
    (front b : List ℕ) × (length front ≡ stay) × (stay ≤ load_limit) × (end ≡ end_of front) × (held ≡ Some b) × (whole ≡ Some (front ++ b))

abbrev pub AreHeldOf : List (Option ℕ) → List (List ℕ) → List (Option (List ℕ)) → List (Option (List ℕ)) → Type 0
AreHeldOf [] [] [] [] = Unit {0}
AreHeldOf (stay ∷ stays) (end ∷ ends) (whole ∷ wholes) (held ∷ helds) = IsHeldOf stay end whole held × AreHeldOf stays ends wholes helds
AreHeldOf stays ends wholes helds = ⊥

-- this is held of what a change makes of the whole file
abbrev pub MakesHeld : Option ℕ → List ℕ → Change → List (List ℕ) → Option (List ℕ) → Option (List ℕ) → Type 0
MakesHeld stay end change base whole held = (made : Option (List ℕ)) × (outcome_of whole change base ≡ Ok made) × IsHeldOf stay end made held
