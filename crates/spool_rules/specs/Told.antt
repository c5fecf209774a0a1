-- The calls that are told.
use Rattle.std.specs.Prelude.{◌≡◌, List, [], ◌∷◌, ◌++◌, Option, Some, None, IfSome}
use Rattle.spool_rules.specs.declared.port.Step.{Step}
use Rattle.spool_rules.specs.declared.port.Step.TheVariants.{Users, Hold, Look, Take}

-- these calls too, while they are told
abbrev pub followed : Option (List Step) → List Step → Option (List Step)
followed None more = None
followed (Some steps) more = Some (steps ++ more)

-- one more call
abbrev pub added : Option (List Step) → Step → Option (List Step)
added told step = followed told (step ∷ [])

-- no call was made yet
abbrev pub IsFresh : Option (List Step) → Type 0
IsFresh told = IfSome told (λ steps. steps ≡ [])

-- the last calls are these
abbrev pub EndsWith : List Step → List Step → Type 0
EndsWith steps last = (front : List Step) × (steps ≡ front ++ last)

-- so it was at some call
abbrev pub Once : (List Step → Type 0) → List Step → Type 0
Once P steps = (front back : List Step) × P front × (steps ≡ front ++ back)

-- no call changed anything
abbrev pub OnlyLooked : List Step → Type 0
OnlyLooked [] = Unit {0}
OnlyLooked (Users list ∷ steps) = OnlyLooked steps
OnlyLooked (Hold name done ∷ steps) = OnlyLooked steps
OnlyLooked (Look name seen ∷ steps) = OnlyLooked steps
OnlyLooked steps = ⊥

-- the input wasn't made a file yet: a second file of it would be empty
abbrev pub HasInput : List Step → Type 0
HasInput [] = Unit {0}
HasInput (Take name mode done ∷ steps) = ⊥
HasInput (step ∷ steps) = HasInput steps

-- calls came, or none
abbrev pub Onward : Option (List Step) → Option (List Step) → Type 0
Onward old new = (more : List Step) × (new ≡ followed old more)
