-- Whether actors may begin, as it is looked for.
use Rattle.std.specs.Prelude.{◌≡◌, ◌<◌, ◌^◌, ◌==◌, ◌&&◌, not, ℕ, Bool, false, List, [], ◌∷◌, ◌++◌}
use Rattle.std.specs.List.{flat_map}
use Rattle.std.specs.Str.{bytes_eq}
use Rattle.std.specs.declared.option.Option.{Option}
use Rattle.std.specs.declared.option.Option.TheVariants.{Some, None}
use Rattle.commit_record.specs.declared.record.Record.{Record}
use Rattle.commit_machine.specs.Settled.{Files, Locks, Mem}
use Rattle.core_steps.specs.declared.actor.Actor.{Actor}
use Rattle.core_steps.specs.Settling.{standing_in}
use Rattle.core_steps.specs.Starts.{IsGood, IsFoundTaken, IsTaken}

-- all of these actors' records are good, or the first that isn't is that of an actor of this name
abbrev pub LooksGood : List Actor → Files → Locks → List Actor → Option (List ℕ) → Type 0
LooksGood all files locks actors None = (a : Actor) → Mem a actors → IsGood all files locks a
LooksGood all files locks actors (Some name) =
    (earlier later : List Actor) × (a : Actor) × (actors ≡ earlier ++ a ∷ later) × (a.name ≡ name)
    × ((b : Actor) → Mem b earlier → IsGood all files locks b) × (IsGood all files locks a → ⊥)

-- the token of a record that was found
abbrev pub token_found : Option Record → List ℕ
token_found None = []
token_found (Some r) = r.token ∷ []

-- the tokens of the records of these actors that stand
abbrev pub record_tokens : Files → List Actor → List ℕ
record_tokens files actors = flat_map (λ a. token_found (standing_in files a.name)) actors

-- the record has this token
abbrev pub has_token : ℕ → Option Record → Bool
has_token token None = false
has_token token (Some r) = r.token == token

-- the record of an actor of another name has this token
abbrev pub is_found_of : Files → List ℕ → ℕ → Actor → Bool
is_found_of files name token b = not (bytes_eq b.name name) && has_token token (standing_in files b.name)

-- the token of the actor's record, if the record of one of these of another name has it
abbrev pub FindsTaken : Files → List Actor → Actor → Option ℕ → Type 0
FindsTaken files earlier a None = (t : ℕ) → IsFoundTaken files earlier a t → ⊥
FindsTaken files earlier a (Some token) = IsFoundTaken files earlier a token

-- the token that keeps this actor from beginning after these, if one does
abbrev pub Takes : Files → Locks → List Actor → List Actor → Actor → Option ℕ → Type 0
Takes files locks all earlier a None = (t : ℕ) → IsTaken files locks all earlier a t → ⊥
Takes files locks all earlier a (Some token) = IsTaken files locks all earlier a token

-- no token keeps one of these actors from beginning after those before it
abbrev pub AreFree : Files → Locks → List Actor → List Actor → Type 0
AreFree files locks all actors = (earlier later : List Actor) (a : Actor) (t : ℕ) → actors ≡ earlier ++ a ∷ later → IsTaken files locks all earlier a t → ⊥

-- their tokens are numbers of 64 bits
abbrev pub AreFit : List Actor → Type 0
AreFit actors = (a : Actor) → Mem a actors → a.token < 2 ^ 64

-- the token that keeps the first of these actors that can't begin
abbrev pub TakesFirst : Files → Locks → List Actor → Option ℕ → Type 0
TakesFirst files locks actors None = AreFit actors × AreFree files locks actors actors
TakesFirst files locks actors (Some token) =
    (earlier later : List Actor) × (a : Actor) × (actors ≡ earlier ++ a ∷ later) × AreFree files locks actors earlier × IsTaken files locks actors earlier a token
