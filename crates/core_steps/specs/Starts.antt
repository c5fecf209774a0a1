-- The state in which many actors begin, and what keeps them from beginning.
use Rattle.std.specs.Prelude.{◌≡◌, ◌≢◌, ◌⊎◌, ◌<◌, ◌^◌, ℕ, Bool, true, false, List, [], ◌∷◌, ◌++◌, map, is_some}
use Rattle.std.specs.List.{list_any}
use Rattle.std.specs.declared.option.Option.TheVariants.{Some, None}
use Rattle.commit_record.specs.declared.record.Record.{Record}
use Rattle.commit_machine.specs.Names.{record_name, staged_name}
use Rattle.commit_machine.specs.Records.{record_of, names_of}
use Rattle.commit_machine.specs.Settled.{Files, Locks, IsSoundAt, Mem}
use Rattle.core_steps.specs.declared.actor.Actor.{Actor}
use Rattle.core_steps.specs.declared.actor.Doing.TheVariants.{Nothing}
use Rattle.core_steps.specs.Turns.{is_any_record_name}
use Rattle.core_steps.specs.Cores.{CoreState}
use Rattle.core_steps.specs.Settling.{standing_in}

-- all actors are in no bracket, nobody has a right, and no commit place was passed
abbrev pub begun : Files → Locks → List Actor → CoreState
begun files locks actors = record {
  disk = record { files = files; locks = locks; holders = λ q. None };
  members = map (λ a. record { actor = a; doing = Nothing }) actors;
  places = [];
}

-- one of the record's names is a record name of an actor
abbrev pub names_a_record : List Actor → Record → Bool
names_a_record actors r = list_any (is_any_record_name actors) (names_of r)

-- What stands as the record of the actor, if anything does, is a record; the disk is sound for the actor; and no name of the record is a record
-- name of an actor.
pub record IsGood (actors : List Actor) (files : Files) (locks : Locks) (a : Actor) : Type 0 where
  pub reads : (bytes : List ℕ) → files (record_name a.name) ≡ Some bytes → is_some (record_of bytes) ≡ true
  pub sound : IsSoundAt a.name files locks
  pub plain : (r : Record) → standing_in files a.name ≡ Some r → names_a_record actors r ≡ false

-- a lock, a staged name or the record that stands of one of the actors has the token
abbrev pub IsCarried : Files → Locks → List Actor → ℕ → Type 0
IsCarried files locks actors t =
    ((n : List ℕ) × (locks n ≡ Some t))
    ⊎ ((m : List ℕ) × (is_some (files (staged_name t m)) ≡ true))
    ⊎ ((b : Actor) × Mem b actors × (r : Record) × (standing_in files b.name ≡ Some r) × (r.token ≡ t))

-- the actor's token is that of an earlier actor, or something has it
abbrev pub IsOwnTaken : Files → Locks → List Actor → List Actor → Actor → Type 0
IsOwnTaken files locks actors earlier a = ((b : Actor) × Mem b earlier × (b.token ≡ a.token)) ⊎ IsCarried files locks actors a.token

-- this is the token of the record of the actor and of that of an earlier actor with another name
pub record IsFoundTaken (files : Files) (earlier : List Actor) (a : Actor) (t : ℕ) : Type 0 where
  pub other : Actor
  pub among : Mem other earlier
  pub apart : other.name ≢ a.name
  pub here : Record
  pub there : Record
  pub stands : standing_in files a.name ≡ Some here
  pub stood : standing_in files other.name ≡ Some there
  pub same : there.token ≡ here.token
  pub is : here.token ≡ t

-- the token that keeps an actor from beginning after these: its own, or else that of its record
abbrev pub IsTaken : Files → Locks → List Actor → List Actor → Actor → ℕ → Type 0
IsTaken files locks actors earlier a t =
    (IsOwnTaken files locks actors earlier a × (t ≡ a.token))
    ⊎ ((IsOwnTaken files locks actors earlier a → ⊥) × IsFoundTaken files earlier a t)

-- the actors may begin on this disk
pub record MayBegin (files : Files) (locks : Locks) (actors : List Actor) : Type 0 where
  pub fit : (a : Actor) → Mem a actors → a.token < 2 ^ 64
  pub good : (a : Actor) → Mem a actors → IsGood actors files locks a
  pub untaken : (earlier later : List Actor) (a : Actor) (t : ℕ) → actors ≡ earlier ++ a ∷ later → IsTaken files locks actors earlier a t → ⊥

-- the first actor whose record isn't good has this name
pub record IsBadRecord (files : Files) (locks : Locks) (actors : List Actor) (name : List ℕ) : Type 0 where
  pub earlier : List Actor
  pub later : List Actor
  pub actor : Actor
  pub is : actors ≡ earlier ++ actor ∷ later
  pub named : actor.name ≡ name
  pub good : (a : Actor) → Mem a earlier → IsGood actors files locks a
  pub bad : IsGood actors files locks actor → ⊥

-- all records are good, and the first actor that can't begin after those before it is kept by this token
pub record IsTokenTaken (files : Files) (locks : Locks) (actors : List Actor) (token : ℕ) : Type 0 where
  pub good : (a : Actor) → Mem a actors → IsGood actors files locks a
  pub earlier : List Actor
  pub later : List Actor
  pub actor : Actor
  pub is : actors ≡ earlier ++ actor ∷ later
  pub first : (before between : List Actor) (a : Actor) (t : ℕ) → earlier ≡ before ++ a ∷ between → IsTaken files locks actors before a t → ⊥
  pub taken : IsTaken files locks actors earlier actor token
