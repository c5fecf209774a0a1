-- What decides whether steps of others are lawful.
use Rattle.std.specs.Prelude.{◌≡◌, ◌==◌, ◌||◌, ℕ, Bool, false, List, ◌∷◌, ◌++◌, length}
use Rattle.std.specs.Bool.{Decides}
use Rattle.std.specs.Option.{option_map}
use Rattle.std.specs.declared.option.Option.{Option}
use Rattle.std.specs.declared.option.Option.TheVariants.{Some, None}
use Rattle.host_port.specs.declared.event.Event.{Event}
use Rattle.host_port.specs.declared.event.Event.TheVariants.{Foreign}
use Rattle.host_port.specs.declared.event.ForeignStep.{ForeignStep}
use Rattle.host_port.specs.Disk.{Disk, disk}
use Rattle.host_memory.specs.Views.{lookup}
use Rattle.commit_record.specs.declared.record.Record.{Record}
use Rattle.commit_machine.specs.Lawful.{HasRight, IsLawful}

-- the token of a record that was found
abbrev pub token_of : Option Record → Option ℕ
token_of found = option_map (λ r. r.token) found

-- a token is the run's, or that of the record that stands
abbrev pub guards : ℕ → Option ℕ → ℕ → Bool
guards token None u = u == token
guards token (Some standing) u = (u == token) || (u == standing)

-- the owner of a lock is one of these tokens
abbrev pub holds : ℕ → Option ℕ → Option ℕ → Bool
holds token standing None = false
holds token standing (Some owner) = guards token standing owner

-- the lists show a disk's files and locks, and whether the run has the actor's right there is told
pub record Shows (actor : List ℕ) (files : List (List ℕ × List ℕ)) (locks : List (List ℕ × ℕ)) (right : Bool) (d : Disk) : Type 0 where
  pub files_are : (q : List ℕ) → d.files q ≡ lookup files q
  pub locks_are : (q : List ℕ) → d.locks q ≡ lookup locks q
  pub right_is : Decides right (HasRight actor d)

-- a step of another is lawful on a disk; other events ask nothing
abbrev pub IsLawfulEvent : List ℕ → ℕ → Disk → Event → Type 0
IsLawfulEvent actor token d (Foreign f) = IsLawful actor token d f
IsLawfulEvent actor token d e = Unit {0}

-- the step of another at a place of a trace is lawful there
abbrev pub IsLawfulAt : List ℕ → ℕ → Disk → List Event → ℕ → Type 0
IsLawfulAt actor token start trace k = (before rest : List Event) (f : ForeignStep) → trace ≡ before ++ Foreign f ∷ rest → length before ≡ k → IsLawful actor token (disk start before) f

-- each step of others in a trace is lawful where it stands
abbrev pub AreLawful : List ℕ → ℕ → Disk → List Event → Type 0
AreLawful actor token start trace = (before rest : List Event) (f : ForeignStep) → trace ≡ before ++ Foreign f ∷ rest → IsLawful actor token (disk start before) f
