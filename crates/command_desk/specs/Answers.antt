-- What a command comes to: its steps, or the line that refuses it.
use Rattle.std.specs.Prelude.{◌≡◌, ℕ, List, [], ◌∷◌, Option}
use Rattle.std.specs.declared.option.Option.TheVariants.{Some, None}
use Rattle.std.specs.declared.result.Result.{Result}
use Rattle.std.specs.declared.result.Result.TheVariants.{Ok, Err}
use Rattle.command_desk.specs.declared.effects.Effects.{Effects}
use Rattle.command_desk.specs.declared.steps.Ask.TheVariants.{Say}
use Rattle.command_desk.specs.declared.steps.Steps.{Steps}
use Rattle.command_desk.specs.declared.steps.Refusal.{Refusal}
use Rattle.command_desk.specs.declared.steps.Refusal.TheVariants.{Fault, Memory}

-- something, or the line that says why not
abbrev pub OrFault : Type 0 → Type 0
OrFault A = Result A (List ℕ)

-- one thing after another, up to the first that is refused
abbrev pub next : {A B : Type 0} → OrFault A → (A → OrFault B) → OrFault B
next (Ok a) k = k a
next (Err line) k = Err line

-- if something is found that is at fault its line refuses the command
abbrev pub unless : {A : Type 0} → Option (List ℕ) → (List ℕ → List ℕ) → OrFault A → OrFault A
unless (Some word) line r = Err (line word)
unless None line r = r

-- bytes are printed, and this is changed
abbrev pub says : List ℕ → Effects → OrFault Steps
says bytes effects = Ok (record { asks = Say bytes ∷ []; effects = effects })

-- this is changed, and nothing is printed
abbrev pub effects_alone : Effects → OrFault Steps
effects_alone effects = Ok (record { asks = []; effects = effects })

-- an answer is the one that is meant, or memory ran out
abbrev pub Means : {A : Type 0} → Result A Refusal → OrFault A → Type 0
Means (Ok a) meant = meant ≡ Ok a
Means (Err (Fault line)) meant = meant ≡ Err line
Means (Err Memory) meant = Unit {0}

-- a refusal is by this line, or memory ran out
abbrev pub IsRefusal : Refusal → List ℕ → Type 0
IsRefusal (Fault line) meant = line ≡ meant
IsRefusal Memory meant = Unit {0}

-- what is meant is refused by this line, or memory ran out
abbrev pub IsRefused : {A : Type 0} → Refusal → OrFault A → Type 0
IsRefused (Fault line) meant = meant ≡ Err line
IsRefused Memory meant = Unit {0}

-- a refusal is by the line that was found, or memory ran out
abbrev pub IsRefusedBy : Refusal → Option (List ℕ) → Type 0
IsRefusedBy (Fault line) found = found ≡ Some line
IsRefusedBy Memory found = Unit {0}
