-- What the calls of a core answer.
use Rattle.std.specs.Prelude.{◌≡◌, ℕ, Bool, true, false, List, ◌++◌, Option, Some, None, All}
use Rattle.std.specs.declared.result.Result.{Result}
use Rattle.std.specs.declared.result.Result.TheVariants.{Ok, Err}
use Rattle.commit_machine.specs.Settled.{Files, Locks}
use Rattle.actor_core.specs.declared.error.CoreError.{CoreError}
use Rattle.actor_core.specs.declared.error.CoreError.TheVariants as error
use Rattle.core_steps.specs.declared.actor.Actor.{Actor}
use Rattle.core_steps.specs.declared.step.CoreStep.{CoreStep}
use Rattle.core_steps.specs.Turns.{Passed}
use Rattle.core_steps.specs.Cores.{CoreState, SameCore, stepped}
use Rattle.core_steps.specs.Starts.{begun, MayBegin, IsBadRecord, IsTokenTaken}
use Rattle.core_steps.specs.Theorem.{settled_files, IsChangedFrom, Stands, AllLeave}
use Rattle.actor_core.specs.Shown.{Held, state_shown}

-- the answer of a start
abbrev pub Begins : Files → Locks → List Actor → Result Held CoreError → Type 0
Begins files locks actors (Ok h) = MayBegin files locks actors × SameCore (state_shown h) (begun files locks actors) × IsChangedFrom (settled_files (state_shown h)) (state_shown h)
Begins files locks actors (Err (error.BadRecord name)) = IsBadRecord files locks actors name
Begins files locks actors (Err (error.TokenTaken token)) = IsTokenTaken files locks actors token
Begins files locks actors (Err error.Memory) = Unit {0}

-- the step leads to this state, or it isn't allowed and changes nothing
abbrev pub StepsTo : Held → Option CoreState → Bool → Held → Type 0
StepsTo old None done now = (done ≡ false) × (now ≡ old)
StepsTo old (Some next) done now = (done ≡ true) × SameCore (state_shown now) next

abbrev pub Steps : Held → CoreStep → Bool → Held → Type 0
Steps old step done now = StepsTo old (stepped (state_shown old) step) done now

-- a message that stands in a settled file stays, if the changes of the commit places that came leave it
abbrev pub KeepsMessages : CoreState → CoreState → Type 0
KeepsMessages old now = (name text : List ℕ) (more : List Passed) → now.places ≡ old.places ++ more → All (λ p. AllLeave name text p.1) more
    → Stands (settled_files old) name text → Stands (settled_files now) name text
