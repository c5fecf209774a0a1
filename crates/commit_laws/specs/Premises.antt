-- A small trace that meets all that is asked of a run.
use Rattle.std.specs.Prelude.{◌≢◌, ◌<◌, ◌^◌, ℕ, false, List, [], ◌∷◌}
use Rattle.std.specs.declared.option.Option.TheVariants.{None}
use Rattle.host_port.specs.declared.event.Event.{Event}
use Rattle.host_port.specs.declared.event.Event.TheVariants.{Foreign, Out}
use Rattle.host_port.specs.declared.event.ForeignStep.TheVariants.{Lock}
use Rattle.commit_machine.specs.Worked.{nothing}
use Rattle.play_safety.specs.Safe.{MayRun}
use Rattle.session_state.specs.declared.status.Status.TheVariants.{Usage}
use Rattle.mailx_top.specs.declared.environment.Environment.{Environment}
use Rattle.mailx_top.specs.Meaning.{actor_in, usage}
use Rattle.mailx_top.specs.Crash.{IsSafe}

-- another locks a file for itself, and the usage is printed
abbrev pub small_trace : List ℕ → ℕ → List Event
small_trace name other = Foreign (Lock name other) ∷ Out usage false ∷ []

-- On an empty disk, in whatever environment, these are the events of a run whose words are refused, beside which another does what is lawful.
abbrev pub PremisesAreMet : Type 0
PremisesAreMet = (env : Environment) (name : List ℕ) (other : ℕ) → env.token < 2 ^ 64 → other ≢ env.token
    → MayRun (actor_in env) env.token nothing (small_trace name other) × IsSafe None env Usage nothing (small_trace name other)
