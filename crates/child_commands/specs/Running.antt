-- A command that is run.
use Rattle.std.specs.Prelude.{ℕ, List, [], ◌∷◌}
use Rattle.std.specs.declared.result.Result.TheVariants.{Ok}
use Rattle.command_desk.specs.declared.effects.Effects.{Effects}
use Rattle.command_desk.specs.declared.steps.Ask.TheVariants.{Child}
use Rattle.command_desk.specs.declared.steps.Steps.{Steps}
use Rattle.command_desk.specs.Answers.{OrFault}
use Rattle.command_desk.specs.Effects.{unchanged}

-- a command is run with this input, and then this is changed
abbrev pub runs : List ℕ → List ℕ → Effects → OrFault Steps
runs command input effects = Ok (record { asks = Child command input ∷ []; effects = effects })

-- `!`: the rest of the line is the command; it has no input
abbrev pub shell : List ℕ → OrFault Steps
shell rest = runs rest [] unchanged
