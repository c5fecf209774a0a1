-- The command that brings the lines of a file.
use Rattle.std.specs.Prelude.{ℕ, List, [], ◌∷◌, codes}
use Rattle.std.specs.declared.result.Result.TheVariants.{Ok, Err}
use Rattle.command_desk.specs.declared.desk.Desk.{Desk}
use Rattle.command_desk.specs.declared.steps.Ask.TheVariants as asks
use Rattle.command_desk.specs.declared.steps.Steps.{Steps}
use Rattle.command_desk.specs.Answers.{OrFault, next}
use Rattle.command_desk.specs.Effects.{unchanged}
use Rattle.command_desk.specs.Faults.{bad_arguments}
use Rattle.command_desk.specs.FileNames.{expanded}

-- the lines of the file of this name are asked for, and nothing is changed
abbrev pub bringing : List ℕ → Steps
bringing name = record { asks = asks.Source name ∷ []; effects = unchanged }

-- `source`: the lines of the file that its one word stands for
abbrev pub source : Desk → List (List ℕ) → OrFault Steps
source desk (word ∷ []) = next (expanded desk word) (λ name. Ok (bringing name))
source desk words = Err (bad_arguments (codes "source"))
