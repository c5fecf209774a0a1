-- A message that is edited.
use Rattle.std.specs.Prelude.{ℕ, List, [], ◌∷◌, codes}
use Rattle.std.specs.declared.result.Result.TheVariants.{Ok}
use Rattle.message_list.specs.declared.list.Purpose.TheVariants.{Live}
use Rattle.command_desk.specs.declared.desk.Desk.{Desk}
use Rattle.command_desk.specs.declared.steps.Ask.TheVariants.{Edit}
use Rattle.command_desk.specs.declared.steps.Steps.{Steps}
use Rattle.command_desk.specs.Answers.{OrFault, next}
use Rattle.command_desk.specs.Effects.{unchanged}
use Rattle.command_desk.specs.Selecting.{chosen, single}

-- a message is edited by this command
abbrev pub edits : ℕ → List ℕ → Steps
edits number command = record { asks = Edit number command ∷ []; effects = unchanged }

-- the one message that is selected is, for the command of this name
abbrev pub edited_by : List ℕ → List ℕ → Desk → List (List ℕ) → OrFault Steps
edited_by name command desk words = next (chosen Live desk words) (λ ns. next (single name ns) (λ n. Ok (edits n command)))

-- `edit`, by the editor of the places
abbrev pub edit : Desk → List (List ℕ) → OrFault Steps
edit desk words = edited_by (codes "edit") desk.places.editor desk words

-- `visual`, by the visual editor
abbrev pub visual : Desk → List (List ℕ) → OrFault Steps
visual desk words = edited_by (codes "visual") desk.places.visual desk words
