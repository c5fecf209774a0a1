-- What a command prints of messages that it put into a file.
use Rattle.std.specs.Prelude.{◌≡◌, ◌⊎◌, ℕ, List, [], ◌∷◌, ◌++◌}
use Rattle.std.specs.List.{Contains}
use Rattle.std.specs.declared.result.Result.TheVariants.{Ok}
use Rattle.quit_rules.specs.Gathering.{change_of}
use Rattle.command_desk.specs.declared.desk.Desk.{Desk}
use Rattle.command_desk.specs.declared.steps.Ask.TheVariants.{Say}
use Rattle.command_desk.specs.declared.steps.Steps.{Steps}
use Rattle.command_desk.specs.Effects.{effect}
use Rattle.folder_commands.specs.declared.wanted.Filing.{Filing}
use Rattle.filing_laws.specs.Telling.{SaysBehind}
use Rattle.read_commands.specs.Commands.{filed}

-- it is put into its file: what is printed has the receipt, and stands behind the commit of its change
pub record IsPut (filing : Filing) (steps : Steps) : Type 0 where
  pub behind : SaysBehind (change_of filing.put) steps.asks
  pub told : Contains steps.asks (Say filing.put.reply)

-- it is gathered, with the receipt, behind all that was gathered before, and nothing is printed
pub record IsGathered (desk : Desk) (filing : Filing) (steps : Steps) : Type 0 where
  pub silent : (bytes : List ℕ) → Contains steps.asks (Say bytes) → ⊥
  pub gathered : (effect desk steps.effects).gathered ≡ desk.gathered ++ filing.put ∷ []

-- what a command comes to that puts messages into a file
abbrev pub FilingsTellBehind : Type 0
FilingsTellBehind = (desk : Desk) (filing : Filing) (steps : Steps) → filed desk (Ok filing) ≡ Ok steps
    → IsPut filing steps ⊎ IsGathered desk filing steps
