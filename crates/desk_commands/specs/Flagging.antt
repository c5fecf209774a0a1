-- Commands that set and clear the flags of messages.
use Rattle.std.specs.Prelude.{ℕ, List}
use Rattle.message_state.specs.declared.mark.Act.{Act}
use Rattle.message_list.specs.declared.list.Purpose.TheVariants.{Live}
use Rattle.command_desk.specs.declared.desk.Desk.{Desk}
use Rattle.command_desk.specs.declared.steps.Steps.{Steps}
use Rattle.command_desk.specs.Answers.{OrFault, next, effects_alone}
use Rattle.command_desk.specs.Effects.{marked}
use Rattle.command_desk.specs.Selecting.{chosen}

-- an act is done on the selected messages, and the last of them is current
abbrev pub flagging : Act → Desk → List (List ℕ) → OrFault Steps
flagging act desk words = next (chosen Live desk words) (λ ns. effects_alone (marked desk act ns))
