-- Commands that say what becomes of messages as the folder is left.
use Rattle.std.specs.Prelude.{ℕ, List}
use Rattle.message_state.specs.declared.mark.Act.{Act}
use Rattle.message_state.specs.declared.mark.Act.TheVariants.{Hold, Mbox, Touch}
use Rattle.message_list.specs.declared.list.Purpose.TheVariants.{Live}
use Rattle.command_desk.specs.declared.desk.Desk.{Desk}
use Rattle.command_desk.specs.declared.steps.Steps.{Steps}
use Rattle.command_desk.specs.Answers.{OrFault, next, effects_alone}
use Rattle.command_desk.specs.Effects.{marked_and_written}
use Rattle.command_desk.specs.Selecting.{chosen}

-- an act is done on the selected messages; the last of them is current, and counts as written
abbrev pub mark : Act → Desk → List (List ℕ) → OrFault Steps
mark act desk words = next (chosen Live desk words) (λ ns. effects_alone (marked_and_written act ns))

-- `hold`, `preserve`: they stay in the system mailbox
abbrev pub hold : Desk → List (List ℕ) → OrFault Steps
hold desk words = mark Hold desk words

-- `mbox`: they go to mbox
abbrev pub mbox : Desk → List (List ℕ) → OrFault Steps
mbox desk words = mark Mbox desk words

-- `touch`: as `mbox`, but what was saved leaves all the same
abbrev pub touch : Desk → List (List ℕ) → OrFault Steps
touch desk words = mark Touch desk words
