-- The command that leaves the folder.
use Rattle.std.specs.Prelude.{ℕ, ◌==◌, List, [], ◌∷◌, ◌++◌, length, codes, if◌then◌else◌}
use Rattle.std.specs.List.{flat_map}
use Rattle.folder_change.specs.declared.change.Change.{Change}
use Rattle.quit_rules.specs.declared.gathered.BatchItem.{BatchItem}
use Rattle.quit_rules.specs.Plans.{staying, boxed, quit_changes}
use Rattle.command_desk.specs.declared.desk.Desk.{Desk}
use Rattle.command_desk.specs.declared.steps.Ask.{Ask}
use Rattle.command_desk.specs.declared.steps.Ask.TheVariants as asks
use Rattle.command_desk.specs.declared.steps.Steps.{Steps}
use Rattle.command_desk.specs.Effects.{unchanged}
use Rattle.folder_commands.specs.Saving.{receipt}

-- the changes by which the folder of a desk is left, after those that were gathered
abbrev pub changes_of : Desk → List Change
changes_of desk = quit_changes desk.folder desk.vars desk.places.mbox desk.gathered

-- the replies of what was gathered, in order
abbrev pub replies : List BatchItem → List ℕ
replies gathered = flat_map (λ g. g.reply) gathered

-- the line of what became of `count` messages, if there are any
abbrev pub counted : List ℕ → List ℕ → ℕ → List ℕ
counted name done count = if count == 0 then [] else receipt name done count

-- what is printed once the folder was left: the replies of what was gathered, how many messages went to mbox, and how many stay
abbrev pub left_reply : Desk → List ℕ
left_reply desk =
    replies desk.gathered
    ++ counted desk.places.mbox (codes "Saved") (length (boxed desk.folder desk.vars))
    ++ counted desk.folder.name (codes "Held") (length (staying desk.folder desk.vars))

-- bytes are printed, if there are any
abbrev pub said : List ℕ → List Ask
said text = if length text == 0 then [] else asks.Say text ∷ []

-- `quit`: the changes are committed, what was gathered first; then the reply is printed, and then the run ends
abbrev pub quit : Desk → Steps
quit desk = record {
  asks = asks.Commit (changes_of desk) ∷ (said (left_reply desk) ++ asks.Exit ∷ []);
  effects = unchanged;
}
