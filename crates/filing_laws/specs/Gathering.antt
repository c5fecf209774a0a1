-- What is gathered isn't lost.
use Rattle.std.specs.Prelude.{◌≡◌, ℕ, List, ◌++◌}
use Rattle.std.specs.List.{Contains}
use Rattle.mbox_scan.specs.Mailbox.{join}
use Rattle.folder_change.specs.Apply.{Files, apply}
use Rattle.folder_change.specs.Outcomes.{bytes_of}
use Rattle.quit_rules.specs.declared.gathered.Payload.{Payload}
use Rattle.quit_rules.specs.declared.gathered.Payload.TheVariants.{Texts, Bytes}
use Rattle.quit_rules.specs.declared.gathered.BatchItem.{BatchItem}
use Rattle.quit_rules.specs.Gathering.{gathered_changes}
use Rattle.command_desk.specs.declared.desk.Desk.{Desk}
use Rattle.command_desk.specs.declared.effects.Effects.{Effects}
use Rattle.command_desk.specs.Effects.{effect}
use Rattle.filing_laws.specs.Saving.{StandsIn}

-- what a command gathers comes behind what was gathered before
abbrev pub GatheredStays : Type 0
GatheredStays = (desk : Desk) (effects : Effects) → (more : List BatchItem) × ((effect desk effects).gathered ≡ desk.gathered ++ more)

-- what is put at the end of a file, as bytes
abbrev pub put_bytes : Payload → List ℕ
put_bytes (Texts texts) = join texts
put_bytes (Bytes bytes) = bytes

-- once what was gathered is put into its files, each thing stands in its file
abbrev pub GatheredIsPut : Type 0
GatheredIsPut = (gathered : List BatchItem) (base : List (List ℕ)) (files : Files) (one : BatchItem)
    → Contains gathered one
    → StandsIn (put_bytes one.what) (bytes_of (apply (gathered_changes gathered) base files one.name))
