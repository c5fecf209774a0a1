-- A receipt tells what is there.
use Rattle.std.specs.Prelude.{◌≡◌, ℕ, All, List, [], ◌∷◌, ◌++◌}
use Rattle.std.specs.List.{Contains}
use Rattle.folder_change.specs.declared.change.Change.{Change}
use Rattle.folder_change.specs.Apply.{Files, apply}
use Rattle.folder_change.specs.Outcomes.{bytes_of}
use Rattle.quit_rules.specs.declared.gathered.BatchItem.{BatchItem}
use Rattle.quit_rules.specs.Gathering.{change_of}
use Rattle.command_desk.specs.declared.desk.Desk.{Desk}
use Rattle.command_desk.specs.declared.steps.Ask.{Ask}
use Rattle.command_desk.specs.declared.steps.Ask.TheVariants.{Say, Commit}
use Rattle.folder_commands.specs.Leaving.{changes_of, left_reply, quit}
use Rattle.filing_laws.specs.Gathering.{put_bytes}
use Rattle.filing_laws.specs.Saving.{StandsIn}

-- one of these asks commits the change
pub record Commits (change : Change) (asks : List Ask) : Type 0 where
  pub changes : List Change
  pub asked : Contains asks (Commit changes)
  pub holds : Contains changes change

-- whatever is printed by these asks stands behind one that commits the change
abbrev pub SaysBehind : Change → List Ask → Type 0
SaysBehind change asks = (front behind : List Ask) (bytes : List ℕ) → asks ≡ front ++ Say bytes ∷ behind → Commits change front

-- A quit prints nothing before it has committed each of its changes.
abbrev pub QuitsTellBehind : Type 0
QuitsTellBehind = (desk : Desk) (change : Change) → Contains (changes_of desk) change → SaysBehind change (quit desk).asks

-- the change of what was gathered is one of those by which the folder is left, and what is printed then has its reply
pub record IsTold (desk : Desk) (one : BatchItem) : Type 0 where
  pub changed : Contains (changes_of desk) (change_of one)
  pub told : StandsIn one.reply (left_reply desk)

abbrev pub GatheredIsTold : Type 0
GatheredIsTold = (desk : Desk) (one : BatchItem) → Contains desk.gathered one → IsTold desk one

-- the bytes are those that were there before and, with line feeds at most between them, these at the end
pub record EndsWith (before part now : List ℕ) : Type 0 where
  pub between : List ℕ
  pub feeds : All (λ b. b ≡ 10) between
  pub is : now ≡ before ++ (between ++ part)

-- once the change of what is put is made, its file has all that it had, and ends with it
abbrev pub PutIsAtTheEnd : Type 0
PutIsAtTheEnd = (one : BatchItem) (base : List (List ℕ)) (files : Files)
    → EndsWith (bytes_of (files one.name)) (put_bytes one.what) (bytes_of (apply (change_of one ∷ []) base files one.name))
