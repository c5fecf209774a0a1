-- Where the messages of a folder that is left go.
use Rattle.std.specs.Prelude.{◌≡◌, ◌≢◌, ℕ, true, false, List, [], ◌∷◌, ◌++◌, Some, All, map, codes, if◌then◌else◌}
use Rattle.mbox_scan.specs.Mailbox.{is_mailbox}
use Rattle.mailx_vars.specs.Settings.{Settings, is_set}
use Rattle.folder_change.specs.declared.change.Change.{Change}
use Rattle.folder_change.specs.Apply.{Files, apply}
use Rattle.folder_change.specs.Changes.{name_of}
use Rattle.folder_change.specs.ListLaws.{list_of_file}
use Rattle.quit_rules.specs.declared.open.Open.{Open}
use Rattle.quit_rules.specs.declared.gathered.BatchItem.{BatchItem}
use Rattle.quit_rules.specs.Gathering.{gathered_changes}
use Rattle.quit_rules.specs.Plans.{messages_of, stamped_text, staying, boxed, leaving_changes, quit_changes}

-- the texts of mbox once these went there: before those that stood there, or behind them with `append`
abbrev pub with_boxed : Settings → List (List ℕ) → List (List ℕ) → List (List ℕ)
with_boxed vars texts there = if is_set vars (codes "append") then there ++ texts else texts ++ there

-- A folder is left whose bytes are a mailbox, and mbox is another file, and a mailbox once what was gathered was put into its files. Then mbox has the
-- texts that go there, and all that stood there then.
abbrev pub QuitsFillMbox : Type 0
QuitsFillMbox = (folder : Open) (vars : Settings) (mbox : List ℕ) (gathered : List BatchItem) (base there : List (List ℕ)) (files : Files)
    → is_mailbox folder.folder ≡ true → folder.name ≢ mbox
    → list_of_file (apply (gathered_changes gathered) base files mbox) ≡ Some there
    → list_of_file (apply (quit_changes folder vars mbox gathered) base files mbox) ≡ Some (with_boxed vars (boxed folder vars) there)

-- the first list is the second one with some left out: the others stand in their order, each as often as it stood there
pub data IsPartOf : List (List ℕ) → List (List ℕ) → Type 0 where
  none : IsPartOf [] []
  taken : (x : List ℕ) (xs ys : List (List ℕ)) → IsPartOf xs ys → IsPartOf (x ∷ xs) (x ∷ ys)
  left : (y : List ℕ) (xs ys : List (List ℕ)) → IsPartOf xs ys → IsPartOf xs (y ∷ ys)

-- the texts of the folder's messages, each with its mark stamped on it, in order of number
abbrev pub stamped_texts : Open → List (List ℕ)
stamped_texts folder = map stamped_text (messages_of folder)

-- what stays and what goes to mbox are parts of them
pub record AreInOrder (folder : Open) (vars : Settings) : Type 0 where
  pub staying : IsPartOf (staying folder vars) (stamped_texts folder)
  pub boxed : IsPartOf (boxed folder vars) (stamped_texts folder)

abbrev pub BothAreInOrder : Type 0
BothAreInOrder = (folder : Open) (vars : Settings) → AreInOrder folder vars

-- a folder that isn't the system mailbox is left: nothing goes to mbox, so mbox isn't changed
abbrev pub NothingIsBoxed : Type 0
NothingIsBoxed = (folder : Open) (vars : Settings) → folder.system ≡ false → boxed folder vars ≡ []

-- beside what was gathered its own file alone is changed, whatever file mbox is
abbrev pub OnlyTheFolder : Type 0
OnlyTheFolder = (folder : Open) (vars : Settings) (mbox : List ℕ) → folder.system ≡ false
    → All (λ (change : Change). name_of change ≡ folder.name) (leaving_changes folder vars mbox)
