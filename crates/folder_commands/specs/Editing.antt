-- What an edited message makes of the folder.
use Rattle.std.specs.Prelude.{ℕ, ◌-◌, true, List, slice_set}
use Rattle.mbox_scan.specs.Mailbox.{texts_of}
use Rattle.folder_change.specs.declared.change.Change.{Change}
use Rattle.folder_change.specs.declared.change.Change.TheVariants.{Rewrite}

-- the texts of a folder, with this one as that of message n, numbered from 1
abbrev pub edited_texts : List ℕ → ℕ → List ℕ → List (List ℕ)
edited_texts folder n text = slice_set (texts_of folder) (n - 1) text

-- its file gets these texts in place of its own, and keeps what others added
abbrev pub edited_change : List ℕ → List (List ℕ) → Change
edited_change name texts = Rewrite name texts true
