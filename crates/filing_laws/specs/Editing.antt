-- What an edit leaves.
use Rattle.std.specs.Prelude.{◌≡◌, ◌≢◌, ◌<◌, ◌+◌, ℕ, List, length, slice_get, Some}
use Rattle.mbox_scan.specs.Mailbox.{texts_of}
use Rattle.folder_commands.specs.Editing.{edited_texts}

-- The texts once the text at this place, from 0, was edited: as many as before, at the place the result, and at each other the text that was there.
pub record IsEdited (before after : List (List ℕ)) (place : ℕ) (result : List ℕ) : Type 0 where
  pub as_many : length after ≡ length before
  pub here : slice_get after place ≡ Some result
  pub others : (k : ℕ) → k ≢ place → slice_get after k ≡ slice_get before k

-- message n, numbered from 1, is edited; `place` is its place
abbrev pub EditsLeaveTheOthers : Type 0
EditsLeaveTheOthers = (folder result : List ℕ) (place : ℕ) → place < length (texts_of folder)
    → IsEdited (texts_of folder) (edited_texts folder (place + 1) result) place result
