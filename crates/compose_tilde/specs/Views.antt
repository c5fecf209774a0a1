-- What a line of a draft is read with.
use Rattle.std.specs.Prelude.{◌≡◌, ℕ, Bool, List, [], length, Option, Some, None}
use Rattle.std.specs.Option.{option_map}
use Rattle.mbox_scan.specs.Mailbox.{texts_of}
use Rattle.mailx_vars.specs.declared.environment.Places.{Places}
use Rattle.mailx_vars.specs.Settings.{Settings}
use Rattle.message_state.specs.declared.shown.Shown.{Shown}
use Rattle.message_state.specs.ShownRows.{IsShown}
use Rattle.message_list.specs.Naming.{text_at}
use Rattle.message_show.specs.FieldSets.{FieldNames}
use Rattle.rc_conditionals.specs.declared.conditions.Mode.{Mode}
use Rattle.compose_tilde.specs.declared.view.ComposeView.{ComposeView}

-- what a line of a draft is read with; the folder is the bytes of a mailbox
pub record View : Type 0 where
  pub vars : Settings
  pub places : Places
  pub shown : Shown
  pub folder : Option (List ℕ)
  pub sets : FieldNames
  pub mode : Mode
  pub terminal : Bool

-- what the program's view shows
abbrev pub view_of : ComposeView → View
view_of v = record {
  vars = v.vars.now;
  places = v.places.now;
  shown = v.shown.now;
  folder = option_map (λ folder. folder.now) v.folder;
  sets = v.sets.now;
  mode = v.mode;
  terminal = v.terminal;
}

-- the texts of the messages; no folder counts as an empty one
abbrev pub texts : Option (List ℕ) → List (List ℕ)
texts None = []
texts (Some bytes) = texts_of bytes

-- the view is valid: so is what is shown, and it has as many rows as the folder has messages
pub record IsView (view : View) : Type 0 where
  pub shown : IsShown view.shown
  pub rows : length view.shown.rows ≡ length (texts view.folder)

-- the text of message n, numbered from 1
abbrev pub message_text : View → ℕ → List ℕ
message_text view n = text_at (texts view.folder) n
