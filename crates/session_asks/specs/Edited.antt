-- What is to be put on the desk for an edited message.
use Rattle.std.specs.Prelude.{◌≡◌, ℕ, ◌-◌, List, [], ◌∷◌, IfSome, slice_get, slice_set}
use Rattle.std.specs.declared.option.Option.TheVariants.{Some}
use Rattle.mail_dates.specs.Clock.{IsInYears}
use Rattle.mbox_scan.specs.Mailbox.{join, texts_of}
use Rattle.folder_change.specs.declared.change.Change.{Change}
use Rattle.message_state.specs.declared.mark.Act.TheVariants.{Look}
use Rattle.message_state.specs.declared.row.Row.{Row}
use Rattle.message_state.specs.Rows.{IsRow}
use Rattle.thread_view.specs.declared.view.View.{View}
use Rattle.thread_view.specs.Views.{IsViewOf}
use Rattle.command_desk.specs.declared.desk.Desk.{Desk}
use Rattle.command_desk.specs.Effects.{marked}
use Rattle.folder_commands.specs.Editing.{edited_texts, edited_change}
use Rattle.session_asks.specs.declared.editing.Edited.{Edited}

-- the row of a text, with the mark of message n
pub record IsMade (desk : Desk) (n : ℕ) (text : List ℕ) (row : Row) : Type 0 where
  pub made : Row
  pub is_row : IsRow text made
  pub old : Row
  pub there : slice_get desk.shown.rows (n - 1) ≡ Some old
  pub is : row ≡ record made { mark = old.mark }

-- the desk with it, before the message was looked at
abbrev pub laid_as : Desk → ℕ → Edited → Desk
laid_as desk n e = record desk {
  folder = record desk.folder { folder = e.folder };
  shown = record desk.shown { rows = slice_set desk.shown.rows (n - 1) e.row; order = e.order; depth = e.depth };
}

-- the change of an edited message, and what is to be put on the desk for it
pub record IsEdited (desk : Desk) (n : ℕ) (text : List ℕ) (changes : List Change) (e : Edited) : Type 0 where
  pub change : changes ≡ edited_change desk.folder.name (edited_texts desk.folder.folder n text) ∷ []
  pub folder : e.folder ≡ join (edited_texts desk.folder.folder n text)
  pub listed : texts_of e.folder ≡ edited_texts desk.folder.folder n text
  pub row : IsMade desk n text e.row
  pub years : IfSome e.row.moment IsInYears
  pub view : View
  pub viewed : IsViewOf desk.view (slice_set desk.shown.rows (n - 1) e.row) view
  pub order : e.order ≡ view.order
  pub depth : e.depth ≡ view.depth
  pub effects : e.effects ≡ marked desk Look (n ∷ [])
