-- What was added to the file of the folder is taken in.
use Rattle.std.specs.Prelude.{◌≡◌, ℕ, ◌-◌, ◌==◌, min, true, false, List, ◌++◌, map, length, drop, if◌then◌else◌}
use Rattle.std.specs.declared.option.Option.{Option}
use Rattle.std.specs.declared.option.Option.TheVariants.{Some, None}
use Rattle.std.specs.declared.result.Result.TheVariants.{Ok, Err}
use Rattle.mbox_scan.specs.Mailbox.{texts_of}
use Rattle.folder_change.specs.Outcomes.{bytes_of}
use Rattle.mailx_vars.specs.Names.{is_short_name}
use Rattle.message_state.specs.declared.row.Row.{Row}
use Rattle.thread_view.specs.declared.view.View.{View}
use Rattle.thread_view.specs.Views.{IsViewOf}
use Rattle.session_play.specs.declared.act.Found.{Found}
use Rattle.session_play.specs.declared.act.Found.TheVariants as found
use Rattle.session_play.specs.Knowing.{Rows, Viewed, AreRows}
use Rattle.session_play.specs.Play.{Play, Ret, Ask, Try, Know, Say}
use Rattle.session_play.specs.Steps.{After, Over, Refused}
use Rattle.command_desk.specs.declared.desk.Desk.{Desk}
use Rattle.command_desk.specs.declared.steps.Refusal.{Refusal}
use Rattle.command_desk.specs.declared.steps.Refusal.TheVariants as refusal
use Rattle.command_desk.specs.Answers.{OrFault}
use Rattle.command_desk.specs.Faults.{bad_name, busy, too_large, cannot_be_read}
use Rattle.folder_commands.specs.Growing.{grown, news_line}
use Rattle.session_state.specs.declared.state.SessionState.{SessionState}
use Rattle.session_state.specs.declared.status.Status.{Status}
use Rattle.session_state.specs.States.{with_desk}
use Rattle.session_state.specs.Placing.{placed}

-- the line of a folder whose name no file can have
abbrev pub folder_fault : SessionState → Option (List ℕ)
folder_fault s = if is_short_name (placed s.here s.desk.folder.name) then None else Some (bad_name s.desk.folder.name)

-- the bytes that the folder has then, by what the load of its file found, or the line that refuses them; an absent file has no bytes, and a
-- held one is refused first
abbrev pub loaded_again : Desk → Option Found → OrFault (List ℕ)
loaded_again desk None = Err (cannot_be_read desk.folder.name)
loaded_again desk (Some (found.TooLarge n)) = Err (too_large desk.folder.name)
loaded_again desk (Some (found.Bytes file true)) = Err (busy desk.folder.name)
loaded_again desk (Some (found.Bytes file false)) = grown desk.folder.name desk.folder.folder (bytes_of file)

-- the desk whose folder has these bytes
abbrev pub with_bytes : Desk → List ℕ → Desk
with_bytes desk bytes = record desk { folder = record desk.folder { folder = bytes } }

-- the texts of the folder that no row is of yet
abbrev pub texts_behind : Desk → List (List ℕ)
texts_behind desk = drop (length desk.shown.rows) (texts_of desk.folder.folder)

-- the message that is current then: message 1 if none was and one came
abbrev pub current_among : ℕ → List Row → ℕ
current_among current rows = if current == 0 then min 1 (length rows) else current

-- the desk with these rows, which begin with its own, in this view
abbrev pub with_more : Desk → List Row → View → Desk
with_more desk rows view = record desk {
  folder = record desk.folder { marks = map (λ row. row.mark) rows };
  shown = record { rows = rows; order = view.order; depth = view.depth; current = current_among desk.shown.current rows };
}

-- the count of the messages that came is printed, and the command is over with that desk
abbrev pub telling : SessionState → Desk → Play (After SessionState Status)
telling s desk = Ask (Say (news_line (length desk.shown.rows - length s.desk.shown.rows))) (λ _. Ret (Over (with_desk s desk)))

-- the messages are shown in a view of the desk's kind
abbrev pub showing : SessionState → Desk → List Row → Play (After SessionState Status)
showing s desk rows = Ask (Know (Viewed desk.view rows)) (λ view. telling s (with_more desk rows view))

-- what follows the load: the rows of the texts that came are known, or the load refuses the command
abbrev pub taking : SessionState → OrFault (List ℕ) → Play (After SessionState Status)
taking s (Err line) = Ret (Refused line)
taking s (Ok bytes) =
    let desk = with_bytes s.desk bytes in
    Ask (Know (Rows (texts_behind desk))) (λ more. showing s desk (desk.shown.rows ++ more))

-- the file of the folder is loaded again, unless something stands in the way, and what was added is taken in
abbrev pub renews : SessionState → Option (List ℕ) → Play (After SessionState Status)
renews s (Some line) = Ret (Refused line)
renews s None = Ask (Try (placed s.here s.desk.folder.name)) (λ f. taking s (loaded_again s.desk f))

-- all texts of the folder are shown then
pub record ShowsMore (old new : Desk) : Type 0 where
  pub more : List Row
  pub view : View
  pub are : AreRows (texts_behind old) more
  pub viewed : IsViewOf old.view (old.shown.rows ++ more) view
  pub is : new ≡ with_more old (old.shown.rows ++ more) view

-- the folder has the bytes of its file then
abbrev pub IsGrown : Desk → Option Found → Desk → Type 0
IsGrown old f new = (bytes : List ℕ) × (loaded_again old f ≡ Ok bytes) × (new ≡ with_bytes old bytes)

-- what was added to the folder's file was taken in
pub record TakesIn (old : Desk) (f : Option Found) (new : Desk) : Type 0 where
  pub bytes : List ℕ
  pub grown : loaded_again old f ≡ Ok bytes
  pub shows : ShowsMore (with_bytes old bytes) new

-- a refusal leaves the desk, unless memory ran out
abbrev pub StaysIfRefused : Refusal → Desk → Desk → Type 0
StaysIfRefused (refusal.Fault line) old new = new ≡ old
StaysIfRefused refusal.Memory old new = Unit {0}
