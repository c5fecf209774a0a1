-- What others append meanwhile follows the messages of a folder of which one was edited.
use Rattle.std.specs.Prelude.{◌≡◌, ℕ, true, List, [], ◌∷◌, ◌++◌}
use Rattle.std.specs.declared.option.Option.{Option}
use Rattle.host_port.specs.declared.event.Event.{Event}
use Rattle.host_port.specs.Disk.{Disk, disk, after}
use Rattle.mbox_scan.specs.Mailbox.{is_mailbox, is_message, texts_of}
use Rattle.commit_machine.specs.Due.{settled_files}
use Rattle.folder_commands.specs.Editing.{edited_change, edited_texts}
use Rattle.session_play.specs.Committing.{Commit}
use Rattle.play_safety.specs.Appended.{Decides, IsLeft, IsRewritten, LeaveAlone}
use Rattle.session_state.specs.declared.state.SessionState.{SessionState}
use Rattle.session_state.specs.declared.status.Status.{Status}
use Rattle.session_state.specs.Saving.{commit_of}
use Rattle.mailx_top.specs.declared.environment.Environment.{Environment}
use Rattle.mailx_top.specs.Words.{Start}
use Rattle.mailx_top.specs.Meaning.{actor_in}
use Rattle.mailx_top.specs.Crash.{IsSafe}
use Rattle.mailx_top.specs.Quits.{folder_file}

-- The commit gives message n of the folder that is open in this state another text: the bytes that were read are a mailbox, and the text is a message.
pub record EditsMessage (s : SessionState) (c : Commit) (n : ℕ) (text : List ℕ) : Type 0 where
  pub read : is_mailbox s.desk.folder.folder ≡ true
  pub message : is_message text ≡ true
  pub commit : c ≡ commit_of s (edited_change s.desk.folder.name (edited_texts s.desk.folder.folder n text) ∷ [])

-- A commit of a run edits a message. From its decision on, at each moment and at each disk that a stop leaves, until the next decision or the next
-- change of the file by others, what others had appended to the messages that were read follows these with the edited one.
abbrev pub EditsKeepAppended : Type 0
EditsKeepAppended = (start : Option Start) (env : Environment) (status : Status) (d : Disk) (es : List Event) (safe : IsSafe start env status d es)
    (front behind : List Event) (e : Event) (now : Disk) (c : Commit) (s : SessionState) (n : ℕ) (text : List ℕ)
    → IsLeft d es (front ++ e ∷ behind) now
    → Decides (actor_in env) env.token d safe.commits front e c
    → LeaveAlone (actor_in env) env.token (folder_file s) (after (disk d front) e) behind
    → EditsMessage s c n text
    → IsRewritten (texts_of s.desk.folder.folder) (edited_texts s.desk.folder.folder n text)
    (settled_files (actor_in env) (disk d front) (folder_file s)) (settled_files (actor_in env) now (folder_file s))
