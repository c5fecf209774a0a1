-- What others append meanwhile follows the messages that stay when a folder is left.
use Rattle.std.specs.Prelude.{◌≡◌, ◌≢◌, ℕ, true, List, ◌∷◌, ◌++◌, Some, All}
use Rattle.std.specs.declared.option.Option.{Option}
use Rattle.host_port.specs.declared.event.Event.{Event}
use Rattle.host_port.specs.Disk.{Disk, disk, after}
use Rattle.mbox_scan.specs.Mailbox.{is_mailbox, texts_of}
use Rattle.folder_change.specs.ListLaws.{list_of_file}
use Rattle.commit_machine.specs.Due.{settled_files}
use Rattle.session_play.specs.Committing.{Commit}
use Rattle.play_safety.specs.Appended.{Adds, Decides, IsLeft, IsRewritten, LeaveAlone}
use Rattle.quit_rules.specs.Gathering.{gathered_changes}
use Rattle.quit_rules.specs.Plans.{staying}
use Rattle.session_state.specs.declared.state.SessionState.{SessionState}
use Rattle.session_state.specs.declared.status.Status.{Status}
use Rattle.session_state.specs.Placing.{placed, placed_changes}
use Rattle.session_state.specs.Saving.{commit_of}
use Rattle.mailx_top.specs.declared.environment.Environment.{Environment}
use Rattle.mailx_top.specs.Words.{Start}
use Rattle.mailx_top.specs.Leavings.{left_changes}
use Rattle.mailx_top.specs.Meaning.{actor_in}
use Rattle.mailx_top.specs.Crash.{IsSafe}

-- the file of the folder that is open in this state
abbrev pub folder_file : SessionState → List ℕ
folder_file s = placed s.here s.desk.folder.name

-- The commit leaves the folder that is open in this state: the bytes that were read are a mailbox, the changes are those of a quit, and mbox is
-- another file, as is each for which a change was gathered.
pub record LeavesFolder (s : SessionState) (c : Commit) : Type 0 where
  pub read : is_mailbox s.desk.folder.folder ≡ true
  pub commit : c ≡ commit_of s (left_changes s)
  pub apart : folder_file s ≢ placed s.here s.desk.places.mbox
  pub elsewhere : All (λ one. folder_file s ≢ placed s.here one.name) s.desk.gathered

-- A commit of a run leaves a folder. From its decision on, at each moment and at each disk that a stop leaves, until the next decision or the next
-- change of the file by others, what others had appended to the messages that were read follows those that stay.
abbrev pub QuitsKeepAppended : Type 0
QuitsKeepAppended = (start : Option Start) (env : Environment) (status : Status) (d : Disk) (es : List Event) (safe : IsSafe start env status d es)
    (front behind : List Event) (e : Event) (now : Disk) (c : Commit) (s : SessionState)
    → IsLeft d es (front ++ e ∷ behind) now
    → Decides (actor_in env) env.token d safe.commits front e c
    → LeaveAlone (actor_in env) env.token (folder_file s) (after (disk d front) e) behind
    → LeavesFolder s c
    → IsRewritten (texts_of s.desk.folder.folder) (staying s.desk.folder s.desk.vars)
    (settled_files (actor_in env) (disk d front) (folder_file s)) (settled_files (actor_in env) now (folder_file s))

-- The commit leaves the folder that is open in this state, and puts these texts, which were gathered for it, at the end of its file: the bytes that were
-- read are a mailbox, the changes are those of a quit, mbox is another file, and nothing but the texts was gathered for this one.
pub record LeavesFolderWith (s : SessionState) (c : Commit) (gathered : List (List ℕ)) : Type 0 where
  pub read : is_mailbox s.desk.folder.folder ≡ true
  pub commit : c ≡ commit_of s (left_changes s)
  pub apart : folder_file s ≢ placed s.here s.desk.places.mbox
  pub adds : Adds (folder_file s) (placed_changes s.here (gathered_changes s.desk.gathered)) gathered

-- So, from its decision on, what others had appended to the messages that were read follows those that stay, and what was gathered follows that.
abbrev pub QuitsKeepGathered : Type 0
QuitsKeepGathered = (start : Option Start) (env : Environment) (status : Status) (d : Disk) (es : List Event) (safe : IsSafe start env status d es)
    (front behind : List Event) (e : Event) (now : Disk) (c : Commit) (s : SessionState) (gathered appended : List (List ℕ))
    → IsLeft d es (front ++ e ∷ behind) now
    → Decides (actor_in env) env.token d safe.commits front e c
    → LeaveAlone (actor_in env) env.token (folder_file s) (after (disk d front) e) behind
    → LeavesFolderWith s c gathered
    → list_of_file (settled_files (actor_in env) (disk d front) (folder_file s)) ≡ Some (texts_of s.desk.folder.folder ++ appended)
    → list_of_file (settled_files (actor_in env) now (folder_file s)) ≡ Some (staying s.desk.folder s.desk.vars ++ (appended ++ gathered))
