-- What becomes of the messages of a mailbox when a run changes it.
use Rattle.std.specs.Prelude.{◌≡◌, ◌≢◌, ◌⊎◌, ◌-◌, ℕ, true, List, [], ◌∷◌, ◌++◌, Some, All}
use Rattle.std.specs.List.{Contains, slice_get}
use Rattle.std.specs.declared.option.Option.{Option}
use Rattle.host_port.specs.declared.event.Event.{Event}
use Rattle.host_port.specs.Disk.{Disk, disk, after}
use Rattle.mbox_scan.specs.Mailbox.{IsProper, texts_of}
use Rattle.folder_change.specs.declared.change.Change.{Change}
use Rattle.folder_change.specs.declared.change.Change.TheVariants.{Add, Front}
use Rattle.folder_change.specs.Changes.{name_of}
use Rattle.folder_change.specs.Apply.{apply}
use Rattle.folder_change.specs.ListLaws.{list_of_file}
use Rattle.commit_machine.specs.Due.{settled_files}
use Rattle.session_play.specs.Committing.{Commit}
use Rattle.play_safety.specs.Appended.{Decides, IsLeft, LeaveAlone}
use Rattle.quit_rules.specs.Gathering.{gathered_changes}
use Rattle.quit_rules.specs.Plans.{IsOpen, Message, messages_of, stamped_text}
use Rattle.quit_rules.specs.QuitLaws.{is_given_up}
use Rattle.session_state.specs.declared.state.SessionState.{SessionState}
use Rattle.session_state.specs.declared.status.Status.{Status}
use Rattle.session_state.specs.Placing.{placed, placed_changes}
use Rattle.mailx_top.specs.declared.environment.Environment.{Environment}
use Rattle.mailx_top.specs.Words.{Start}
use Rattle.mailx_top.specs.Meaning.{actor_in}
use Rattle.mailx_top.specs.Crash.{IsSafe}
use Rattle.mailx_top.specs.Quits.{folder_file, LeavesFolder}
use Rattle.mailx_top.specs.Editions.{EditsMessage}

-- the text is one of a mailbox's, once recovery is done
abbrev pub Holds : List ℕ → Disk → List ℕ → List ℕ → Type 0
Holds actor d n text = (texts : List (List ℕ)) × (list_of_file (settled_files actor d n) ≡ Some texts) × Contains texts text

-- The commit was decided in this run, and this is a disk that stands later or that a stop left later. Since then no other commit was decided, and
-- others have left these files alone.
pub record IsLater (start : Option Start) (env : Environment) (status : Status) (d now : Disk) (es : List Event) (safe : IsSafe start env status d es) (c : Commit)
    (names : List (List ℕ)) : Type 0 where
  pub front : List Event
  pub behind : List Event
  pub decision : Event
  pub left : IsLeft d es (front ++ decision ∷ behind) now
  pub decides : Decides (actor_in env) env.token d safe.commits front decision c
  pub alone : All (λ n. LeaveAlone (actor_in env) env.token n (after (disk d front) decision) behind) names

-- the disk just before that decision
abbrev pub before : {start : Option Start} {env : Environment} {status : Status} {d now : Disk} {es : List Event} {safe : IsSafe start env status d es} {c : Commit}
    {names : List (List ℕ)} → IsLater start env status d now es safe c names → Disk
before {d = d} later = disk d later.front

-- ---- the folder is left
abbrev pub mbox_file : SessionState → List ℕ
mbox_file s = placed s.here s.desk.places.mbox

-- the text is that of this message of the open folder
abbrev pub IsTextOf : SessionState → Message → List ℕ → Type 0
IsTextOf s m text = Contains (messages_of s.desk.folder) m × (m.0 ≡ text)

-- What became of a text: it stands there still; or, but for the stamp of its message, it stands there or in mbox; or its message was deleted, or saved in
-- the system mailbox.
pub data IsKept (actor : List ℕ) (s : SessionState) (now : Disk) (text : List ℕ) : Type 0 where
  stands : Holds actor now (folder_file s) text → IsKept actor s now text
  stamped : (m : Message) → IsTextOf s m text → Holds actor now (folder_file s) (stamped_text m) → IsKept actor s now text
  boxed : (m : Message) → IsTextOf s m text → Holds actor now (mbox_file s) (stamped_text m) → IsKept actor s now text
  given_up : (m : Message) → IsTextOf s m text → is_given_up s.desk.folder s.desk.vars m ≡ true → IsKept actor s now text

-- A commit of a run leaves a folder, and mbox is a mailbox once what was gathered was put into its files. Then each text that stood in the folder's file
-- just before, be it one that was read or one that others had appended, is kept, and mbox has all that it had.
abbrev pub QuitsKeepMessages : Type 0
QuitsKeepMessages = (start : Option Start) (env : Environment) (status : Status) (d now : Disk) (es : List Event) (safe : IsSafe start env status d es) (c : Commit) (s : SessionState)
    (later : IsLater start env status d now es safe c (folder_file s ∷ mbox_file s ∷ [])) (there : List (List ℕ))
    → LeavesFolder s c → IsOpen s.desk.folder
    → list_of_file (apply (placed_changes s.here (gathered_changes s.desk.gathered)) c.base (settled_files (actor_in env) (before later)) (mbox_file s)) ≡ Some there
    → ((text : List ℕ) → Holds (actor_in env) (before later) (folder_file s) text → IsKept (actor_in env) s now text)
    × ((text : List ℕ) → Contains there text → Holds (actor_in env) now (mbox_file s) text)

-- ---- a message is edited
-- each text that stood there stands there still, but for the one that was edited
abbrev pub EditsKeepMessages : Type 0
EditsKeepMessages = (start : Option Start) (env : Environment) (status : Status) (d now : Disk) (es : List Event) (safe : IsSafe start env status d es) (c : Commit) (s : SessionState)
    (n : ℕ) (text : List ℕ) (later : IsLater start env status d now es safe c (folder_file s ∷ []))
    → EditsMessage s c n text
    → (old : List ℕ) → Holds (actor_in env) (before later) (folder_file s) old
    → Holds (actor_in env) now (folder_file s) old ⊎ (slice_get (texts_of s.desk.folder.folder) (n - 1) ≡ Some old)

-- ---- texts are put into a file
-- all that the changes do to this file is to put texts, which can be read back, at its end or its front
pub data PutsTexts (n : List ℕ) : List Change → Type 0 where
  nothing : PutsTexts n []
  passes : {change : Change} {changes : List Change} → n ≢ name_of change → PutsTexts n changes → PutsTexts n (change ∷ changes)
  adds : {texts : List (List ℕ)} {changes : List Change} → All IsProper texts → PutsTexts n changes → PutsTexts n (Add n texts ∷ changes)
  fronts : {texts : List (List ℕ)} {changes : List Change} → All IsProper texts → PutsTexts n changes → PutsTexts n (Front n texts ∷ changes)

-- the text is one of those that the changes put there
pub data IsPut (n text : List ℕ) : List Change → Type 0 where
  further : {change : Change} {changes : List Change} → IsPut n text changes → IsPut n text (change ∷ changes)
  added : {texts : List (List ℕ)} {changes : List Change} → Contains texts text → IsPut n text (Add n texts ∷ changes)
  fronted : {texts : List (List ℕ)} {changes : List Change} → Contains texts text → IsPut n text (Front n texts ∷ changes)

-- A commit of a run does no more than that to a file which is a mailbox, as what files messages, a record or a dead letter does. Then all that stood there
-- stands there, and all that is put.
abbrev pub FilingsKeepMessages : Type 0
FilingsKeepMessages = (start : Option Start) (env : Environment) (status : Status) (d now : Disk) (es : List Event) (safe : IsSafe start env status d es) (c : Commit) (n : List ℕ)
    (later : IsLater start env status d now es safe c (n ∷ [])) (there : List (List ℕ))
    → PutsTexts n c.changes → list_of_file (settled_files (actor_in env) (before later) n) ≡ Some there
    → (text : List ℕ) → Contains there text ⊎ IsPut n text c.changes → Holds (actor_in env) now n text
