-- What becomes of each message through whole runs.
use Rattle.std.specs.Prelude.{◌≡◌, ◌⊎◌, ◌-◌, ℕ, Bool, true, false, List, [], ◌∷◌, ◌++◌, Some, None}
use Rattle.std.specs.List.{Contains, list_all, slice_get}
use Rattle.std.specs.declared.option.Option.{Option}
use Rattle.host_port.specs.declared.event.Event.{Event}
use Rattle.host_port.specs.declared.event.Event.TheVariants.{Foreign}
use Rattle.host_port.specs.declared.event.ForeignStep.{ForeignStep}
use Rattle.host_port.specs.Disk.{Disk, disk, after, after_step}
use Rattle.mbox_scan.specs.Mailbox.{is_message, texts_of}
use Rattle.message_state.specs.StampLaws.{HasTheRest, without_marks}
use Rattle.folder_change.specs.declared.change.Change.{Change}
use Rattle.folder_change.specs.declared.change.Change.TheVariants.{Rewrite, Add, Front, AddRaw}
use Rattle.folder_change.specs.Changes.{is_rewrite, name_of}
use Rattle.folder_change.specs.Apply.{Files}
use Rattle.folder_change.specs.ListLaws.{list_of_file}
use Rattle.commit_machine.specs.Due.{settled_files}
use Rattle.session_play.specs.Committing.{Commit}
use Rattle.play_safety.specs.Passes.{Commits}
use Rattle.play_safety.specs.Appended.{Decides, IsLeft}
use Rattle.quit_rules.specs.Plans.{Message, boxed, messages_of}
use Rattle.quit_rules.specs.QuitLaws.{is_given_up}
use Rattle.session_state.specs.declared.state.SessionState.{SessionState}
use Rattle.session_state.specs.declared.status.Status.{Status}
use Rattle.session_state.specs.Saving.{commit_of}
use Rattle.mailx_top.specs.declared.environment.Environment.{Environment}
use Rattle.mailx_top.specs.Words.{Start}
use Rattle.mailx_top.specs.Meaning.{actor_in}
use Rattle.mailx_top.specs.Leavings.{left_changes}
use Rattle.mailx_top.specs.Crash.{IsSafe}
use Rattle.mailx_top.specs.Quits.{folder_file}
use Rattle.mailx_top.specs.Editions.{EditsMessage}
use Rattle.run_laws.specs.Keeping.{IsPut, mbox_file}

-- ---- a message that stands
-- two texts are the same message: nothing but `Status` and `X-Status` fields differs
abbrev pub IsSame : List ℕ → List ℕ → Type 0
IsSame a b = HasTheRest without_marks a b

-- the message is one of those of the mailbox of this name, whole
abbrev pub Stands : Files → List ℕ → List ℕ → Type 0
Stands files name text = (texts : List (List ℕ)) × (now : List ℕ) × (list_of_file (files name) ≡ Some texts) × Contains texts now × IsSame text now

-- ---- what a commit may do to it
-- the commit leaves the folder that is open in this state
abbrev pub Leaves : SessionState → Commit → Type 0
Leaves s c = c ≡ commit_of s (left_changes s)

-- and this is the message there, in the file of this name
pub record IsMessageLeft (s : SessionState) (c : Commit) (name text : List ℕ) (m : Message) : Type 0 where
  pub leaves : Leaves s c
  pub file : folder_file s ≡ name
  pub there : Contains (messages_of s.desk.folder) m
  pub same : IsSame text m.0

-- the change puts messages into its file, and nothing else; a rewrite puts none
abbrev pub is_mail : Change → Bool
is_mail (Rewrite name list keep) = true
is_mail (Add name texts) = list_all is_message texts
is_mail (Front name texts) = list_all is_message texts
is_mail (AddRaw name bytes) = false

-- the changes put something else than messages into the file of this name
abbrev pub PutsOther : List ℕ → List Change → Type 0
PutsOther name changes = (change : Change) × Contains changes change × (name_of change ≡ name) × (is_mail change ≡ false)

-- Why a message stands, after a commit, neither in its file nor in mbox. It was deleted, or saved in the system mailbox; it was given another text; it went to
-- mbox, and that is its own file, or no mailbox, or something else than messages was put there too; something else than messages was put into its file; or
-- the session that left the folder had no mark for it.
pub data IsTaken (files : Files) (c : Commit) (name text : List ℕ) : Type 0 where
  given_up : (s : SessionState) (m : Message) → IsMessageLeft s c name text m → is_given_up s.desk.folder s.desk.vars m ≡ true → IsTaken files c name text
  edited : (s : SessionState) (n : ℕ) (new old : List ℕ) → EditsMessage s c n new → folder_file s ≡ name → slice_get (texts_of s.desk.folder.folder) (n - 1) ≡ Some old → IsSame text old
      → IsTaken files c name text
  unboxed : (s : SessionState) (m : Message) → IsMessageLeft s c name text m
      → (mbox_file s ≡ name) ⊎ ((list_of_file (files (mbox_file s)) ≡ None) ⊎ PutsOther (mbox_file s) c.changes) → IsTaken files c name text
  overlaid : PutsOther name c.changes → IsTaken files c name text
  unmarked : (s : SessionState) (k : ℕ) (old : List ℕ) → Leaves s c → folder_file s ≡ name → slice_get (texts_of s.desk.folder.folder) k ≡ Some old → IsSame text old
      → slice_get s.desk.folder.marks k ≡ None → IsTaken files c name text

-- the message went to this file, which is the mbox of a folder that was left
pub record GoesToMbox (c : Commit) (name text : List ℕ) : Type 0 where
  pub state : SessionState
  pub leaves : Leaves state c
  pub file : mbox_file state ≡ name
  pub now : List ℕ
  pub boxed : Contains (boxed state.desk.folder state.desk.vars) now
  pub same : IsSame text now

-- ---- what becomes of it in a run
-- A commit of a run that is decided among these events, behind those that are given first.
pub record IsDecided (actor : List ℕ) (token : ℕ) (d : Disk) (commits : Commits) (from seen : List Event) : Type 0 where
  pub front : List Event
  pub decision : Event
  pub behind : List Event
  pub commit : Commit
  pub is : seen ≡ front ++ decision ∷ behind
  pub since : (more : List Event) × (front ≡ from ++ more)
  pub decides : Decides actor token d commits front decision commit

-- this holds of such a commit, and of the files as they are settled just before its decision
abbrev pub SomeDecided : List ℕ → ℕ → Disk → Commits → List Event → List Event → (Files → Commit → Type 0) → Type 0
SomeDecided actor token d commits from seen P = (one : IsDecided actor token d commits from seen) × P (settled_files actor (disk d one.front)) one.commit

-- The message stands in the file where it stood, or in an mbox to which one of these commits moved it; or one of them has taken it away from where it
-- stood just before.
pub data IsKept (actor : List ℕ) (some_decided : (Files → Commit → Type 0) → Type 0) (now : Disk) (home text : List ℕ) : Type 0 where
  stands : (name : List ℕ) → (name ≡ home) ⊎ some_decided (λ files c. GoesToMbox c name text) → Stands (settled_files actor now) name text
      → IsKept actor some_decided now home text
  taken : (name : List ℕ) → some_decided (λ files c. Stands files name text × IsTaken files c name text) → IsKept actor some_decided now home text

-- a step of others leaves the message in each file in which it stands
abbrev pub LeavesIt : List ℕ → List ℕ → Disk → ForeignStep → Type 0
LeavesIt actor text d step = (name : List ℕ) → Stands (settled_files actor d) name text → Stands (settled_files actor (after_step d step)) name text

-- so does each of theirs among these events
abbrev pub OthersLeaveIt : List ℕ → List ℕ → Disk → List Event → Type 0
OthersLeaveIt actor text d [] = Unit {0}
OthersLeaveIt actor text d (Foreign step ∷ es) = LeavesIt actor text d step × OthersLeaveIt actor text (after_step d step) es
OthersLeaveIt actor text d (e ∷ es) = OthersLeaveIt actor text (after d e) es

-- A message that stands in a mailbox at some moment of a run, because it stood there at the start or because others have appended it, stands at each later
-- moment, and in what recovery makes of each disk that a stop leaves, whole but for `Status` and `X-Status`, in that mailbox or in an mbox to which the
-- run moved it; or a commit of the run that is decided between that moment and this one took it away. Others leave it.
abbrev pub MessagesAreKept : Type 0
MessagesAreKept = (start : Option Start) (env : Environment) (status : Status) (d now : Disk) (es front rest behind : List Event) (safe : IsSafe start env status d es) (home text : List ℕ)
    → es ≡ front ++ rest → Stands (settled_files (actor_in env) (disk d front)) home text
    → IsLeft d es (front ++ behind) now → OthersLeaveIt (actor_in env) text (disk d front) behind
    → IsKept (actor_in env) (λ P. SomeDecided (actor_in env) env.token d safe.commits front (front ++ behind) P) now home text

-- ---- what a run puts into a mailbox
-- all that the changes do to the file of this name is to put messages there
abbrev pub OnlyPutsMail : List ℕ → List Change → Type 0
OnlyPutsMail name changes = (change : Change) → Contains changes change → name_of change ≡ name → (is_rewrite change ≡ false) × (is_mail change ≡ true)

-- So does a decided commit of a run to a mailbox, as what files messages does. Then what it puts there is kept from then on, in the same words.
abbrev pub PutIsKept : Type 0
PutIsKept = (start : Option Start) (env : Environment) (status : Status) (d now : Disk) (es seen : List Event) (safe : IsSafe start env status d es)
    (one : IsDecided (actor_in env) env.token d safe.commits [] seen) (name text : List ℕ) (there : List (List ℕ))
    → OnlyPutsMail name one.commit.changes → list_of_file (settled_files (actor_in env) (disk d one.front) name) ≡ Some there → IsPut name text one.commit.changes
    → IsLeft d es seen now → OthersLeaveIt (actor_in env) text (disk d (one.front ++ one.decision ∷ [])) one.behind
    → IsKept (actor_in env) (λ P. SomeDecided (actor_in env) env.token d safe.commits (one.front ++ one.decision ∷ []) seen P) now name text
