-- What others appended to a mailbox follows the messages that a commit rewrites it to, in the files that a run leaves.
use Rattle.std.specs.Prelude.{◌≡◌, ◌≢◌, ℕ, Bool, true, false, List, [], ◌∷◌, ◌++◌, Option, Some, length, All}
use Rattle.std.specs.declared.result.Result.{Result}
use Rattle.host_port.specs.declared.event.Event.{Event}
use Rattle.host_port.specs.declared.event.Event.TheVariants.{Foreign}
use Rattle.host_port.specs.declared.event.Part.{Part}
use Rattle.host_port.specs.Disk.{Disk, disk, after, after_step}
use Rattle.host_port.specs.Ends.{stopped}
use Rattle.mbox_scan.specs.Mailbox.{IsProper}
use Rattle.folder_change.specs.declared.change.Change.{Change}
use Rattle.folder_change.specs.declared.change.Change.TheVariants.{Rewrite, Add}
use Rattle.folder_change.specs.Changes.{name_of}
use Rattle.folder_change.specs.ListLaws.{list_of_file}
use Rattle.commit_machine.specs.Due.{settled_files, is_decision}
use Rattle.commit_machine.specs.Laws.{in_flight, decisions}
use Rattle.commit_machine.specs.Rows.{first_job}
use Rattle.session_play.specs.declared.stop.Stop.{Stop}
use Rattle.session_play.specs.Committing.{Commit}
use Rattle.play_safety.specs.Passes.{Commits}
use Rattle.play_safety.specs.Safe.{IsCrashSafe}

-- The disk that these events of a run leave: what stands at a moment, or what a stop before or inside an event leaves.
pub data IsLeft (d : Disk) (es l : List Event) (now : Disk) : Type 0 where
  at_moment : (rest : List Event) → es ≡ l ++ rest → now ≡ disk d l → IsLeft d es l now
  at_stop : (front rest : List Event) (e : Event) (part : Part) → es ≡ front ++ e ∷ rest
      → l ≡ front ++ in_flight (disk d front) e part → now ≡ stopped (disk d front) e part → IsLeft d es l now

-- The event after these is the decision of this commit: as many were passed as commits come before it.
pub record Decides (actor : List ℕ) (token : ℕ) (d : Disk) (commits : Commits) (front : List Event) (e : Event) (c : Commit) : Type 0 where
  pub earlier : List Commit
  pub later : List Commit
  pub order : commits.accepted ++ commits.pending ≡ earlier ++ c ∷ later
  pub passed : decisions (first_job actor token []) d 0 front ≡ length earlier
  pub decision : is_decision (first_job actor token []) e (disk d front) ≡ true

-- none of these events is a decision, and no step of others among them changes what is settled of this file
abbrev pub LeaveAlone : List ℕ → ℕ → List ℕ → Disk → List Event → Type 0
LeaveAlone actor token n d [] = Unit {0}
LeaveAlone actor token n d (Foreign step ∷ es) = (settled_files actor (after_step d step) n ≡ settled_files actor d n) × LeaveAlone actor token n (after_step d step) es
LeaveAlone actor token n d (e ∷ es) = (is_decision (first_job actor token []) e d ≡ false) × LeaveAlone actor token n (after d e) es

-- the change is one of these, and no other has its file
pub record IsOnlyOne (change : Change) (changes : List Change) : Type 0 where
  pub front : List Change
  pub rest : List Change
  pub is : changes ≡ front ++ change ∷ rest
  pub others : All (λ other. name_of change ≢ name_of other) front × All (λ other. name_of change ≢ name_of other) rest

-- Changes put these texts, which can be read back, at the end of the file of this name, and do nothing else to it.
pub data Adds (n : List ℕ) : List Change → List (List ℕ) → Type 0 where
  nothing : Adds n [] []
  passes : {change : Change} {changes : List Change} {texts : List (List ℕ)} → n ≢ name_of change → Adds n changes texts → Adds n (change ∷ changes) texts
  puts : {more : List (List ℕ)} {changes : List Change} {texts : List (List ℕ)} → All IsProper more → Adds n changes texts → Adds n (Add n more ∷ changes) (more ++ texts)

-- Changes put texts at the end of a file, then rewrite it, and do nothing to it after that.
pub record AddsAndRewrites (n : List ℕ) (added list : List (List ℕ)) (keep : Bool) (changes : List Change) : Type 0 where
  pub front : List Change
  pub rest : List Change
  pub is : changes ≡ front ++ Rewrite n list keep ∷ rest
  pub adds : Adds n front added
  pub others : All (λ other. n ≢ name_of other) rest

-- A file before and after a rewrite of the base to a list: what followed the base follows the list. Where the file
-- didn't begin with the base it is as it was. An absent file has no messages.
pub record IsRewritten (base list : List (List ℕ)) (before now : Option (List ℕ)) : Type 0 where
  pub follows : (appended : List (List ℕ)) → list_of_file before ≡ Some (base ++ appended) → list_of_file now ≡ Some (list ++ appended)
  pub stays : ((appended : List (List ℕ)) → list_of_file before ≢ Some (base ++ appended)) → now ≡ before

-- each accepted commit has its decision in the run
abbrev pub AcceptedAreDecided : List ℕ → ℕ → Disk → List Event → Commits → Type 0
AcceptedAreDecided actor token d es commits = (earlier later : List Commit) (c : Commit) → commits.accepted ≡ earlier ++ c ∷ later
    → (front : List Event) × (e : Event) × (rest : List Event) × (es ≡ front ++ e ∷ rest) × Decides actor token d commits front e c

-- A commit rewrites a file of which it has no other change. Then from its decision on, at each moment and at each disk
-- that a stop leaves, until the next decision or the next change of the file by others, what others had appended to
-- the base just before the decision follows the list.
abbrev pub RewritesAreFollowed : List ℕ → ℕ → Disk → List Event → Commits → Type 0
RewritesAreFollowed actor token d es commits =
    (front behind : List Event) (e : Event) (now : Disk) (c : Commit) (n : List ℕ) (list : List (List ℕ)) (keep : Bool)
    → IsLeft d es (front ++ e ∷ behind) now
    → Decides actor token d commits front e c
    → LeaveAlone actor token n (after (disk d front) e) behind
    → IsOnlyOne (Rewrite n list keep) c.changes
    → All IsProper list
    → IsRewritten c.base list (settled_files actor (disk d front) n) (settled_files actor now n)

-- So what a commit adds to a file follows what stood there just before its decision.
abbrev pub AddsFollow : List ℕ → ℕ → Disk → List Event → Commits → Type 0
AddsFollow actor token d es commits =
    (front behind : List Event) (e : Event) (now : Disk) (c : Commit) (n : List ℕ) (added before : List (List ℕ))
    → IsLeft d es (front ++ e ∷ behind) now
    → Decides actor token d commits front e c
    → LeaveAlone actor token n (after (disk d front) e) behind
    → Adds n c.changes added
    → list_of_file (settled_files actor (disk d front) n) ≡ Some before
    → list_of_file (settled_files actor now n) ≡ Some (before ++ added)

-- And if it rewrites the file after that, what others had appended to the base follows the list, and what it adds follows
-- that.
abbrev pub AddsAreFollowed : List ℕ → ℕ → Disk → List Event → Commits → Type 0
AddsAreFollowed actor token d es commits =
    (front behind : List Event) (e : Event) (now : Disk) (c : Commit) (n : List ℕ) (added list appended : List (List ℕ)) (keep : Bool)
    → IsLeft d es (front ++ e ∷ behind) now
    → Decides actor token d commits front e c
    → LeaveAlone actor token n (after (disk d front) e) behind
    → AddsAndRewrites n added list keep c.changes
    → All IsProper list
    → list_of_file (settled_files actor (disk d front) n) ≡ Some (c.base ++ appended)
    → list_of_file (settled_files actor now n) ≡ Some (list ++ (appended ++ added))

-- what holds of the files that the commits of a run leave
pub record AreFollowed (actor : List ℕ) (token : ℕ) (d : Disk) (es : List Event) (commits : Commits) : Type 0 where
  pub accepted : AcceptedAreDecided actor token d es commits
  pub rewrites : RewritesAreFollowed actor token d es commits
  pub adds : AddsFollow actor token d es commits
  pub both : AddsAreFollowed actor token d es commits

-- so it is in each run that is crash safe
abbrev pub AppendedFollows : Type 0
AppendedFollows = (actor : List ℕ) (token : ℕ) (d : Disk) (es : List Event) (commits : Commits) (out : Result Unit Stop)
    → IsCrashSafe actor token d es commits out
    → AreFollowed actor token d es commits
