-- A commit is decided only if its changes can be made; so a file that it rewrites begins with its base.
use Rattle.std.specs.Prelude.{◌≡◌, ℕ, Bool, List, ◌∷◌, ◌++◌, Some, None}
use Rattle.std.specs.declared.result.Result.{Result}
use Rattle.host_port.specs.declared.event.Event.{Event}
use Rattle.host_port.specs.Disk.{Disk, disk}
use Rattle.folder_change.specs.declared.change.Change.TheVariants.{Rewrite}
use Rattle.folder_change.specs.ListLaws.{list_of_file}
use Rattle.commit_machine.specs.Due.{settled_files}
use Rattle.commit_machine.specs.Refusals.{first_refusal}
use Rattle.session_play.specs.declared.stop.Stop.{Stop}
use Rattle.session_play.specs.Committing.{Commit}
use Rattle.session_play.specs.Play.{Play}
use Rattle.play_safety.specs.Passes.{Commits, Passes}
use Rattle.play_safety.specs.Safe.{IsBy, EachCommit, MayRun}
use Rattle.play_safety.specs.Appended.{Decides, IsOnlyOne}

-- If a commit is decided its changes can be made, in order, of the files as they are settled just before.
abbrev pub CommitsFit : List ℕ → ℕ → Disk → List Event → Commits → Type 0
CommitsFit actor token d es commits =
    (front rest : List Event) (e : Event) (c : Commit)
    → es ≡ front ++ e ∷ rest
    → Decides actor token d commits front e c
    → first_refusal c.changes c.base (settled_files actor (disk d front)) ≡ None

-- A commit rewrites a file of which it has no other change. If it is decided the file, as it is settled just before,
-- is the base and then what was appended.
abbrev pub RewritesFit : List ℕ → ℕ → Disk → List Event → Commits → Type 0
RewritesFit actor token d es commits =
    (front rest : List Event) (e : Event) (c : Commit) (n : List ℕ) (list : List (List ℕ)) (keep : Bool)
    → es ≡ front ++ e ∷ rest
    → Decides actor token d commits front e c
    → IsOnlyOne (Rewrite n list keep) c.changes
    → (appended : List (List ℕ)) × (list_of_file (settled_files actor (disk d front) n) ≡ Some (c.base ++ appended))

-- so it is in the traces of plays whose commits are all of one actor and token
abbrev pub DecidedFit : Type 0
DecidedFit = (p : Play (Unit {0})) (actor : List ℕ) (token : ℕ) (d : Disk) (es : List Event) (commits : Commits) (out : Result Unit Stop)
    → EachCommit (IsBy actor token) p → MayRun actor token d es → Passes p d es commits out
    → CommitsFit actor token d es commits × RewritesFit actor token d es commits
