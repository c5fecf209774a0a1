-- What is printed before a commit was answered.
use Rattle.std.specs.Prelude.{◌≡◌, ◌⊎◌, ℕ, List, [], ◌∷◌}
use Rattle.folder_change.specs.declared.change.Change.{Change}
use Rattle.session_play.specs.declared.changing.Attempt.TheVariants.{Made}
use Rattle.session_play.specs.declared.changing.Committed.TheVariants as committed
use Rattle.session_play.specs.Committing.{Commit}
use Rattle.session_play.specs.Play.{Act, Answer, Play, Ret, Ask, Say, Changes}
use Rattle.session_play.specs.Steps.{in_order}
use Rattle.command_desk.specs.declared.steps.Ask as asked_of
use Rattle.command_desk.specs.declared.steps.Ask.TheVariants as asks
use Rattle.folder_commands.specs.Editing.{edited_change, edited_texts}
use Rattle.session_state.specs.declared.state.SessionState.{SessionState}
use Rattle.session_state.specs.Saving.{commit_of}
use Rattle.session_asks.specs.Asks.{asked}

-- the act prints nothing
abbrev pub IsSilent : Act → Type 0
IsSilent (Say bytes) = ⊥
IsSilent act = Unit {0}

-- the act is such a commit, and is answered as done
abbrev pub IsMade : (Commit → Type 0) → (act : Act) → Answer act → Type 0
IsMade Is (Changes c) (Made committed.Done) = Is c
IsMade Is (Changes c) refused = ⊥
IsMade Is act answer = ⊥

-- the play prints nothing before such a commit was answered as done
abbrev pub SaysOnlyAfter : {R : Type 0} → (Commit → Type 0) → Play R → Type 0
SaysOnlyAfter Is (Ret r) = Unit {0}
SaysOnlyAfter Is (Ask act go) = IsSilent act × ((answer : Answer act) → IsMade Is act answer ⊎ SaysOnlyAfter Is (go answer))

-- asks that begin with a commit
abbrev pub CommitsFirst : Type 0
CommitsFirst = (s : SessionState) (changes : List Change) (rest : List asked_of.Ask)
    → SaysOnlyAfter (λ c. c ≡ commit_of s changes) (in_order asked s (asks.Commit changes ∷ rest))

-- another file is opened, once the changes were committed that leave the folder
abbrev pub OpensAfter : Type 0
OpensAfter = (s : SessionState) (name : List ℕ) (changes : List Change) (reply : List ℕ)
    → SaysOnlyAfter (λ c. c ≡ commit_of s changes) (asked s (asks.Open name changes reply))

-- the commit gives message n of the open folder another text
abbrev pub IsEditOf : SessionState → ℕ → Commit → Type 0
IsEditOf s n c = (text : List ℕ) × (c ≡ commit_of s (edited_change s.desk.folder.name (edited_texts s.desk.folder.folder n text) ∷ []))

-- a message is edited
abbrev pub EditsAfter : Type 0
EditsAfter = (s : SessionState) (n : ℕ) (command : List ℕ) → SaysOnlyAfter (IsEditOf s n) (asked s (asks.Edit n command))
