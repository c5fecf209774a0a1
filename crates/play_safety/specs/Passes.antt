-- Whole traces that carry out a play, steps of others among them, and the commits that are accepted in them.
use Rattle.std.specs.Prelude.{◌≡◌, ◌⊎◌, ◌==◌, ℕ, List, [], ◌∷◌, ◌++◌, if◌then◌else◌}
use Rattle.std.specs.declared.result.Result.{Result}
use Rattle.std.specs.declared.result.Result.TheVariants.{Ok, Err}
use Rattle.host_port.specs.declared.event.Event.{Event}
use Rattle.host_port.specs.Disk.{Disk, disk}
use Rattle.host_port.specs.Own.{own}
use Rattle.commit_machine.specs.Jobs.{Job}
use Rattle.commit_machine.specs.Edits.{job_for}
use Rattle.commit_machine.specs.Laws.{decisions}
use Rattle.session_play.specs.declared.stop.Stop.{Stop}
use Rattle.session_play.specs.declared.stop.Stop.TheVariants as stop
use Rattle.session_play.specs.Committing.{Commit}
use Rattle.session_play.specs.Play.{Act, Answer, Changes, Play, Ret, Ask, Did, Partly, Next, Go, Last}

-- the job of a commit, without a time: its decisions don't depend on that
abbrev pub job_of : Commit → Job
job_of c = job_for c.actor c.token c.changes c.base

-- how many decisions of the commit stand in events from a disk
abbrev pub decided_in : Commit → Disk → List Event → ℕ
decided_in c d es = decisions (job_of c) d 0 es

-- the commit that an act makes, if it is decided in the act's events; a recovery makes none
abbrev pub accepted_by : Act → Disk → List Event → List Commit
accepted_by (Changes c) d es = if decided_in c d es == 0 then [] else c ∷ []
accepted_by act d es = []

-- the commit that was under way when an act was cut off, and wasn't decided
abbrev pub pending_by : Act → Disk → List Event → List Commit
pending_by (Changes c) d es = if decided_in c d es == 0 then c ∷ [] else []
pending_by act d es = []

-- what was accepted, in order, and what was under way and not decided when the play was cut off
pub record Commits : Type 0 where
  pub accepted : List Commit
  pub pending : List Commit

abbrev pub no_commits : Commits
no_commits = record { accepted = []; pending = [] }

-- more that was accepted before
abbrev pub behind : List Commit → Commits → Commits
behind first later = record later { accepted = first ++ later.accepted }

-- what a cut leaves
abbrev pub at_cut : Act → Disk → List Event → Commits
at_cut act d es = record { accepted = accepted_by act d es; pending = pending_by act d es }

-- The events from this disk on fall into stretches, one for each act, whose own events carry the act out. What is accepted is read off the
-- stretches of the commits.
abbrev pub Passes : {R : Type 0} → Play R → Disk → List Event → Commits → Result R Stop → Type 0
Passes (Ret r) d es commits out = (own es ≡ []) × (commits ≡ no_commits) × ((out ≡ Ok r) ⊎ (out ≡ Err stop.Memory))
Passes (Ask act go) d es commits out =
    ((answer : Answer act) × (front : List Event) × (rest : List Event) × (later : Commits) × (es ≡ front ++ rest)
    × Did act answer (own front) × (commits ≡ behind (accepted_by act d front) later) × Passes (go answer) (disk d front) rest later out)
    ⊎ ((cause : Stop) × (out ≡ Err cause) × (commits ≡ at_cut act d es) × (((cause ≡ stop.Memory) × (own es ≡ [])) ⊎ Partly act cause (own es)))

-- rounds from a state and a disk on, to the end or to a cut
pub data PassesAll {X R : Type 0} (round : X → Play (Next X R)) : X → Disk → List Event → Commits → Result R Stop → Type 0 where
  again : {x y : X} {d : Disk} {es : List Event} {commits : Commits} {out : Result R Stop} (front rest : List Event) (first : List Commit) (later : Commits)
      → es ≡ front ++ rest → commits ≡ behind first later → Passes (round x) d front (record { accepted = first; pending = [] }) (Ok (Go y))
      → PassesAll round y (disk d front) rest later out → PassesAll round x d es commits out
  last : {x : X} {d : Disk} {es : List Event} {commits : Commits} {r : R} → Passes (round x) d es commits (Ok (Last r)) → PassesAll round x d es commits (Ok r)
  cut : {x : X} {d : Disk} {es : List Event} {commits : Commits} {cause : Stop} → Passes (round x) d es commits (Err cause) → PassesAll round x d es commits (Err cause)
