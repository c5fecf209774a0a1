-- Runs in a row: each begins on the disk that the one before left where it ended or was stopped.
use Rattle.std.specs.Prelude.{◌≡◌, ℕ, List, [], ◌++◌}
use Rattle.std.specs.declared.option.Option.{Option}
use Rattle.host_port.specs.declared.event.Event.{Event}
use Rattle.host_port.specs.declared.event.ForeignStep.{ForeignStep}
use Rattle.host_port.specs.Disk.{Disk, after_step}
use Rattle.commit_machine.specs.Due.{settled_files}
use Rattle.commit_machine.specs.Lawful.{IsFresh, OthersAreLawful}
use Rattle.folder_commit.specs.Safe.{MayCommit}
use Rattle.session_play.specs.Committing.{Commit}
use Rattle.play_safety.specs.Appended.{IsLeft}
use Rattle.session_state.specs.declared.status.Status.{Status}
use Rattle.mailx_top.specs.declared.environment.Environment.{Environment}
use Rattle.mailx_top.specs.Words.{Start}
use Rattle.mailx_top.specs.Meaning.{actor_in}
use Rattle.mailx_top.specs.Crash.{IsSafe}
use Rattle.run_laws.specs.Changing.{made_by, OthersLeave, decided_in}

-- a run of this actor from a disk, to what it left where it ended or was stopped, and the events up to there
pub record Leg (actor : List ℕ) (d now : Disk) : Type 0 where
  pub start : Option Start
  pub env : Environment
  pub status : Status
  pub es : List Event
  pub safe : IsSafe start env status d es
  pub same : actor_in env ≡ actor
  pub seen : List Event
  pub left : IsLeft d es seen now

-- its commits that were decided up to there
abbrev pub decided_by : {actor : List ℕ} {d now : Disk} → Leg actor d now → List Commit
decided_by {actor = actor} {d = d} leg = decided_in actor leg.env.token d leg.safe.commits leg.seen

-- runs in a row, with steps of others between them
pub data Row (actor : List ℕ) : Disk → Disk → Type 0 where
  none : {d : Disk} → Row actor d d
  run : {d mid now : Disk} → Leg actor d mid → Row actor mid now → Row actor d now
  others : {d now : Disk} (step : ForeignStep) → Row actor (after_step d step) now → Row actor d now

-- all their commits that were decided, in order
abbrev pub all_decided : {actor : List ℕ} {d now : Disk} → Row actor d now → List Commit
all_decided none = []
all_decided (run leg row) = decided_by leg ++ all_decided row
all_decided (others step row) = all_decided row

-- no step of others in or between them changes what is settled of this file
abbrev pub AllLeave : {actor : List ℕ} {d now : Disk} → List ℕ → Row actor d now → Type 0
AllLeave n none = Unit {0}
AllLeave {actor = actor} {d = d} n (run leg row) = OthersLeave actor n d leg.seen × AllLeave n row
AllLeave {actor = actor} {d = d} n (others step row) = (settled_files actor (after_step d step) n ≡ settled_files actor d n) × AllLeave n row

-- After any number of runs, each stopped anywhere or ended, a file that others leave alone is what all their decided commits, one after another, make
-- of it as it was at first.
abbrev pub RowsAddUp : Type 0
RowsAddUp = (actor : List ℕ) (d now : Disk) (row : Row actor d now) (n : List ℕ) → AllLeave n row
    → settled_files actor now n ≡ made_by (all_decided row) (settled_files actor d) n

-- Where a run was stopped another may begin: all that its crash promise asks of it is a token that nothing there carries, and others that are lawful.
abbrev pub AnotherMayBegin : Type 0
AnotherMayBegin = (actor : List ℕ) (d now : Disk) (leg : Leg actor d now) (token : ℕ) (es : List Event)
    → IsFresh actor token now → OthersAreLawful actor token now es → MayCommit actor token now es

-- of a run that came to its end these are just the accepted commits
abbrev pub EndedIsAccepted : Type 0
EndedIsAccepted = (actor : List ℕ) (d now : Disk) (leg : Leg actor d now) → leg.seen ≡ leg.es → decided_by leg ≡ leg.safe.commits.accepted
