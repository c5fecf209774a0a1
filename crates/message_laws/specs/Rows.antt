-- What becomes of each message through runs in a row.
use Rattle.std.specs.Prelude.{◌≡◌, ◌⊎◌, ℕ, List, [], ◌++◌}
use Rattle.host_port.specs.declared.event.Event.{Event}
use Rattle.host_port.specs.Disk.{Disk, disk}
use Rattle.folder_change.specs.Apply.{Files}
use Rattle.commit_machine.specs.Due.{settled_files}
use Rattle.session_play.specs.Committing.{Commit}
use Rattle.run_laws.specs.Rows.{Leg, Row, none, run, others}
use Rattle.message_laws.specs.Messages.{Stands, SomeDecided, IsKept, LeavesIt, OthersLeaveIt}

-- each step of others in or between these runs leaves the message in each file in which it stands
abbrev pub AllLeaveIt : {actor : List ℕ} {d now : Disk} → List ℕ → Row actor d now → Type 0
AllLeaveIt text none = Unit {0}
AllLeaveIt {actor = actor} {d = d} text (run leg row) = OthersLeaveIt actor text d leg.seen × AllLeaveIt text row
AllLeaveIt {actor = actor} {d = d} text (others step row) = LeavesIt actor text d step × AllLeaveIt text row

-- this holds of a commit that was decided in one of these runs, and of the files as they were settled just before
abbrev pub DecidedInRow : {actor : List ℕ} {d now : Disk} → Row actor d now → (Files → Commit → Type 0) → Type 0
DecidedInRow none P = ⊥
DecidedInRow {actor = actor} {d = d} (run leg row) P = SomeDecided actor leg.env.token d leg.safe.commits [] leg.seen P ⊎ DecidedInRow row P
DecidedInRow (others step row) P = DecidedInRow row P

-- of one in a run, behind these of its events, or in one of the runs that follow
abbrev pub DecidedSince : {actor : List ℕ} {d mid now : Disk} → Leg actor d mid → List Event → Row actor mid now → (Files → Commit → Type 0) → Type 0
DecidedSince {actor = actor} {d = d} leg from row P = SomeDecided actor leg.env.token d leg.safe.commits from leg.seen P ⊎ DecidedInRow row P

-- A message that stands in a mailbox at some moment of a run is kept so through that run and any number of runs that follow, each stopped anywhere or ended.
-- Others leave it.
abbrev pub RowsKeepMessages : Type 0
RowsKeepMessages = (actor : List ℕ) (d mid now : Disk) (leg : Leg actor d mid) (row : Row actor mid now) (front rest behind : List Event) (home text : List ℕ)
    → leg.es ≡ front ++ rest → Stands (settled_files actor (disk d front)) home text
    → leg.seen ≡ front ++ behind → OthersLeaveIt actor text (disk d front) behind → AllLeaveIt text row
    → IsKept actor (λ P. DecidedSince leg front row P) now home text
