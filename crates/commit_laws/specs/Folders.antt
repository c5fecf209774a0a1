-- What the open folder of a run is.
use Rattle.std.specs.Prelude.{◌≡◌, true, List}
use Rattle.std.specs.declared.option.Option.{Option}
use Rattle.std.specs.declared.result.Result.{Result}
use Rattle.host_port.specs.declared.event.Event.{Event}
use Rattle.host_port.specs.Disk.{Disk}
use Rattle.mbox_scan.specs.Mailbox.{is_mailbox}
use Rattle.session_play.specs.declared.stop.Stop.{Stop}
use Rattle.session_play.specs.Play.{Next, Play}
use Rattle.play_safety.specs.Passes.{Commits, PassesAll, again, last, cut}
use Rattle.session_state.specs.declared.status.Status.{Status}
use Rattle.mailx_top.specs.declared.environment.Environment.{Environment}
use Rattle.mailx_top.specs.Words.{Start}
use Rattle.mailx_top.specs.Meaning.{RunState, Recovering, Preparing, Opening, Reading, Finishing, Leaving}
use Rattle.mailx_top.specs.Crash.{IsSafe}

-- the bytes of the folder are a mailbox, once there is a session
abbrev pub HasMailbox : RunState → Type 0
HasMailbox (Recovering start) = Unit {0}
HasMailbox (Preparing start s names) = is_mailbox s.desk.folder.folder ≡ true
HasMailbox (Opening start s) = is_mailbox s.desk.folder.folder ≡ true
HasMailbox (Reading s i) = is_mailbox s.desk.folder.folder ≡ true
HasMailbox (Finishing s i) = is_mailbox s.desk.folder.folder ≡ true
HasMailbox (Leaving s i) = is_mailbox s.desk.folder.folder ≡ true

-- each state to which a round leads is such
abbrev pub AllStates : {X R : Type 0} {round : X → Play (Next X R)} {x : X} {d : Disk} {es : List Event} {commits : Commits} {out : Result R Stop}
    → (X → Type 0) → PassesAll round x d es commits out → Type 0
AllStates P (again {y = y} front rest first later is commits_is goes more) = P y × AllStates P more
AllStates P (last goes) = Unit {0}
AllStates P (cut goes) = Unit {0}

-- Whatever files hold, the folder of each state of a run is a mailbox.
abbrev pub FoldersAreMailboxes : Type 0
FoldersAreMailboxes = (start : Option Start) (env : Environment) (status : Status) (d : Disk) (es : List Event) (safe : IsSafe start env status d es)
    → AllStates HasMailbox safe.plays
