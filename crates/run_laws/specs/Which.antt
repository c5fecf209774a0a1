-- A run that begins where a record stands says which change it recovered.
use Rattle.std.proofs.Common.{inl, inr}
use Rattle.std.specs.Prelude.{◌≡◌, List, []}
use Rattle.std.specs.declared.option.Option.{Option}
use Rattle.std.specs.declared.option.Option.TheVariants.{Some}
use Rattle.std.specs.declared.result.Result.{Result}
use Rattle.std.specs.declared.result.Result.TheVariants.{Ok, Err}
use Rattle.host_port.specs.declared.event.Event.{Event}
use Rattle.host_port.specs.Disk.{Disk}
use Rattle.host_port.specs.Ran.{Honest}
use Rattle.commit_record.specs.declared.record.Record.{Record}
use Rattle.commit_machine.specs.Lawful.{OthersAreLawful, standing}
use Rattle.commit_machine.specs.Machine.{found_of}
use Rattle.folder_recovery.specs.Recovering.{found}
use Rattle.session_play.specs.declared.recovering.RecoveryAnswer.{RecoveryAnswer}
use Rattle.session_play.specs.declared.recovering.RecoveryAnswer.TheVariants as recovery
use Rattle.session_play.specs.declared.stop.Stop.{Stop}
use Rattle.session_play.specs.Play.{Act, Answer, Recover, Play, Ret, Ask, Next, Go, Last}
use Rattle.play_safety.specs.Passes.{Commits, Passes, PassesAll, again, last, cut}
use Rattle.session_state.specs.declared.status.Status.{Status}
use Rattle.mailx_top.specs.declared.environment.Environment.{Environment}
use Rattle.mailx_top.specs.Words.{Start}
use Rattle.mailx_top.specs.Meaning.{actor_in}
use Rattle.mailx_top.specs.Crash.{IsSafe}

-- An answer to a recovery speaks of the change of this record: it was finished, if it was decided, and else rolled back, with the moment that the
-- record has; or another had the right, or a file was too large.
abbrev pub IsAbout : Record → RecoveryAnswer → Type 0
IsAbout r (recovery.Done f) = found f ≡ found_of r
IsAbout r recovery.NotARecord = ⊥
IsAbout r answer = Unit {0}

abbrev pub OfRecovery : Record → (act : Act) → Answer act → Type 0
OfRecovery r (Recover actor token) answer = IsAbout r answer
OfRecovery r act answer = Unit {0}

-- so does the answer to the first act of a play, if that is a recovery and was answered
abbrev pub FirstIsAbout : Record → {R : Type 0} (p : Play R) (d : Disk) (es : List Event) (commits : Commits) (out : Result R Stop) → Passes p d es commits out → Type 0
FirstIsAbout r (Ret x) d es commits out passes = Unit {0}
FirstIsAbout r (Ask act go) d es commits out (inl (answer, front, rest, later, is, did, commits_is, goes)) = OfRecovery r act answer
FirstIsAbout r (Ask act go) d es commits out (inr stopped) = Unit {0}

-- and to the first act of the first round
abbrev pub RunIsAbout : Record → {X R : Type 0} {round : X → Play (Next X R)} {x : X} {d : Disk} {es : List Event} {commits : Commits} {out : Result R Stop}
    → PassesAll round x d es commits out → Type 0
RunIsAbout r {round = round} (again {x = x} {y = y} {d = d} front rest first later is commits_is goes more) =
    FirstIsAbout r (round x) d front (record { accepted = first; pending = [] }) (Ok (Go y)) goes
RunIsAbout r {round = round} (last {x = x} {d = d} {es = es} {commits = commits} {r = q} goes) = FirstIsAbout r (round x) d es commits (Ok (Last q)) goes
RunIsAbout r {round = round} (cut {x = x} {d = d} {es = es} {commits = commits} {cause = cause} goes) = FirstIsAbout r (round x) d es commits (Err cause) goes

-- Where a record stands, left by a run that was stopped, a run that opens a folder recovers its change before all else; what it is answered, and so
-- the line that it prints of it, is of that change.
abbrev pub SaysWhich : Type 0
SaysWhich = (start : Option Start) (env : Environment) (status : Status) (d : Disk) (es : List Event) (safe : IsSafe start env status d es) (r : Record)
    → Honest d es → OthersAreLawful (actor_in env) env.token d es → standing (actor_in env) d ≡ Some r → RunIsAbout r safe.plays
