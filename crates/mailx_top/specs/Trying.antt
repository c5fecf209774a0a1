-- A run that tries itself: it carries out lines that are always the same on a mailbox of so many messages, over a host in memory, and prints what is left.
use Rattle.std.specs.Prelude.{◌≡◌, ◌-◌, ℕ, true, false, List, [], ◌∷◌, ◌++◌, if◌then◌else◌, length, take, unwrap_or, codes}
use Rattle.std.specs.Option.{option_and_then}
use Rattle.std.specs.declared.option.Option.{Option}
use Rattle.std.specs.declared.option.Option.TheVariants.{Some, None}
use Rattle.std.specs.declared.result.Result.TheVariants.{Ok}
use Rattle.host_port.specs.declared.event.Event.{Event}
use Rattle.host_port.specs.declared.event.Event.TheVariants as event
use Rattle.host_port.specs.Disk.{Disk, disk}
use Rattle.host_port.specs.Ran.{Honest}
use Rattle.host_memory.specs.declared.memory.MemHost.{MemHost}
use Rattle.host_memory.specs.MemHosts.{host_start, host_told}
use Rattle.trial_host.specs.Texts.{numbered}
use Rattle.trial_host.specs.Trials.{GoesPlainly, trial_start}
use Rattle.mbox_scan.specs.Mailbox.{list_of}
use Rattle.command_words.specs.declared.mode.Mode.{Mode}
use Rattle.command_words.specs.declared.mode.Mode.TheVariants as mode
use Rattle.command_words.specs.declared.reading.Wanted.{Wanted}
use Rattle.mailx_vars.specs.Environment.{Pairs, knows_user}
use Rattle.session_play.specs.declared.stop.Stop.TheVariants as stop
use Rattle.session_state.specs.declared.status.Status.{Status}
use Rattle.session_state.specs.declared.status.Status.TheVariants as status
use Rattle.play_safety.specs.Passes.{no_commits}
use Rattle.play_safety.specs.Safe.{IsCrashSafe}
use Rattle.mailx_top.specs.declared.environment.Environment.{Environment}
use Rattle.mailx_top.specs.Crash.{IsSafe}
use Rattle.mailx_top.specs.Meaning.{actor_in}
use Rattle.mailx_top.specs.Runs.{AsFar, SaysAtCut, IsRun}
use Rattle.mailx_top.specs.Statuses.{line_at_stop}
use Rattle.mailx_top.specs.Words.{Start, asked}

-- on how many messages a mode tries
abbrev pub tries_in : Mode → Option ℕ
tries_in (mode.Try count) = Some count
tries_in m = None

abbrev pub tries_by : Wanted → Option ℕ
tries_by wanted = tries_in wanted.mode

-- on how many messages a run tries itself; none if its words ask for something else, or home folder and user aren't known
abbrev pub tries_of : Option Wanted → Pairs → Option ℕ
tries_of wanted pairs = if knows_user pairs then option_and_then tries_by wanted else None

-- the words of a trial
abbrev pub trial_words : List (List ℕ)
trial_words = codes "-N" ∷ codes "-f" ∷ codes "box" ∷ []

-- and its environment
abbrev pub trial_env : Environment
trial_env = record { pairs = (codes "HOME", codes "/h") ∷ (codes "LOGNAME", codes "u") ∷ []; folder = []; terminal = false; token = 1 }

-- The events of a trial on n messages with its status: those of a run of its words on the disk that has this mailbox. Each says what is so, and they go
-- as those of a host do on which nothing fails, and which has the lines.
pub record IsTrial (n : ℕ) (s : Status) (es : List Event) : Type 0 where
  pub run : IsRun (asked trial_words) trial_env s es
  pub honest : Honest (trial_start n) es
  pub left : List ℕ
  pub goes : GoesPlainly es left

-- a host in memory after a trial
pub record HasTried (n : ℕ) (s : Status) (m : MemHost) : Type 0 where
  pub start : host_start m ≡ trial_start n
  pub told : (es : List Event) → host_told m ≡ Some es → IsTrial n s es

-- so ends a trial that is given with its host: it is done, or memory ran out
abbrev pub IsTrialEnd : Status → Type 0
IsTrialEnd status.Done = Unit {0}
IsTrialEnd status.Memory = Unit {0}
IsTrialEnd s = ⊥

-- how many messages a file has: none, if it is absent or no mailbox
abbrev pub messages_in : Option (List ℕ) → ℕ
messages_in None = 0
messages_in (Some bytes) = length (unwrap_or (list_of bytes) [])

-- what is printed of the files that a trial on n messages leaves
abbrev pub summary_of : ℕ → Option (List ℕ) → Option (List ℕ) → List ℕ
summary_of n box saved =
    numbered (codes "messages ") n [] ++ numbered (codes "deleted ") (n - messages_in box) [] ++ numbered (codes "saved ") (messages_in saved) []
    ++ numbered (codes "kept ") (messages_in box) [] ++ numbered (codes "bytes ") (length (unwrap_or box [])) []

abbrev pub summary : ℕ → Disk → List ℕ
summary n d = summary_of n (d.files (codes "box")) (d.files (codes "saved"))

-- the summary of the disk that a trial leaves which is done
pub record IsSummary (n : ℕ) (text : List ℕ) : Type 0 where
  pub trial : List Event
  pub done : IsTrial n status.Done trial
  pub is : text ≡ summary n (disk (trial_start n) trial)

-- The own events of a run that tries itself on n messages, with its status: the summary is printed. If that output fails, the line of it follows; and
-- if memory runs out, no summary is printed.
abbrev pub Tries : ℕ → Status → List Event → Type 0
Tries n status.Done es = (text : List ℕ) × IsSummary n text × (es ≡ event.Out text false ∷ [])
Tries n status.OutputFault es =
    (text : List ℕ) × IsSummary n text × (k : ℕ) × (rest : List Event) × (es ≡ event.Out (take k text) true ∷ rest) × AsFar (line_at_stop stop.Output) rest
Tries n status.Memory es = SaysAtCut true stop.Memory es
Tries n s es = ⊥

-- so it ends
abbrev pub IsTriesEnd : Status → Type 0
IsTriesEnd status.Done = Unit {0}
IsTriesEnd status.OutputFault = Unit {0}
IsTriesEnd status.Memory = Unit {0}
IsTriesEnd s = ⊥

-- the own events of a run whose words ask for a trial, or else for this start or for nothing
abbrev pub Does : Option ℕ → Option Start → Environment → Status → List Event → Type 0
Does (Some n) start env s es = Tries n s es
Does None start env s es = IsRun start env s es

-- a run is safe; one that tries itself commits nothing
abbrev pub DoesSafely : Option ℕ → Option Start → Environment → Status → Disk → List Event → Type 0
DoesSafely (Some n) start env s d es = IsCrashSafe (actor_in env) env.token d es no_commits (Ok s)
DoesSafely None start env s d es = IsSafe start env s d es

-- the words ask for no trial and no start, or home folder and user aren't known
abbrev pub IsRefused : Option ℕ → Option Start → Type 0
IsRefused tries start = (tries ≡ None) × (start ≡ None)
