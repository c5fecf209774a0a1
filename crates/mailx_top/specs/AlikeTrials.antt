-- A trial is a function of its number of messages.
use Rattle.std.specs.Prelude.{◌≡◌, ℕ, List}
use Rattle.host_port.specs.declared.event.Event.{Event}
use Rattle.trial_host.specs.Trials.{trial_start}
use Rattle.play_likeness.specs.Plays.{AreAlike}
use Rattle.session_state.specs.declared.status.Status.{Status}
use Rattle.session_state.specs.declared.status.Status.TheVariants as status
use Rattle.mailx_top.specs.Trying.{IsTrial, Tries}

-- neither want of memory nor a failed call on the disk cut a trial off
abbrev pub IsUncut : Status → Type 0
IsUncut s = (s ≡ status.Memory → ⊥) × (s ≡ status.DiskFault → ⊥)

-- Two trials on n messages that weren't cut off have one status, print the same, and leave the same disk.
abbrev pub TrialsAreAlike : Type 0
TrialsAreAlike = (n : ℕ) (s t : Status) (es fs : List Event) → IsTrial n s es → IsTrial n t fs → IsUncut s → IsUncut t → (s ≡ t) × AreAlike (trial_start n) es fs

-- Two runs that try on n messages and are done have the same own events: they print the same summary.
abbrev pub TriesAreAlike : Type 0
TriesAreAlike = (n : ℕ) (es fs : List Event) → Tries n status.Done es → Tries n status.Done fs → es ≡ fs
