-- A run is a function of its disk, its input, and what children, editors and the clock answer.
use Rattle.std.specs.Prelude.{◌≡◌, false, List}
use Rattle.std.specs.declared.option.Option.{Option}
use Rattle.std.specs.declared.result.Result.TheVariants.{Ok}
use Rattle.host_port.specs.declared.event.Event.{Event}
use Rattle.host_port.specs.Disk.{Disk}
use Rattle.session_play.specs.Causes.{some_out_failed}
use Rattle.play_likeness.specs.Outside.{Outside}
use Rattle.play_likeness.specs.Plays.{IsGiven, AreAlike}
use Rattle.session_state.specs.declared.status.Status.{Status}
use Rattle.mailx_top.specs.declared.environment.Environment.{Environment}
use Rattle.mailx_top.specs.Words.{Start}
use Rattle.mailx_top.specs.Runs.{IsRun}

-- The own events of a run that came to its end, with this status: they say what is so from this disk on, without steps of others, each load
-- tells what stands, no output failed, and the outside gives what they take. How much of its text is taken ahead, and in which pieces, is free.
pub record IsRunFrom (start : Option Start) (env : Environment) (d : Disk) (o : Outside) (s : Status) (es : List Event) : Type 0 where
  pub run : IsRun start env s es
  pub ended : run.whole.out ≡ Ok s
  pub printed : some_out_failed es ≡ false
  pub left : Outside
  pub given : IsGiven d o left es

-- From one disk, with the same input and the same answers, a run has one status, prints the same bytes, and leaves the same disk.
abbrev pub RunsAreAlike : Type 0
RunsAreAlike = (start : Option Start) (env : Environment) (d : Disk) (o : Outside) (s t : Status) (es fs : List Event)
    → IsRunFrom start env d o s es → IsRunFrom start env d o t fs → (s ≡ t) × AreAlike d es fs
