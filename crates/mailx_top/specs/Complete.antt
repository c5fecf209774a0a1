-- Runs that nothing stands in the way of.
use Rattle.std.specs.Prelude.{◌≡◌, ◌<◌, Bool, false, List}
use Rattle.std.specs.declared.option.Option.{Option}
use Rattle.std.specs.declared.result.Result.{Result}
use Rattle.host_port.specs.declared.event.Event.{Event}
use Rattle.host_port.specs.Calls.{Counts, Rose}
use Rattle.folder_recovery.specs.Told.{told_end}
use Rattle.session_play.specs.declared.stop.Stop.{Stop}
use Rattle.session_play.specs.Causes.{bytes_in, events_at, some_load_saw}
use Rattle.session_play.specs.Input.{input_limit}
use Rattle.session_play.specs.Play.{Next, Play, Loop}
use Rattle.session_state.specs.Saving.{is_refused}
use Rattle.session_state.specs.declared.outcome.SendOutcome.TheVariants as outcome
use Rattle.session_state.specs.declared.status.Status.{Status}
use Rattle.session_state.specs.declared.status.Status.TheVariants as status
use Rattle.mailx_top.specs.declared.environment.Environment.{Environment}
use Rattle.mailx_top.specs.Leavings.{last_outcome}
use Rattle.mailx_top.specs.Meaning.{actor_in, is_opening, is_recovering}
use Rattle.mailx_top.specs.Met.{some_act_in}
use Rattle.mailx_top.specs.Openings.{saw_held}
use Rattle.mailx_top.specs.Runs.{IsRun}
use Rattle.mailx_top.specs.Starts.{is_right_busy}
use Rattle.mailx_top.specs.Unreadable.{some_unreadable_in}
use Rattle.mailx_top.specs.Words.{Start}

-- no count of faults of input, output or disk rose
pub record IsStill (old new : Counts) : Type 0 where
  pub ins : Rose old.ins new.ins → ⊥
  pub outs : Rose old.outs new.outs → ⊥
  pub disks : Rose old.disks new.disks → ⊥

-- the changes of some act of a loop were refused
abbrev pub some_refused_in : {X R : Type 0} {round : X → Play (Next X R)} {x : X} {es : List Event} {out : Result R Stop} → Loop round x es out → Bool
some_refused_in loop = some_act_in (λ act answer es. is_refused act answer) loop

-- Nothing stood in the way of a run: its recovery met nobody else's right and the load of its folder nobody's lock; each record that it met could
-- be read; no changes were refused, for the name of a file, for another's right or lock, for a folder that had changed, or for a limit; the word
-- for the record of a draft stood for a file; and its input kept the limit.
pub record IsUnhindered (start : Option Start) (env : Environment) (s : Status) (es : List Event) (run : IsRun start env s es) : Type 0 where
  pub right : is_right_busy (told_end (actor_in env) (events_at is_recovering run.whole.plays)) ≡ false
  pub lock : some_load_saw saw_held (events_at is_opening run.whole.plays) ≡ false
  pub record_reads : some_unreadable_in run.whole.plays ≡ false
  pub changes : some_refused_in run.whole.plays ≡ false
  pub recorded : last_outcome run.whole.plays ≡ outcome.Unrecorded → ⊥
  pub input : input_limit < bytes_in run.whole.front → ⊥

-- a run that does what its words and lines mean ends so, or memory ran out
abbrev pub IsAnswered : Status → Type 0
IsAnswered status.Done = Unit {0}
IsAnswered status.NoMail = Unit {0}
IsAnswered (status.NotSent n) = Unit {0}
IsAnswered status.NoFolder = Unit {0}
IsAnswered status.Memory = Unit {0}
IsAnswered s = ⊥

-- whatever run of the command meaning these events are, if nothing stood in its way it is answered
abbrev pub IsComplete : Option Start → Environment → Status → List Event → Type 0
IsComplete start env s es = (run : IsRun start env s es) → IsUnhindered start env s es run → IsAnswered s
