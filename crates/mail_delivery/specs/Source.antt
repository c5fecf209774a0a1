-- What a delivery is made of, by its own events.
use Rattle.std.specs.Prelude.{◌&&◌, ◌||◌, not, ℕ, ℤ, Bool, false, List, [], ◌∷◌, ◌++◌, codes}
use Rattle.host_port.specs.declared.event.Event.{Event}
use Rattle.host_port.specs.declared.event.Event.TheVariants as event
use Rattle.mail_dates.specs.declared.moment.Moment.{Moment}
use Rattle.commit_machine.specs.Settled.{Mem}
use Rattle.mailx_vars.specs.Environment.{variable}
use Rattle.session_play.specs.Input.{is_empty}
use Rattle.session_play.specs.Moments.{IsMomentAt}
use Rattle.mail_delivery.specs.declared.environment.Environment.{Environment}

-- all bytes of input that were taken, in order
abbrev pub input_in : List Event → List ℕ
input_in [] = []
input_in (event.In bytes failed ∷ es) = bytes ++ input_in es
input_in (e ∷ es) = input_in es

-- the input was taken to its end: some taking found no more
abbrev pub saw_end : List Event → Bool
saw_end [] = false
saw_end (event.In bytes failed ∷ es) = (is_empty bytes && not failed) || saw_end es
saw_end (e ∷ es) = saw_end es

-- the moment that the clock told at some time, in the zone of the variable TZ
pub record IsToldIn (env : Environment) (es : List Event) (m : Moment) : Type 0 where
  pub seconds : ℤ
  pub told : Mem (event.Now seconds) es
  pub moment : IsMomentAt (variable env.pairs (codes "TZ")) seconds m
