-- What the acts of a delivery are.
use Rattle.std.proofs.Common.{◌≡◌, ℕ, Bool, false, List, [], refl}
use Rattle.std.specs.declared.option.Option.{Option}
use Rattle.std.specs.declared.option.Option.TheVariants.{Some, None}
use Rattle.std.specs.declared.result.Result.{Result}
use Rattle.host_port.specs.declared.event.Event.{Event}
use Rattle.session_play.specs.declared.stop.Stop.{Stop}
use Rattle.session_play.specs.Acts.{AllActs, AllEnds, Threads, may_load}
use Rattle.session_play.specs.Causes.{NextFrom, events_at}
use Rattle.session_play.specs.Input.{Input}
use Rattle.session_play.specs.Play.{Play, Next, Loop, again, last, cut}
use Rattle.play_safety.specs.Safe.{IsBy, EachCommit, NextKeeps}
use Rattle.mail_delivery.specs.declared.environment.Environment.{Environment}
use Rattle.mail_delivery.specs.declared.words.Request.{Request}
use Rattle.mail_delivery.specs.Words.{actor}
use Rattle.mail_delivery.specs.Meaning.{Taken, after_line, round}

-- where the input of a round begins
abbrev pub input_of : Taken → Input
input_of t = t.input

-- no failed load cuts a delivery off
abbrev pub never : Taken → Bool
never t = false

-- any state will do
abbrev pub Any : Taken → Type 0
Any t = Unit {0}

module _ (request : Request) (env : Environment) where
  pub threads-round : (t : Taken) → Threads (NextFrom input_of) (input_of t) (round request env t)
  threads-round t = (refl, λ a. go a.0 a.1)
    where
      go : (line : Option (List ℕ)) (j : Input) → Threads (NextFrom input_of) j (after_line request env t.lines line j)
      go (Some line) j = refl
      go None j = (tt, λ m. (tt, λ answer. tt))

  pub loads-round : (t : Taken) → AllActs (may_load (never t)) (round request env t)
  loads-round t = (refl, λ a. go a.0 a.1)
    where
      go : (line : Option (List ℕ)) (j : Input) → AllActs (may_load false) (after_line request env t.lines line j)
      go (Some line) j = tt
      go None j = (refl, λ m. (refl, λ answer. tt))

  pub commits-round : (t : Taken) → Any t → EachCommit (IsBy actor env.token) (round request env t)
  commits-round t u = (tt, λ a. go a.0 a.1)
    where
      go : (line : Option (List ℕ)) (j : Input) → EachCommit (IsBy actor env.token) (after_line request env t.lines line j)
      go (Some line) j = tt
      go None j = (tt, λ m. (record { actor_is = refl; token_is = refl }, λ answer. tt))

  pub ends-round : (t : Taken) → Any t → AllEnds (NextKeeps Any) (round request env t)
  ends-round t u = λ a. go a.0 a.1
    where
      go : (line : Option (List ℕ)) (j : Input) → AllEnds (NextKeeps Any) (after_line request env t.lines line j)
      go (Some line) j = tt
      go None j = λ m. λ answer. tt

-- no round counts
pub none-counted : {X R : Type 0} {round : X → Play (Next X R)} {x : X} {es : List Event} {out : Result R Stop} (loop : Loop round x es out) → events_at (λ (x : X). false) loop ≡ []
none-counted (again front rest is goes more) = none-counted more
none-counted (last goes) = refl
none-counted (cut goes) = refl
