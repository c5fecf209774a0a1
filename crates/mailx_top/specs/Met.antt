-- Whether some act of a run came to such an answer, or had such events.
use Rattle.std.proofs.Common.{inl, inr}
use Rattle.std.specs.Prelude.{◌||◌, Bool, false, List}
use Rattle.std.specs.declared.result.Result.{Result}
use Rattle.std.specs.declared.result.Result.TheVariants.{Ok, Err}
use Rattle.host_port.specs.declared.event.Event.{Event}
use Rattle.session_play.specs.declared.stop.Stop.{Stop}
use Rattle.session_play.specs.Play.{Act, Answer, Play, Ret, Ask, Goes, Next, Go, Last, Loop, again, last, cut}

-- some act of a play, with its answer and its own events, passes a test
abbrev pub some_act : ((act : Act) → Answer act → List Event → Bool) → {R : Type 0} (p : Play R) (es : List Event) (out : Result R Stop) → Goes p es out → Bool
some_act test (Ret r) es out g = false
some_act test (Ask act go) es out (inl (answer, front, rest, is, did, goes)) = test act answer front || some_act test (go answer) rest out goes
some_act test (Ask act go) es out (inr (cause, is, how)) = false

-- some act of a loop does
abbrev pub some_act_in : ((act : Act) → Answer act → List Event → Bool) → {X R : Type 0} {round : X → Play (Next X R)} {x : X} {es : List Event} {out : Result R Stop} → Loop round x es out → Bool
some_act_in test {round = round} (again {x = x} {y = y} front rest is goes more) = some_act test (round x) front (Ok (Go y)) goes || some_act_in test more
some_act_in test {round = round} (last {x = x} {es = es} {r = r} goes) = some_act test (round x) es (Ok (Last r)) goes
some_act_in test {round = round} (cut {x = x} {es = es} {cause = cause} goes) = some_act test (round x) es (Err cause) goes
