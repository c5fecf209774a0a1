-- Why a run was cut off, read off its own events.
use Rattle.std.proofs.Common.{inl, inr}
use Rattle.std.specs.Prelude.{◌≡◌, ◌↔◌, ◌+◌, ◌<◌, ℕ, Bool, true, false, List, [], ◌∷◌, ◌++◌, ◌||◌, length}
use Rattle.std.specs.declared.result.Result.{Result}
use Rattle.std.specs.declared.result.Result.TheVariants.{Ok, Err}
use Rattle.host_port.specs.declared.event.Event.{Event}
use Rattle.host_port.specs.declared.event.Event.TheVariants as event
use Rattle.host_port.specs.declared.event.Seen.{Seen}
use Rattle.host_port.specs.declared.event.Seen.TheVariants as seen
use Rattle.session_play.specs.declared.stop.Stop.{Stop}
use Rattle.session_play.specs.declared.stop.Stop.TheVariants as stop
use Rattle.session_play.specs.Input.{Input, input_limit}
use Rattle.commit_machine.specs.Restraints as calls
use Rattle.std.specs.List.{list_any}
use Rattle.session_play.specs.Play.{Act, Changes, Recover, Play, Ret, Ask, Goes, Next, Go, Last, Loop, again, last, cut}

-- some taking of input failed
abbrev pub some_in_failed : List Event → Bool
some_in_failed [] = false
some_in_failed (event.In bytes failed ∷ es) = failed || some_in_failed es
some_in_failed (e ∷ es) = some_in_failed es

-- some output failed
abbrev pub some_out_failed : List Event → Bool
some_out_failed [] = false
some_out_failed (event.Out bytes failed ∷ es) = failed || some_out_failed es
some_out_failed (e ∷ es) = some_out_failed es

-- some load saw such a thing
abbrev pub some_load_saw : (Seen → Bool) → List Event → Bool
some_load_saw test [] = false
some_load_saw test (event.Load name s ∷ es) = test s || some_load_saw test es
some_load_saw test (e ∷ es) = some_load_saw test es

-- a load failed
abbrev pub is_failed : Seen → Bool
is_failed seen.Failed = true
is_failed s = false

-- how many bytes of input were taken
abbrev pub bytes_in : List Event → ℕ
bytes_in [] = 0
bytes_in (event.In bytes failed ∷ es) = length bytes + bytes_in es
bytes_in (e ∷ es) = bytes_in es

-- the events, if they count
abbrev pub counted : Bool → List Event → List Event
counted true es = es
counted false es = []

-- the own events of those rounds of a loop that begin at such a state
abbrev pub events_at : {X R : Type 0} {round : X → Play (Next X R)} {x : X} {es : List Event} {out : Result R Stop}
    → (X → Bool) → Loop round x es out → List Event
events_at test (again {x = x} front rest is goes more) = counted (test x) front ++ events_at test more
events_at test (last {x = x} {es = es} goes) = counted (test x) es
events_at test (cut {x = x} {es = es} goes) = counted (test x) es

-- the events of an act that commits or recovers; of others none
abbrev pub of_commit : Act → List Event → List Event
of_commit (Changes c) es = es
of_commit (Recover actor token) es = es
of_commit act es = []

-- the own events of a play's commits and recoveries
abbrev pub commits_of : {R : Type 0} (p : Play R) (es : List Event) (out : Result R Stop) → Goes p es out → List Event
commits_of (Ret r) es out g = []
commits_of (Ask act go) es out (inl (answer, front, rest, is, did, goes)) = of_commit act front ++ commits_of (go answer) rest out goes
commits_of (Ask act go) es out (inr (cause, is, how)) = of_commit act es

-- the own events of the commits and recoveries of a loop
abbrev pub commits_in : {X R : Type 0} {round : X → Play (Next X R)} {x : X} {es : List Event} {out : Result R Stop} → Loop round x es out → List Event
commits_in {round = round} (again {x = x} {y = y} front rest is goes more) = commits_of (round x) front (Ok (Go y)) goes ++ commits_in more
commits_in {round = round} (last {x = x} {es = es} {r = r} goes) = commits_of (round x) es (Ok (Last r)) goes
commits_in {round = round} (cut {x = x} {es = es} {cause = cause} goes) = commits_of (round x) es (Err cause) goes

-- Each cut but the one when memory ran out comes exactly with its events: a fault of the disk with a failed load among `loads`, or with a
-- call that failed among the events of commits and recoveries.
pub record IsExplained {R : Type 0} (out : Result R Stop) (es loads commits : List Event) : Type 0 where
  pub input : (out ≡ Err stop.Input) ↔ (some_in_failed es ≡ true)
  pub output : (out ≡ Err stop.Output) ↔ (some_out_failed es ≡ true)
  pub disk : (out ≡ Err stop.Disk) ↔ ((some_load_saw is_failed loads || list_any calls.is_failed commits) ≡ true)
  pub too_much : (out ≡ Err stop.TooMuch) ↔ (input_limit < bytes_in es)

-- what a round leaves is where the next one begins
abbrev pub NextFrom : {X R : Type 0} → (X → Input) → Next X R → Input → Type 0
NextFrom input_of (Go y) i = i ≡ input_of y
NextFrom input_of (Last r) i = Unit {0}
