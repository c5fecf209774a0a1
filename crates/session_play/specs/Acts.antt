-- Tests on acts, and the plays all of whose acts pass one.
use Rattle.std.specs.Prelude.{◌≡◌, Bool, true, false}
use Rattle.session_play.specs.Input.{Input}
use Rattle.session_play.specs.Play.{Act, Answer, Line, Read, Try, Changes, Recover, Play, Ret, Ask}

-- the act changes no file, lock or right
abbrev pub is_neutral : Act → Bool
is_neutral (Changes c) = false
is_neutral (Recover actor token) = false
is_neutral act = true

-- the act loads nothing
abbrev pub loads_nothing : Act → Bool
loads_nothing (Read name) = false
loads_nothing (Try name) = false
loads_nothing (Changes c) = false
loads_nothing (Recover actor token) = false
loads_nothing act = true

-- If a failed load cuts the run off, none is only tried, and nothing is committed or recovered; elsewhere each load is only tried.
abbrev pub may_load : Bool → Act → Bool
may_load true (Try name) = false
may_load true (Changes c) = false
may_load true (Recover actor token) = false
may_load false (Read name) = false
may_load cuts act = true

-- each act of a play passes a test
abbrev pub AllActs : {R : Type 0} → (Act → Bool) → Play R → Type 0
AllActs test (Ret r) = Unit {0}
AllActs test (Ask act go) = (test act ≡ true) × ((answer : Answer act) → AllActs test (go answer))

-- each end of a play is such
abbrev pub AllEnds : {R : Type 0} → (R → Type 0) → Play R → Type 0
AllEnds P (Ret r) = P r
AllEnds P (Ask act go) = (answer : Answer act) → AllEnds P (go answer)

-- an act that takes a line takes it from this input
abbrev pub TakesFrom : Act → Input → Type 0
TakesFrom (Line k) i = k ≡ i
TakesFrom act i = Unit {0}

-- the input that an act leaves
abbrev pub input_after : (act : Act) → Answer act → Input → Input
input_after (Line k) answer i = answer.1
input_after act answer i = i

-- from the input i on, a play takes each line from the input that the line before left, and ends with what is left
abbrev pub Threads : {R : Type 0} → (R → Input → Type 0) → Input → Play R → Type 0
Threads Ends i (Ret r) = Ends r i
Threads Ends i (Ask act go) = TakesFrom act i × ((answer : Answer act) → Threads Ends (input_after act answer i) (go answer))
