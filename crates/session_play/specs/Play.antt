-- What a run does, act by act, and which events carry out which act.
use Rattle.std.specs.Prelude.{◌≡◌, ◌⊎◌, ◌+◌, ◌<◌, ◌≤◌, ℕ, ℤ, is_none, true, false, List, [], ◌∷◌, ◌++◌, length}
use Rattle.std.specs.declared.option.Option.{Option}
use Rattle.std.specs.declared.option.Option.TheVariants.{Some, None}
use Rattle.std.specs.declared.result.Result.{Result}
use Rattle.std.specs.declared.result.Result.TheVariants.{Ok, Err}
use Rattle.host_port.specs.declared.event.Event.{Event}
use Rattle.host_port.specs.declared.event.Event.TheVariants as event
use Rattle.host_port.specs.declared.event.Seen.{Seen}
use Rattle.host_port.specs.declared.event.Seen.TheVariants as seen
use Rattle.host_port.specs.declared.event.ChildAnswer.{ChildAnswer}
use Rattle.host_port.specs.declared.event.EditAnswer.{EditAnswer}
use Rattle.host_port.specs.Calls.{Counts, Rose}
use Rattle.mail_dates.specs.declared.moment.Moment.{Moment}
use Rattle.session_play.specs.Knowing.{Question, Fact, IsFact}
use Rattle.folder_recovery.specs.declared.error.RecoverError.TheVariants as recover
use Rattle.session_play.specs.Committing.{Commit, Attempted, FailsIn, RunsOutIn}
use Rattle.session_play.specs.Recovering.{recovery_as, IsRecoveryOf}
use Rattle.session_play.specs.declared.changing.Attempt.{Attempt}
use Rattle.session_play.specs.declared.recovering.RecoveryAnswer.{RecoveryAnswer}
use Rattle.session_play.specs.declared.act.Found.{Found}
use Rattle.session_play.specs.declared.act.Found.TheVariants as found
use Rattle.session_play.specs.declared.stop.Stop.{Stop}
use Rattle.session_play.specs.declared.stop.Stop.TheVariants as stop
use Rattle.session_play.specs.Input.{Input, input_limit, buffer_size, next_line, Reads}
use Rattle.session_play.specs.Moments.{IsMomentAt}

-- What a run asks: the next line of its input; to print bytes; to load a file (a failure cuts the run off); to try to load one (a failure is
-- an answer); to commit changes of files (a fault of the disk cuts the run off); to recover what a stopped commit of an actor has left (such a
-- fault does so too); to run a program with arguments and an input (a failure is an answer); to run an editor, by the name of its file, the
-- shell, the command and the text (a failure is an answer); the moment that it is, in the zone of a TZ text; and what it finds out without the
-- outside.
pub data Act : Type 0 where
  Line : Input → Act
  Say : List ℕ → Act
  Read : List ℕ → Act
  Try : List ℕ → Act
  Changes : Commit → Act
  Recover : List ℕ → ℕ → Act
  Child : List ℕ → List (List ℕ) → List ℕ → Act
  Editor : List ℕ → List ℕ → List ℕ → List ℕ → Act
  Now : List ℕ → Act
  Know : Question → Act

-- what it is answered: the line, or none at the end, with the input that is left; nothing; what the load found; the same, or none if the
-- load failed; what came of the changes; what the recovery answers; what the program answers, or none if it could not be run; the same of
-- the editor; the moment; what is so
abbrev pub Answer : Act → Type 0
Answer (Line i) = Option (List ℕ) × Input
Answer (Say bytes) = Unit {0}
Answer (Read name) = Found
Answer (Try name) = Option Found
Answer (Changes c) = Attempt
Answer (Recover actor token) = RecoveryAnswer
Answer (Child program args input) = Option ChildAnswer
Answer (Editor name shell command text) = Option EditAnswer
Answer (Now tz) = Moment
Answer (Know q) = Fact q

-- acts, each followed by what its answer calls for, to a result
pub data Play (R : Type 0) : Type 0 where
  Ret : R → Play R
  Ask : (act : Act) → (Answer act → Play R) → Play R

-- one play after the other
abbrev pub bind : {A B : Type 0} → Play A → (A → Play B) → Play B
bind (Ret a) k = k a
bind (Ask act go) k = Ask act (λ answer. bind (go answer) k)

-- Outs whose joined bytes are these
abbrev pub Says : List ℕ → List Event → Type 0
Says bytes [] = bytes ≡ []
Says bytes (event.Out front false ∷ es) = (rest : List ℕ) × (bytes ≡ front ++ rest) × Says rest es
Says bytes (e ∷ es) = ⊥

-- Outs of which the last failed; their joined bytes are a front of these
abbrev pub SaysInPart : List ℕ → List Event → Type 0
SaysInPart bytes [] = ⊥
SaysInPart bytes (event.Out front false ∷ es) = (rest : List ℕ) × (bytes ≡ front ++ rest) × SaysInPart rest es
SaysInPart bytes (event.Out front true ∷ es) = (rest : List ℕ) × (bytes ≡ front ++ rest) × (es ≡ [])
SaysInPart bytes (e ∷ es) = ⊥

-- what the event of a load says if it found something
abbrev pub seen_of : Found → Seen
seen_of (found.Bytes bytes held) = seen.Bytes bytes held
seen_of (found.TooLarge n) = seen.TooLarge n

-- what the event of a load says that found something, or failed
abbrev pub seen_at : Option Found → Seen
seen_at (Some f) = seen_of f
seen_at None = seen.Failed

-- the own events that carry out an act, with its answer
abbrev pub Did : (act : Act) → Answer act → List Event → Type 0
Did (Line i) a es = (j : Input) × Reads i es j × (next_line j ≡ Some a)
Did (Say bytes) u es = Says bytes es
Did (Read name) f es = es ≡ event.Load name (seen_of f) ∷ []
Did (Try name) f es = es ≡ event.Load name (seen_at f) ∷ []
Did (Changes c) a es = Attempted c a es
Did (Recover actor token) a es = IsRecoveryOf actor token es (recovery_as a)
Did (Child program args input) a es = es ≡ event.Child program args input a (is_none a) ∷ []
Did (Editor name shell command text) a es = es ≡ event.Edit name shell command text a (is_none a) ∷ []
Did (Now tz) m es = (seconds : ℤ) × (es ≡ event.Now seconds ∷ []) × IsMomentAt tz seconds m
Did (Know q) fact es = (es ≡ []) × IsFact q fact

-- bytes that fit the buffer and pass the limit
abbrev pub IsTooMuch : Input → List ℕ → Type 0
IsTooMuch i bytes = (length bytes ≤ buffer_size) × (input_limit < i.taken + length bytes)

-- takings of input up to where no line can be handed out
pub record ReadsShort (i j : Input) (front : List Event) : Type 0 where
  pub reads : Reads i front j
  pub none : next_line j ≡ None

-- the own events of an act that is cut off, and why it was
abbrev pub Partly : Act → Stop → List Event → Type 0
Partly (Line i) stop.Input es = (front : List Event) × (j : Input) × ReadsShort i j front × (es ≡ front ++ event.In [] true ∷ [])
Partly (Line i) stop.TooMuch es =
    (front : List Event) × (j : Input) × (bytes : List ℕ) × ReadsShort i j front × IsTooMuch j bytes × (es ≡ front ++ event.In bytes false ∷ [])
Partly (Line i) stop.Memory es = (j : Input) × Reads i es j
Partly (Say bytes) stop.Output es = SaysInPart bytes es
Partly (Read name) stop.Disk es = es ≡ event.Load name seen.Failed ∷ []
Partly (Read name) stop.Memory es = es ≡ event.Load name seen.Memory ∷ []
Partly (Try name) stop.Memory es = es ≡ event.Load name seen.Memory ∷ []
Partly (Changes c) stop.Disk es = FailsIn c es
Partly (Changes c) stop.Memory es = RunsOutIn c es
Partly (Recover actor token) stop.Disk es = IsRecoveryOf actor token es (Err recover.Disk)
Partly (Recover actor token) stop.Memory es = IsRecoveryOf actor token es (Err recover.Memory)
Partly (Child program args input) stop.Memory es = es ≡ event.Child program args input None false ∷ []
Partly (Editor name shell command text) stop.Memory es = es ≡ event.Edit name shell command text None false ∷ []
Partly act cause es = ⊥

-- The events are those of the play, to its end or to where it was cut off. Memory may run out at any place.
abbrev pub Goes : {R : Type 0} → Play R → List Event → Result R Stop → Type 0
Goes (Ret r) es out = (es ≡ []) × ((out ≡ Ok r) ⊎ (out ≡ Err stop.Memory))
Goes (Ask act k) es out =
    ((answer : Answer act) × (front : List Event) × (rest : List Event) × (es ≡ front ++ rest)
    × Did act answer front × Goes (k answer) rest out)
    ⊎ ((cause : Stop) × (out ≡ Err cause) × (((cause ≡ stop.Memory) × (es ≡ [])) ⊎ Partly act cause es))

-- a round of a loop ends with the next state, or with the loop's result
pub data Next (X R : Type 0) : Type 0 where
  Go : X → Next X R
  Last : R → Next X R

-- rounds from a state on, to the end or to a cut
pub data Loop {X R : Type 0} (round : X → Play (Next X R)) : X → List Event → Result R Stop → Type 0 where
  again : {x y : X} {es : List Event} {out : Result R Stop} (front rest : List Event) → es ≡ front ++ rest
      → Goes (round x) front (Ok (Go y)) → Loop round y rest out → Loop round x es out
  last : {x : X} {es : List Event} {r : R} → Goes (round x) es (Ok (Last r)) → Loop round x es (Ok r)
  cut : {x : X} {es : List Event} {cause : Stop} → Goes (round x) es (Err cause) → Loop round x es (Err cause)

-- the own events of a whole run: rounds from its opening to an end or a cut, and then what the ending adds
pub record Whole {X R : Type 0} (round : X → Play (Next X R)) (opening : X) (Ending : Result R Stop → List Event → Type 0)
    (es : List Event) : Type 0 where
  pub out : Result R Stop
  pub front : List Event
  pub behind : List Event
  pub is : es ≡ front ++ behind
  pub plays : Loop round opening front out
  pub ending : Ending out behind

-- each cause of a cut but the limit and running out of memory comes only if the count of its kind rose
abbrev pub Caused : {T : Type 0} → Counts → Counts → Result T Stop → Type 0
Caused old new (Err stop.Input) = Rose old.ins new.ins
Caused old new (Err stop.Output) = Rose old.outs new.outs
Caused old new (Err stop.Disk) = Rose old.disks new.disks
Caused old new (Err stop.TooMuch) = Unit {0}
Caused old new (Err stop.Memory) = Unit {0}
Caused old new (Ok t) = Unit {0}

-- a line's answer: the line with the input that is left
abbrev pub with_input : Result (Option (List ℕ)) Stop → Input → Result (Option (List ℕ) × Input) Stop
with_input (Ok line) j = Ok (line, j)
with_input (Err cause) j = Err cause

-- input was taken from i to j, or the taking was cut off
abbrev pub TookSome : Result Unit Stop → Input → Input → List Event → Type 0
TookSome (Ok u) i j es = Reads i es j
TookSome (Err cause) i j es = Partly (Line i) cause es
