-- A run makes several jobs, one after the other. The files that are due after its events, and what holds at each moment.
use Rattle.std.specs.Prelude.{ℕ, ℤ, List, [], ◌∷◌, ◌++◌, Option, Some, None, if◌then◌else◌}
use Rattle.host_port.specs.declared.event.Event.{Event}
use Rattle.host_port.specs.declared.event.Part.{Part}
use Rattle.host_port.specs.Disk.{Disk, after, disk}
use Rattle.host_port.specs.Ends.{stopped}
use Rattle.host_port.specs.Own.{own, OnlyLooks}
use Rattle.host_port.specs.Ran.{Honest}
use Rattle.commit_machine.specs.Settled.{Files, Locks}
use Rattle.commit_machine.specs.Jobs.{Refusal, Ending, Done, Edit, Job, IsJob, at_time, edits_of}
use Rattle.commit_machine.specs.Machine.{State, Seizing, Ended}
use Rattle.commit_machine.specs.Goes.{Goes}
use Rattle.commit_machine.specs.Lawful.{IsSound, IsFresh, OthersAreLawful}
use Rattle.commit_machine.specs.Due.{settled_files, settled_locks, is_decision, files_then, locks_after}
use Rattle.commit_machine.specs.Laws.{IsSettledAs, MetNoFault, in_flight}

-- the job of an actor with these edits, without a time: what is due doesn't depend on it
abbrev pub job_as : List ℕ → ℕ → Option (List Edit) → (Files → Option Refusal) → Job
job_as actor token edits refusal = record { actor = actor; token = token; time = None; edits = edits; refusal = refusal }

-- the first edits of a queue, and what follows them
abbrev pub first_edits : List (List Edit) → List Edit
first_edits [] = []
first_edits (es ∷ more) = es

abbrev pub later_edits : List (List Edit) → List (List Edit)
later_edits [] = []
later_edits (es ∷ more) = more

-- the job whose edits are the first of a queue
abbrev pub first_job : List ℕ → ℕ → List (List Edit) → Job
first_job actor token queue = job_as actor token (Some (first_edits queue)) (λ files. None)

-- a decision takes the first edits of the queue
abbrev pub queue_then : List ℕ → ℕ → List (List Edit) → Event → Disk → List (List Edit)
queue_then actor token queue e d = if is_decision (first_job actor token queue) e d then later_edits queue else queue

abbrev pub queue_after : List ℕ → ℕ → Disk → List (List Edit) → List Event → List (List Edit)
queue_after actor token d queue [] = queue
queue_after actor token d queue (e ∷ es) = queue_after actor token (after d e) (queue_then actor token queue e d) es

-- The files due after events: each decision makes the next edits of the queue, and a step of others what it changes.
abbrev pub run_files : List ℕ → ℕ → Disk → List (List Edit) → Files → List Event → Files
run_files actor token d queue files [] = files
run_files actor token d queue files (e ∷ es) = run_files actor token (after d e) (queue_then actor token queue e d) (files_then (first_job actor token queue) e d files) es

-- the locks due after events: those of others
abbrev pub run_locks : List ℕ → ℕ → Disk → Locks → List Event → Locks
run_locks actor token d locks es = locks_after (first_job actor token []) d locks es

-- what is due after events from a disk, with a queue of accepted edits
abbrev pub IsRunDue : List ℕ → ℕ → Disk → List (List Edit) → List Event → Disk → Type 0
IsRunDue actor token d queue es now = IsSettledAs actor now (run_files actor token d queue (settled_files actor d) es) (run_locks actor token d (settled_locks actor d) es)

-- a part of a run: events of which the own ones only look, or those of a job up to its end
pub data Piece : Type 0 where
  Between : List Event → Piece
  Bracket : Option (List Edit) → (Files → Option Refusal) → Ending → List Event → Piece

abbrev pub piece_events : Piece → List Event
piece_events (Between es) = es
piece_events (Bracket edits refusal end es) = es

abbrev pub row_events : List Piece → List Event
row_events [] = []
row_events (p ∷ ps) = piece_events p ++ row_events ps

-- the edits of a bracket's job; a recovery has none
abbrev pub bracket_edits : Option (List Edit) → List Edit
bracket_edits edits = edits_of (job_as [] 0 edits (λ files. None))

-- the edits of a job that was decided, before others
abbrev pub accepted_in : Piece → List (List Edit) → List (List Edit)
accepted_in (Bracket edits refusal Done es) more = bracket_edits edits ∷ more
accepted_in p more = more

-- the edits of all jobs that were decided, in order, before others
abbrev pub accepted : List Piece → List (List Edit) → List (List Edit)
accepted [] more = more
accepted (p ∷ ps) more = accepted_in p (accepted ps more)

-- The own events are the calls of a job from its start to a state, and others do what is lawful.
pub record IsBracket (actor : List ℕ) (token : ℕ) (d : Disk) (edits : Option (List Edit)) (refusal : Files → Option Refusal) (last : State) (es : List Event) : Type 0 where
  pub time : Option ℤ
  pub job : IsJob (at_time time (job_as actor token edits refusal))
  pub goes : Goes (at_time time (job_as actor token edits refusal)) Seizing (own es) last
  pub honest : Honest d es
  pub lawful : OthersAreLawful actor token d es

-- the own events change nothing, and others do what is lawful
pub record IsBetween (actor : List ℕ) (token : ℕ) (d : Disk) (es : List Event) : Type 0 where
  pub looks : OnlyLooks (own es)
  pub lawful : OthersAreLawful actor token d es

abbrev pub IsPiece : List ℕ → ℕ → Disk → Piece → Type 0
IsPiece actor token d (Between es) = IsBetween actor token d es
IsPiece actor token d (Bracket edits refusal end es) = IsBracket actor token d edits refusal (Ended end) es × MetNoFault end

abbrev pub AreInRow : List ℕ → ℕ → Disk → List Piece → Type 0
AreInRow actor token d [] = Unit {0}
AreInRow actor token d (p ∷ ps) = IsPiece actor token d p × AreInRow actor token (disk d (piece_events p)) ps

-- a row of pieces from a disk that is sound and carries nothing of the token
pub record IsRow (actor : List ℕ) (token : ℕ) (d : Disk) (ps : List Piece) : Type 0 where
  pub fresh : IsFresh actor token d
  pub sound : IsSound actor d
  pub pieces : AreInRow actor token d ps

-- After pieces in a row nothing carries the token, the settled files are those that the accepted edits give, and the disk is sound.
abbrev pub RowIsSafe : Type 0
RowIsSafe = (actor : List ℕ) (token : ℕ) (d : Disk) (ps : List Piece) (more : List (List Edit)) → IsRow actor token d ps
    → IsFresh actor token (disk d (row_events ps)) × IsRunDue actor token d (accepted ps more) (row_events ps) (disk d (row_events ps))

-- So it is at each moment of a job that follows them, and at each image of a stop inside it.
abbrev pub RowMoments : Type 0
RowMoments = (actor : List ℕ) (token : ℕ) (d : Disk) (ps : List Piece) (more : List (List Edit)) (edits : Option (List Edit)) (refusal : Files → Option Refusal) (es : List Event) (last : State)
    → IsRow actor token d ps
    → IsBracket actor token (disk d (row_events ps)) edits refusal last es
    → IsRunDue actor token d (accepted ps (bracket_edits edits ∷ more)) (row_events ps ++ es) (disk d (row_events ps ++ es))

abbrev pub RowStops : Type 0
RowStops = (actor : List ℕ) (token : ℕ) (d : Disk) (ps : List Piece) (more : List (List Edit)) (edits : Option (List Edit))
    (refusal : Files → Option Refusal) (before : List Event) (e : Event) (rest : List Event) (last : State) (part : Part)
    → IsRow actor token d ps
    → IsBracket actor token (disk d (row_events ps)) edits refusal last (before ++ e ∷ rest)
    → IsRunDue actor token d (accepted ps (bracket_edits edits ∷ more))
    (row_events ps ++ (before ++ in_flight (disk d (row_events ps ++ before)) e part)) (stopped (disk d (row_events ps ++ before)) e part)

-- and at each image of a stop between jobs
abbrev pub RowStopsBetween : Type 0
RowStopsBetween = (actor : List ℕ) (token : ℕ) (d : Disk) (ps : List Piece) (more : List (List Edit)) (before : List Event) (e : Event) (rest : List Event) (part : Part)
    → IsRow actor token d ps
    → IsBetween actor token (disk d (row_events ps)) (before ++ e ∷ rest)
    → IsRunDue actor token d (accepted ps more) (row_events ps ++ (before ++ in_flight (disk d (row_events ps ++ before)) e part)) (stopped (disk d (row_events ps ++ before)) e part)
