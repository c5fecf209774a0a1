-- Laws of the machine.
use Rattle.std.specs.Prelude.{◌≡◌, ◌⊎◌, ℕ, suc, Bool, true, false, List, [], ◌∷◌, ◌++◌, if◌then◌else◌}
use Rattle.std.specs.declared.option.Option.TheVariants.{None}
use Rattle.host_port.specs.declared.event.Event.{Event}
use Rattle.host_port.specs.declared.event.Event.TheVariants.{Foreign, Release}
use Rattle.host_port.specs.declared.event.Part.{Part}
use Rattle.host_port.specs.Disk.{Disk, disk, after}
use Rattle.host_port.specs.Ends.{cut_short, stopped, is_after}
use Rattle.host_port.specs.Own.{own}
use Rattle.host_port.specs.Ran.{Honest}
use Rattle.commit_machine.specs.Names.{record_name, right_name}
use Rattle.commit_machine.specs.Settled.{Files, Locks}
use Rattle.commit_machine.specs.Jobs.{After, Unknown, Found, Ending, Done, Recovered, Failed, Job, IsJob, edits_of}
use Rattle.commit_machine.specs.Machine.{State, Seizing, Ended}
use Rattle.commit_machine.specs.Goes.{Goes}
use Rattle.commit_machine.specs.Lawful.{IsSound, IsFresh, OthersAreLawful}
use Rattle.commit_machine.specs.Due.{settled_files, settled_locks, applied, is_decision, files_after, locks_after}

abbrev pub is_foreign : Event → Bool
is_foreign (Foreign step) = true
is_foreign e = false

-- A run of a job from a disk that is sound and carries nothing of its token: its own events are the machine's next calls, each
-- event says what is so, and the steps of others are lawful.
pub record IsRun (j : Job) (d : Disk) (es : List Event) (last : State) : Type 0 where
  pub job : IsJob j
  pub fresh : IsFresh j.actor j.token d
  pub sound : IsSound j.actor d
  pub goes : Goes j Seizing (own es) last
  pub honest : Honest d es
  pub lawful : OthersAreLawful j.actor j.token d es

-- the settled files and locks of the disk are these, and the disk is sound
pub record IsSettledAs (actor : List ℕ) (d : Disk) (files : Files) (locks : Locks) : Type 0 where
  pub same_files : (n : List ℕ) → settled_files actor d n ≡ files n
  pub same_locks : (n : List ℕ) → settled_locks actor d n ≡ locks n
  pub sound : IsSound actor d

-- the files and locks that are due after events from a disk
abbrev pub IsDue : Job → Disk → List Event → Disk → Type 0
IsDue j d es now = IsSettledAs j.actor now (files_after j d (settled_files j.actor d) es) (locks_after j d (settled_locks j.actor d) es)

-- at every moment the settled files are those that the accepted changes give, the locks are those of others, and the disk is sound
abbrev pub CrashSafe : Type 0
CrashSafe = (j : Job) (d : Disk) (es : List Event) (last : State) → IsRun j d es last → IsDue j d es (disk d es)

-- what stands at the front of a run is a run
abbrev pub FrontIsRun : Type 0
FrontIsRun = (j : Job) (d : Disk) (before rest : List Event) (last : State) → IsRun j d (before ++ rest) last → (now : State) × IsRun j d before now

-- stretches of the machine's events, one after the other, are a stretch
abbrev pub StretchesJoin : Type 0
StretchesJoin = (j : Job) (first mid last : State) (xs ys : List Event) → Goes j first xs mid → Goes j mid ys last → Goes j first (xs ++ ys) last

-- the part of an event that an image of a stop inside it holds: a failing form, or the step of another if it was done
abbrev pub in_flight : Disk → Event → Part → List Event
in_flight d (Foreign step) part = if is_after part then Foreign step ∷ [] else []
in_flight d e part = cut_short d e part ∷ []

-- Stopped before or inside any event, the disk is as settled as its moment asks: what is due for the events before, and for the
-- part of the event that was done.
abbrev pub StopSafe : Type 0
StopSafe = (j : Job) (d : Disk) (before : List Event) (e : Event) (rest : List Event) (last : State) (part : Part)
    → IsRun j d (before ++ e ∷ rest) last
    → IsDue j d (before ++ in_flight (disk d before) e part) (stopped (disk d before) e part)

-- an own event that is no decision changes nothing of what is due
abbrev pub OnlyDecisions : Type 0
OnlyDecisions = (j : Job) (d : Disk) (before : List Event) (e : Event) (files : Files) (locks : Locks) (n : List ℕ)
    → is_foreign e ≡ false → is_decision j e (disk d before) ≡ false
    → (files_after j d files (before ++ e ∷ []) n ≡ files_after j d files before n) × (locks_after j d locks (before ++ e ∷ []) n ≡ locks_after j d locks before n)

-- the edits are made at a decision
abbrev pub DecisionsApply : Type 0
DecisionsApply = (j : Job) (d : Disk) (before : List Event) (e : Event) (files : Files) (n : List ℕ)
    → is_decision j e (disk d before) ≡ true
    → files_after j d files (before ++ e ∷ []) n ≡ applied (edits_of j) (files_after j d files before) n

-- no call failed on the way to this end
abbrev pub MetNoFault : Ending → Type 0
MetNoFault (Failed passed) = ⊥
MetNoFault e = Unit {0}

-- at an end without a fault nothing on the disk carries the job's token
abbrev pub NothingLeft : Type 0
NothingLeft = (j : Job) (d : Disk) (es : List Event) (end : Ending) → MetNoFault end → IsRun j d es (Ended end) → IsFresh j.actor j.token (disk d es)

-- the ends of a job that is done
abbrev pub IsDone : Ending → Type 0
IsDone Done = Unit {0}
IsDone (Recovered found) = Unit {0}
IsDone e = ⊥

-- when a job that is done gives up its right no record stands
abbrev pub NoRecordStands : Type 0
NoRecordStands = (j : Job) (d : Disk) (es : List Event) (end : Ending) → IsDone end → IsRun j d (es ++ Release (right_name j.actor) ∷ []) (Ended end)
    → (disk d (es ++ Release (right_name j.actor) ∷ [])).files (record_name j.actor) ≡ None

-- when a recovery that is done gives up its right the disk is settled
abbrev pub RecoverySettles : Type 0
RecoverySettles = (j : Job) (d : Disk) (es : List Event) (found : Found) (n : List ℕ) → IsRun j d (es ++ Release (right_name j.actor) ∷ []) (Ended (Recovered found))
    → (settled_files j.actor (disk d (es ++ Release (right_name j.actor) ∷ [])) n ≡ (disk d (es ++ Release (right_name j.actor) ∷ [])).files n)
    × (settled_locks j.actor (disk d (es ++ Release (right_name j.actor) ∷ [])) n ≡ (disk d (es ++ Release (right_name j.actor) ∷ [])).locks n)

-- n, and one more for each decision that events hold
abbrev pub decisions : Job → Disk → ℕ → List Event → ℕ
decisions j d n [] = n
decisions j d n (e ∷ es) = decisions j (after d e) (if is_decision j e d then suc n else n) es

-- what an end says of the decisions in its run
abbrev pub TellsDecisions : Ending → ℕ → Type 0
TellsDecisions Done n = n ≡ 1
TellsDecisions (Failed After) n = n ≡ 1
TellsDecisions (Failed Unknown) n = (n ≡ 0) ⊎ (n ≡ 1)
TellsDecisions e n = n ≡ 0

-- A run that ends as done was decided once; one that is refused, runs out of memory or recovers was never decided; and one that fails says
-- whether it was, or that it doesn't know.
abbrev pub DecisionsAreTold : Type 0
DecisionsAreTold = (j : Job) (d : Disk) (es : List Event) (end : Ending) → IsRun j d es (Ended end) → TellsDecisions end (decisions j d 0 es)
