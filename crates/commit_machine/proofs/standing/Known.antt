-- What a run knows of the disk at each state.
use Rattle.std.proofs.Common.{◌≡◌, ◌≢◌, ◌⊎◌, ℕ, true, false, List, [], ◌∷◌, Option, Some, None, is_some}
use Rattle.commit_record.specs.Format.{written, IsWritten}
use Rattle.commit_record.specs.declared.record.Record.{Record}
use Rattle.commit_record.specs.declared.way.Way.TheVariants.{Replace, Remove, Extend}
use Rattle.commit_record.specs.declared.way.Way.{Way}
use Rattle.host_port.specs.Disk.{Disk}
use Rattle.commit_machine.specs.Names.{record_name, new_name, staged_name, is_record_name}
use Rattle.commit_machine.specs.Records.{is_go, names_of, way_at, AreDistinct}
use Rattle.commit_machine.specs.Settled.{Mem, put_in}
use Rattle.commit_machine.specs.Items.{Item, item_names}
use Rattle.commit_machine.specs.Jobs.{Ending, Done, Recovered, Refused, Failed, NoMemory, Puts, Edit, Job, Made, edits_of, all_of, prepare_of, go_of}
use Rattle.commit_machine.specs.Machine.{Then, GoOn, Answer, State, Seizing, Timing, Looking, Undoing, Placing, Testing, Removing, Extending, Discarding, Unlocking, Erasing, Clearing, Preparing, Publishing, Locking, Loading, Staging, Deciding, Committing, Checking, Releasing, Ended}
use Rattle.commit_machine.specs.Lawful.{standing, HasRight, IsFresh}
use Rattle.commit_machine.proofs.standing.Decided.{IsDistinct}

-- A record that is being done with: staged files are left for ns alone, locks for ls alone.
pub record Closing (actor : List ℕ) (r : Record) (ns ls : List (List ℕ)) (d : Disk) : Type 0 where
  pub right : HasRight actor d
  pub stands : standing actor d ≡ Some r
  pub gone : (m : List ℕ) → Mem m (names_of r) → Mem m ns ⊎ (d.files (staged_name r.token m) ≡ None)
  pub free : (m : List ℕ) → Mem m (names_of r) → Mem m ls ⊎ (d.locks m ≢ Some r.token)

-- nothing carries the own token but under the own names
pub record Rest (j : Job) (d : Disk) : Type 0 where
  pub staged : (m : List ℕ) → Mem m (all_of j) ⊎ (d.files (staged_name j.token m) ≡ None)
  pub locks : (m : List ℕ) → Mem m (all_of j) ⊎ (d.locks m ≢ Some j.token)

-- The own record before the decision stands: ns are staged, ls are locked, made was loaded, and all of made but left is staged.
pub record Own (j : Job) (ns ls : List (List ℕ)) (made left : List Made) (d : Disk) : Type 0 where
  pub closing : Closing j.actor (prepare_of j) ns ls d
  pub rest : Rest j d
  pub locked : (m : List ℕ) → Mem m ls → d.locks m ≡ Some j.token
  pub seen : (x : Made) → Mem x made → d.files x.edit.name ≡ x.seen
  pub staged : (x : Made) → Mem x made → Mem x left ⊎ (d.files (staged_name j.token x.edit.name) ≡ Some x.content)

-- nothing of this run's stands yet
pub record Clean (j : Job) (d : Disk) : Type 0 where
  pub right : HasRight j.actor d
  pub fresh : IsFresh j.actor j.token d

-- no record stands, and what is staged for it is this
pub record Idle (j : Job) (c : Option (List ℕ)) (d : Disk) : Type 0 where
  pub clean : Clean j d
  pub none : d.files (record_name j.actor) ≡ None
  pub new : (b : List ℕ) → c ≡ Some b → d.files (new_name j.actor) ≡ Some b

abbrev pub IsValid : Job → Type 0
IsValid j = IsWritten (written (prepare_of j)) (prepare_of j)

-- an answer that a job's own record may be closed with
abbrev pub IsOwnEnd : Ending → Type 0
IsOwnEnd Done = Unit {0}
IsOwnEnd (Refused why) = Unit {0}
IsOwnEnd NoMemory = Unit {0}
IsOwnEnd e = ⊥

pub record Ours (j : Job) (r : Record) (e : Ending) (d : Disk) : Type 0 where
  pub token : r.token ≡ j.token
  pub names : names_of r ≡ all_of j
  pub rest : Rest j d
  pub own_end : IsOwnEnd e

abbrev pub ThenOk : Job → Record → Then → Disk → Type 0
ThenOk j r GoOn d = IsFresh j.actor j.token d
ThenOk j r (Answer e) d = Ours j r e d

-- nothing of the run's is left, and no record stands
pub record AllDone (j : Job) (d : Disk) : Type 0 where
  pub fresh : IsFresh j.actor j.token d
  pub none : d.files (record_name j.actor) ≡ None

pub record AllClear (j : Job) (d : Disk) : Type 0 where
  pub done : AllDone j d
  pub no_new : d.files (new_name j.actor) ≡ None

-- what holds once the right is given up
abbrev pub Over : Ending → Job → Disk → Type 0
Over (Failed passed) j d = Unit {0}
Over e j d = IsFresh j.actor j.token d

-- what holds where the answer is settled, before the right is given up
abbrev pub Ends : Ending → Job → Disk → Type 0
Ends Done j d = AllDone j d × HasRight j.actor d
Ends (Recovered found) j d = AllClear j d × HasRight j.actor d
Ends (Failed passed) j d = Unit {0}
Ends e j d = IsFresh j.actor j.token d

pub record Subset (xs ys : List (List ℕ)) : Type 0 where
  pub each : (m : List ℕ) → Mem m xs → Mem m ys

-- facts on lists alone
pub record Covers (j : Job) (made : List Made) (left : List Edit) : Type 0 where
  pub each : (x : Made) → Mem x made → Mem x.edit (edits_of j) × (x.edit.by x.seen ≡ Puts x.way x.content)
  pub all : (e : Edit) → Mem e (edits_of j) → Mem e left ⊎ ((x : Made) × Mem x made × (x.edit ≡ e))
  pub within : (e : Edit) → Mem e left → Mem e (edits_of j)

pub record LocksLeft (j : Job) (ls : List (List ℕ)) (left : List Edit) : Type 0 where
  pub all : (m : List ℕ) → Mem m (all_of j) → Mem m ls ⊎ ((e : Edit) × Mem e left × (e.name ≡ m))
  pub back : (m : List ℕ) → Mem m ls → Mem m (all_of j)
  pub within : (e : Edit) → Mem e left → Mem e (edits_of j)
  pub apart : (m : List ℕ) → Mem m ls → (e : Edit) → Mem e left → m ≢ e.name
  pub distinct : IsDistinct left

pub record Among (left made : List Made) : Type 0 where
  pub each : (x : Made) → Mem x left → Mem x made

-- the staged file of this one stands, as it is known
abbrev pub IsStaged : Record → Item → Disk → Type 0
IsStaged r x d = (d.files (staged_name r.token x.name) ≡ x.staged) × (is_some x.staged ≡ true)

-- a staged file of this way is looked for before it is put in place
abbrev pub IsLooked : Way → Type 0
IsLooked Replace = ⊥
IsLooked Remove = Unit {0}
IsLooked (Extend at) = Unit {0}

-- All staged files of the own record stand when it is decided; of a record that was found it isn't known.
abbrev pub AreStaged : Then → Record → List Item → Disk → Type 0
AreStaged GoOn r xs d = Unit {0}
AreStaged (Answer e) r xs d = (x : Item) → Mem x xs → IsStaged r x d

-- A decided record of which all but these files are in place.
pub record PartPlaced (actor : List ℕ) (r : Record) (xs : List Item) (ls : List (List ℕ)) (th : Then) (d : Disk) : Type 0 where
  pub closing : Closing actor r (item_names xs) ls d
  pub go : is_go r ≡ true
  pub within : Subset (item_names xs) (names_of r)
  pub locks_within : Subset ls (names_of r)
  pub distinct : AreDistinct (item_names xs)
  pub ways : (x : Item) → Mem x xs → way_at r x.name ≡ x.way
  pub staged : AreStaged th r xs d

-- What a change by others leaves of a token: what is staged for it, its locks, and the files that are locked with it.
pub record KeepsToken (u : ℕ) (d d' : Disk) : Type 0 where
  pub staged : (m : List ℕ) → d'.files (staged_name u m) ≡ d.files (staged_name u m)
  pub lock : (m : List ℕ) → d.locks m ≡ Some u → d'.locks m ≡ Some u
  pub free : (m : List ℕ) → d.locks m ≢ Some u → d'.locks m ≢ Some u
  pub file : (m : List ℕ) → d.locks m ≡ Some u → d'.files m ≡ d.files m

-- What a change by others leaves of a record: what is staged for it, its locks, and the files that it names and that are locked for it.
pub record KeepsRecord (r : Record) (d d' : Disk) : Type 0 where
  pub staged : (m : List ℕ) → d'.files (staged_name r.token m) ≡ d.files (staged_name r.token m)
  pub lock : (m : List ℕ) → d.locks m ≡ Some r.token → d'.locks m ≡ Some r.token
  pub free : (m : List ℕ) → d.locks m ≢ Some r.token → d'.locks m ≢ Some r.token
  pub file : (m : List ℕ) → Mem m (names_of r) → d.locks m ≡ Some r.token → d'.files m ≡ d.files m

-- A change by others keeps the right, and what is of the run's token. While the run has the right it keeps the record
-- names and what is of the record that stands.
pub record Keeps (actor : List ℕ) (t : ℕ) (d d' : Disk) : Type 0 where
  pub right : HasRight actor d → HasRight actor d'
  pub own : KeepsToken t d d'
  pub fresh : (r : Record) → (standing actor d ≡ Some r → r.token ≢ t) → standing actor d' ≡ Some r → r.token ≢ t
  pub records : (n : List ℕ) → HasRight actor d → is_record_name actor n ≡ true → d'.files n ≡ d.files n
  pub found : (r : Record) → HasRight actor d → standing actor d ≡ Some r → KeepsRecord r d d'

abbrev pub Knows : Job → State → Disk → Type 0
Knows j Seizing d = IsFresh j.actor j.token d
Knows j (Timing time) d = Clean j d
Knows j Looking d = Clean j d
Knows j (Undoing r n ns ls th) d = Closing j.actor r (n ∷ ns) ls d × (is_go r ≡ false) × Subset (n ∷ ns) (names_of r) × Subset ls (names_of r) × ThenOk j r th d
Knows j (Placing r x xs ls th) d = PartPlaced j.actor r (x ∷ xs) ls th d × ThenOk j r th d × (x.way ≡ Replace)
Knows j (Testing r x xs ls) d = PartPlaced j.actor r (x ∷ xs) ls GoOn d × ThenOk j r GoOn d × IsLooked x.way
Knows j (Removing r x xs ls th) d = PartPlaced j.actor r (x ∷ xs) ls th d × ThenOk j r th d × (x.way ≡ Remove) × IsStaged r x d
Knows j (Extending r x xs ls th) d = PartPlaced j.actor r (x ∷ xs) ls th d × ThenOk j r th d × ((at : ℕ) × (x.way ≡ Extend at)) × IsStaged r x d
Knows j (Discarding r x xs ls th) d = PartPlaced j.actor r (x ∷ xs) ls th d × ThenOk j r th d × (d.locks x.name ≡ Some r.token)
    × (put_in x.way (d.files x.name) (d.files (staged_name r.token x.name)) ≡ d.files x.name)
Knows j (Unlocking r n ns th) d = Closing j.actor r [] (n ∷ ns) d × Subset (n ∷ ns) (names_of r) × ThenOk j r th d
Knows j (Erasing r th) d = Closing j.actor r [] [] d × ThenOk j r th d
Knows j (Clearing found) d = Idle j None d
Knows j Preparing d = Idle j None d × IsValid j
Knows j Publishing d = Idle j (Some (written (prepare_of j))) d × IsValid j
Knows j (Locking ls e left) d = Own j [] ls [] [] d × LocksLeft j ls (e ∷ left)
Knows j (Loading made e left) d = Own j [] (all_of j) made made d × Covers j made (e ∷ left)
Knows j (Staging ns made x left) d = Own j ns (all_of j) made (x ∷ left) d × Covers j made [] × Subset ns (all_of j) × Among (x ∷ left) made
Knows j (Deciding made) d = Own j (all_of j) (all_of j) made [] d × Covers j made []
Knows j (Committing made) d = Own j (all_of j) (all_of j) made [] d × Covers j made [] × (d.files (new_name j.actor) ≡ Some (written (go_of j made)))
Knows j Checking d = Unit {0}
Knows j (Releasing e) d = Ends e j d
Knows j (Ended e) d = Over e j d
