-- A run that makes several jobs, one after the other.
use Rattle.std.proofs.Common.{◌≡◌, ℕ, ℤ, Bool, true, false, List, [], ◌∷◌, ◌++◌, Option, if◌then◌else◌, refl, ap, sym, subst, ◌∙◌, append_assoc}
use Rattle.host_port.specs.declared.event.Event.{Event}
use Rattle.host_port.specs.declared.event.Event.TheVariants as event
use Rattle.host_port.specs.declared.event.Part.{Part}
use Rattle.host_port.specs.Disk.{Disk, after_step, disk}
use Rattle.host_port.specs.Ends.{stopped, ended, is_after}
use Rattle.host_port.proofs.RanLemmas.{disk-append}
use Rattle.commit_machine.specs.Settled.{Files, Locks}
use Rattle.commit_machine.specs.Jobs.{Ending, Done, Recovered, Refused, Failed, NoMemory, Refusal, Edit, Job, at_time}
use Rattle.commit_machine.specs.Machine.{State, Ended}
use Rattle.commit_machine.specs.Lawful.{IsFresh}
use Rattle.commit_machine.specs.Due.{settled_files, settled_locks}
use Rattle.commit_machine.specs.Laws.{TellsDecisions, MetNoFault, in_flight, decisions}
use Rattle.commit_machine.specs.Rows.{job_as, first_job, queue_after, run_files, run_locks, IsRunDue, Piece, Between, Bracket, piece_events, row_events, bracket_edits, accepted_in, accepted, IsBracket, IsBetween, IsPiece, AreInRow, IsRow, RowIsSafe, RowMoments, RowStops, RowStopsBetween}
use Rattle.commit_machine.proofs.runs.Moments.{crash_safe}
use Rattle.commit_machine.proofs.runs.Stops.{stop_safe}
use Rattle.commit_machine.proofs.runs.Ends.{lawful_front}
use Rattle.commit_machine.proofs.told.Decisions.{decisions_are_told}
use Rattle.commit_machine.proofs.runs.OneJob.{Stands, Due, Leaves, between, run-of, due-as, one-at-most, not-decided, was-decided, after-piece, due-then, queue-split, flight, looks-front, looks-back}

module _ (actor : List ℕ) (token : ℕ) where
  module _ (edits : Option (List Edit)) (refusal : Files → Option Refusal) where
    abbrev job : Option ℤ → Job
    job time = at_time time (job_as actor token edits refusal)

    moment : (d : Disk) (more : List (List Edit)) (files : Files) (owners : Locks) (es : List Event) (last : State)
        → Stands actor token d files owners → IsBracket actor token d edits refusal last es → Due actor token d (bracket_edits edits ∷ more) files owners es (disk d es)
    moment d more files owners es last s b =
        let run = run-of actor token edits refusal d last es files owners s b in
        let a = one-at-most actor token edits refusal b.time d more files owners es last s run in
        due-as actor token edits refusal b.time d (disk d es) (bracket_edits edits ∷ more) a.0 files owners es s a.1 (crash_safe (job b.time) d es last run)

    -- a job that ends without a fault says whether it was decided
    ended-so : (d : Disk) (files : Files) (owners : Locks) (es : List Event) (end : Ending) → Stands actor token d files owners
        → (b : IsBracket actor token d edits refusal (Ended end) es) → TellsDecisions end (decisions (job b.time) d 0 es)
    ended-so d files owners es end s b = decisions_are_told (job b.time) d es end (run-of actor token edits refusal d (Ended end) es files owners s b)

    -- it was decided, or it wasn't
    decided-so : (d : Disk) (more : List (List Edit)) (files : Files) (owners : Locks) (es : List Event) (end : Ending)
        → Stands actor token d files owners → (b : IsBracket actor token d edits refusal (Ended end) es) → MetNoFault end → decisions (job b.time) d 0 es ≡ 1
        → Leaves actor token d (bracket_edits edits ∷ more) more files owners es
    decided-so d more files owners es end s b fine one =
        was-decided actor token edits refusal b.time d more files owners es end s (run-of actor token edits refusal d (Ended end) es files owners s b) fine one

    undecided-so : (d : Disk) (more : List (List Edit)) (files : Files) (owners : Locks) (es : List Event) (end : Ending)
        → Stands actor token d files owners → (b : IsBracket actor token d edits refusal (Ended end) es) → MetNoFault end → decisions (job b.time) d 0 es ≡ 0
        → Leaves actor token d more more files owners es
    undecided-so d more files owners es end s b fine none =
        not-decided actor token edits refusal b.time d more files owners es end s (run-of actor token edits refusal d (Ended end) es files owners s b) fine none

  piece : (p : Piece) (d : Disk) (more : List (List Edit)) (files : Files) (owners : Locks) → Stands actor token d files owners
      → IsPiece actor token d p → Leaves actor token d (accepted_in p more) more files owners (piece_events p)
  piece (Between es) d more files owners s is = between actor token es d more files owners s is.looks is.lawful
  piece (Bracket edits refusal Done es) d more files owners s is = decided-so edits refusal d more files owners es Done s is.0 tt (ended-so edits refusal d files owners es Done s is.0)
  piece (Bracket edits refusal (Recovered found) es) d more files owners s is =
      undecided-so edits refusal d more files owners es (Recovered found) s is.0 tt (ended-so edits refusal d files owners es (Recovered found) s is.0)
  piece (Bracket edits refusal (Refused why) es) d more files owners s is =
      undecided-so edits refusal d more files owners es (Refused why) s is.0 tt (ended-so edits refusal d files owners es (Refused why) s is.0)
  piece (Bracket edits refusal (Failed passed) es) d more files owners s is = absurd is.1
  piece (Bracket edits refusal NoMemory es) d more files owners s is = undecided-so edits refusal d more files owners es NoMemory s is.0 tt (ended-so edits refusal d files owners es NoMemory s is.0)

  row : (ps : List Piece) (d : Disk) (more : List (List Edit)) (files : Files) (owners : Locks) → Stands actor token d files owners
      → AreInRow actor token d ps → Leaves actor token d (accepted ps more) more files owners (row_events ps)
  row [] d more files owners s in_row = record { due = record { same_files = s.settles; same_locks = s.locked; sound = s.sound }; fresh = s.fresh; rest = refl }
  row (p ∷ ps) d more files owners s in_row =
      let xs = piece_events p in
      let ys = row_events ps in
      let queue = accepted (p ∷ ps) more in
      let one = piece p d (accepted ps more) files owners s in_row.0 in
      let later = row ps (disk d xs) more (run_files actor token d queue files xs) (run_locks actor token d owners xs)
      (after-piece actor token d queue (accepted ps more) files owners xs one) in_row.1 in
      let at : disk (disk d xs) ys ≡ disk d (xs ++ ys) = sym (disk-append d xs ys) in
      record {
        due = subst (Due actor token d queue files owners (xs ++ ys)) at (due-then actor token d (disk (disk d xs) ys) queue (accepted ps more) files owners xs ys one.rest later.due);
        fresh = subst (IsFresh actor token) at later.fresh;
        rest = queue-split actor token xs ys d queue ∙ ap (λ (q : List (List Edit)). queue_after actor token (disk d xs) q ys) one.rest ∙ later.rest;
      }

  begins : (d : Disk) (ps : List Piece) → IsRow actor token d ps → Stands actor token d (settled_files actor d) (settled_locks actor d)
  begins d ps r = record { settles = λ n. refl; locked = λ n. refl; sound = r.sound; fresh = r.fresh }

  row-left : (d : Disk) (ps : List Piece) (more : List (List Edit)) → IsRow actor token d ps
      → Leaves actor token d (accepted ps more) more (settled_files actor d) (settled_locks actor d) (row_events ps)
  row-left d ps more r = row ps d more (settled_files actor d) (settled_locks actor d) (begins d ps r) r.pieces

  -- what is due in what follows a row
  due-behind : (d now : Disk) (ps : List Piece) (more : List (List Edit)) (es : List Event) → IsRow actor token d ps
      → (Stands actor token (disk d (row_events ps)) (run_files actor token d (accepted ps more) (settled_files actor d) (row_events ps))
      (run_locks actor token d (settled_locks actor d) (row_events ps))
      → Due actor token (disk d (row_events ps)) more (run_files actor token d (accepted ps more) (settled_files actor d) (row_events ps))
      (run_locks actor token d (settled_locks actor d) (row_events ps)) es now)
      → IsRunDue actor token d (accepted ps more) (row_events ps ++ es) now
  due-behind d now ps more es r to =
      let l = row-left d ps more r in
      due-then actor token d now (accepted ps more) more (settled_files actor d) (settled_locks actor d) (row_events ps) es l.rest
      (to (after-piece actor token d (accepted ps more) more (settled_files actor d) (settled_locks actor d) (row_events ps) l))

pub row_is_safe : RowIsSafe
row_is_safe actor token d ps more r = let l = row-left actor token d ps more r in (l.fresh, l.due)

pub row_moments : RowMoments
row_moments actor token d ps more edits refusal es last r b =
    let queue = bracket_edits edits ∷ more in
    let now = disk d (row_events ps) in
    subst (IsRunDue actor token d (accepted ps queue) (row_events ps ++ es)) (sym (disk-append d (row_events ps) es))
    (due-behind actor token d (disk now es) ps queue es r (λ s. moment actor token edits refusal now more _ _ es last s b))

pub row_stops : RowStops
row_stops actor token d ps more edits refusal before e rest last part r b =
    let queue = bracket_edits edits ∷ more in
    let now = disk d (row_events ps) in
    let P : Disk → Type 0 = λ x. IsRunDue actor token d (accepted ps queue) (row_events ps ++ (before ++ in_flight x e part)) (stopped x e part) in
    let job = at_time b.time (job_as actor token edits refusal) in
    let x = disk now before in
    let es = before ++ in_flight x e part in
    subst P (sym (disk-append d (row_events ps) before))
    (due-behind actor token d (stopped x e part) ps queue es r (λ s.
    let run = run-of actor token edits refusal now last (before ++ e ∷ rest) _ _ s b in
    let f = flight job now before e rest last part run in
    let a = one-at-most actor token edits refusal b.time now more _ _ es f.0 s f.1 in
    due-as actor token edits refusal b.time now (stopped x e part) queue a.0 _ _ es s a.1 (stop_safe job now before e rest last part run)))

module _ (actor : List ℕ) (token : ℕ) (d : Disk) (queue : List (List Edit)) (files : Files) (owners : Locks) (s : Stands actor token d files owners) (before : List Event) where
  -- what is due where a run stops between jobs, once these events were done
  stopped-due : (es rest : List Event) (now : Disk) → disk (disk d before) es ≡ now → IsBetween actor token d ((before ++ es) ++ rest) → Due actor token d queue files owners (before ++ es) (ended now)
  stopped-due es rest now is b =
      let l = between actor token (before ++ es) d queue files owners s (looks-front (before ++ es) rest b.looks) (lawful_front (first_job actor token queue) (before ++ es) rest d b.lawful) in
      let due = subst (Due actor token d queue files owners (before ++ es)) (disk-append d before es ∙ is) l.due in
      record { same_files = due.same_files; same_locks = due.same_locks; sound = due.sound }

  again : (es rest : List Event) → IsBetween actor token d (before ++ (es ++ rest)) → IsBetween actor token d ((before ++ es) ++ rest)
  again es rest b = subst (IsBetween actor token d) (sym (append_assoc before es rest)) b

  stops-between : (e : Event) (rest : List Event) (part : Part) → IsBetween actor token d (before ++ e ∷ rest)
      → Due actor token d queue files owners (before ++ in_flight (disk d before) e part) (stopped (disk d before) e part)
  stops-between (event.Foreign f) rest part b = go (is_after part)
    where
      x : Disk
      x = disk d before

      go : (t : Bool) → Due actor token d queue files owners (before ++ (if t then event.Foreign f ∷ [] else [])) (ended (if t then after_step x f else x))
      go true = stopped-due (event.Foreign f ∷ []) rest (after_step x f) refl (again (event.Foreign f ∷ []) rest b)
      go false = stopped-due [] (event.Foreign f ∷ rest) x refl (again [] (event.Foreign f ∷ rest) b)
  stops-between (event.In bytes failed) rest part b = stopped-due (event.In bytes failed ∷ []) rest (disk d before) refl (again (event.In bytes failed ∷ []) rest b)
  stops-between (event.Out bytes failed) rest part b = stopped-due (event.Out bytes failed ∷ []) rest (disk d before) refl (again (event.Out bytes failed ∷ []) rest b)
  stops-between (event.Child program args input answer failed) rest part b =
      stopped-due (event.Child program args input answer failed ∷ []) rest (disk d before) refl (again (event.Child program args input answer failed ∷ []) rest b)
  stops-between (event.Edit name shell command text answer failed) rest part b =
      stopped-due (event.Edit name shell command text answer failed ∷ []) rest (disk d before) refl (again (event.Edit name shell command text answer failed ∷ []) rest b)
  stops-between (event.Now seconds) rest part b = stopped-due (event.Now seconds ∷ []) rest (disk d before) refl (again (event.Now seconds ∷ []) rest b)
  stops-between (event.Load name seen) rest part b = stopped-due (event.Load name seen ∷ []) rest (disk d before) refl (again (event.Load name seen ∷ []) rest b)
  stops-between e rest part b = absurd (let h = looks-back before (e ∷ rest) b.looks in let k = h.0 in (cc k))

pub row_stops_between : RowStopsBetween
row_stops_between actor token d ps more before e rest part r b =
    let now = disk d (row_events ps) in
    let P : Disk → Type 0 = λ x. IsRunDue actor token d (accepted ps more) (row_events ps ++ (before ++ in_flight x e part)) (stopped x e part) in
    subst P (sym (disk-append d (row_events ps) before))
    (due-behind actor token d (stopped (disk now before) e part) ps more (before ++ in_flight (disk now before) e part) r (λ s. stops-between actor token now more _ _ s before e rest part b))
