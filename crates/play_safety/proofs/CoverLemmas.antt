-- What is due at each moment of a stretch of events, and at each image of a stop in it.
use Rattle.std.proofs.Common.{◌≡◌, ◌⊎◌, ℕ, Bool, true, false, List, [], ◌∷◌, ◌++◌, Option, if◌then◌else◌, refl, sym, subst, inl, inr, ◌∙◌, arith, append_assoc}
use Rattle.std.specs.List.{list_any}
use Rattle.host_port.specs.declared.event.Event.{Event}
use Rattle.host_port.specs.declared.event.Event.TheVariants as event
use Rattle.host_port.specs.declared.event.Part.{Part}
use Rattle.host_port.specs.Disk.{Disk, after_step, disk}
use Rattle.host_port.specs.Ends.{stopped, ended, is_after}
use Rattle.host_port.specs.Own.{own, OnlyLooks}
use Rattle.host_port.proofs.RanLemmas.{disk-append}
use Rattle.commit_machine.specs.Settled.{Files, Locks}
use Rattle.commit_machine.specs.Jobs.{Refusal, Edit, Job, at_time, edits_of}
use Rattle.commit_machine.specs.Machine.{State}
use Rattle.commit_machine.specs.Lawful.{OthersAreLawful}
use Rattle.commit_machine.specs.Due.{settled_files, settled_locks, same_file, same_lock, files_then, locks_then}
use Rattle.commit_machine.specs.Laws.{IsRun, IsSettledAs, decisions, in_flight}
use Rattle.commit_machine.specs.Restraints.{is_failed}
use Rattle.commit_machine.specs.Rows.{first_job, job_as, queue_after, run_files, run_locks, IsBracket}
use Rattle.commit_machine.proofs.runs.Moments.{crash_safe, file_true, lock_true, renewed_is}
use Rattle.commit_machine.proofs.runs.Stops.{stop_safe}
use Rattle.commit_machine.proofs.runs.Ends.{front_is_run, lawful_front}
use Rattle.commit_machine.proofs.runs.OneJob.{Stands, Due, undecided, one-at-most, run-of, due-as, due-then, flight, honest-back, looks-front, looks-back}
use Rattle.play_safety.proofs.TraceLemmas.{Fronts, fronts, Stands-in, stands-in, front-undecided, none-decides, flies-undecided, none-failed, decisions-then}

module _ (actor : List ℕ) (token : ℕ) where
  -- what is due at each moment of a stretch, and at each image
  pub record Covers (d : Disk) (queue : List (List Edit)) (files : Files) (owners : Locks) (es : List Event) : Type 0 where
    pub moments : (a b : List Event) → es ≡ a ++ b → Due actor token d queue files owners a (disk d a)
    pub stops : (a b : List Event) (e : Event) (part : Part) → es ≡ a ++ e ∷ b → Due actor token d queue files owners (a ++ in_flight (disk d a) e part) (stopped (disk d a) e part)

  -- events that only look leave what is due, whatever others do
  pub looking : (es : List Event) (d : Disk) (queue : List (List Edit)) (files : Files) (owners : Locks) → IsSettledAs actor d files owners
      → OnlyLooks (own es) → OthersAreLawful actor token d es → Due actor token d queue files owners es (disk d es)
  looking [] d queue files owners s looks lawful = record { same_files = s.same_files; same_locks = s.same_locks; sound = s.sound }
  looking (event.Foreign f ∷ es) d queue files owners s looks lawful =
      let j = first_job actor token queue in
      let more = looking es (after_step d f) queue (files_then j (event.Foreign f) d files) (locks_then j (event.Foreign f) d owners) (record {
        same_files = λ n. renewed_is same_file file_true (settled_files actor d n) (settled_files actor (after_step d f) n) (files n) (s.same_files n);
        same_locks = λ n. renewed_is same_lock lock_true (settled_locks actor d n) (settled_locks actor (after_step d f) n) (owners n) (s.same_locks n);
        sound = lawful.1;
      }) looks lawful.2 in
      record { same_files = more.same_files; same_locks = more.same_locks; sound = more.sound }
  looking (event.In bytes failed ∷ es) d queue files owners s looks lawful = looking es d queue files owners s looks.1 lawful
  looking (event.Out bytes failed ∷ es) d queue files owners s looks lawful = looking es d queue files owners s looks.1 lawful
  looking (event.Child program args input answer failed ∷ es) d queue files owners s looks lawful = looking es d queue files owners s looks.1 lawful
  looking (event.Edit name shell command text answer failed ∷ es) d queue files owners s looks lawful = looking es d queue files owners s looks.1 lawful
  looking (event.Now seconds ∷ es) d queue files owners s looks lawful = looking es d queue files owners s looks.1 lawful
  looking (event.Load name seen ∷ es) d queue files owners s looks lawful = looking es d queue files owners s looks.1 lawful
  looking (e ∷ es) d queue files owners s looks lawful = absurd (let h = looks.0 in (cc h))

  module _ (d : Disk) (queue : List (List Edit)) (files : Files) (owners : Locks) (s : IsSettledAs actor d files owners) where
    looked : (a b : List Event) → OnlyLooks (own (a ++ b)) → OthersAreLawful actor token d (a ++ b) → Due actor token d queue files owners a (disk d a)
    looked a b looks lawful = looking a d queue files owners s (looks-front a b looks) (lawful_front (first_job actor token queue) a b d lawful)

    stopped-looking : (a es b : List Event) (now : Disk) → disk (disk d a) es ≡ now → OnlyLooks (own (a ++ (es ++ b)))
        → OthersAreLawful actor token d (a ++ (es ++ b)) → Due actor token d queue files owners (a ++ es) (ended now)
    stopped-looking a es b now is looks lawful =
        let both : (a ++ es) ++ b ≡ a ++ (es ++ b) = append_assoc a es b in
        let L : List Event → Type 0 = λ l. OnlyLooks (own l) in
        let due = subst (Due actor token d queue files owners (a ++ es)) (disk-append d a es ∙ is)
        (looked (a ++ es) b (subst L (sym both) looks) (subst (OthersAreLawful actor token d) (sym both) lawful)) in
        record { same_files = due.same_files; same_locks = due.same_locks; sound = due.sound }

    stops-looking : (a : List Event) (e : Event) (b : List Event) (part : Part) → OnlyLooks (own (a ++ e ∷ b))
        → OthersAreLawful actor token d (a ++ e ∷ b) → Due actor token d queue files owners (a ++ in_flight (disk d a) e part) (stopped (disk d a) e part)
    stops-looking a (event.Foreign f) b part looks lawful = go (is_after part)
      where
        x : Disk
        x = disk d a

        go : (t : Bool) → Due actor token d queue files owners (a ++ (if t then event.Foreign f ∷ [] else [])) (ended (if t then after_step x f else x))
        go true = stopped-looking a (event.Foreign f ∷ []) b (after_step x f) refl looks lawful
        go false = stopped-looking a [] (event.Foreign f ∷ b) x refl looks lawful
    stops-looking a (event.In bytes failed) b part looks lawful = stopped-looking a (event.In bytes failed ∷ []) b (disk d a) refl looks lawful
    stops-looking a (event.Out bytes failed) b part looks lawful = stopped-looking a (event.Out bytes failed ∷ []) b (disk d a) refl looks lawful
    stops-looking a (event.Child program args input answer failed) b part looks lawful = stopped-looking a (event.Child program args input answer failed ∷ []) b (disk d a) refl looks lawful
    stops-looking a (event.Edit name shell command text answer failed) b part looks lawful = stopped-looking a (event.Edit name shell command text answer failed ∷ []) b (disk d a) refl looks lawful
    stops-looking a (event.Now seconds) b part looks lawful = stopped-looking a (event.Now seconds ∷ []) b (disk d a) refl looks lawful
    stops-looking a (event.Load name seen) b part looks lawful = stopped-looking a (event.Load name seen ∷ []) b (disk d a) refl looks lawful
    stops-looking a e b part looks lawful = absurd (let h = looks-back a (e ∷ b) looks in let k = h.0 in (cc k))

    -- events that only look
    pub looks-covered : (es : List Event) → OnlyLooks (own es) → OthersAreLawful actor token d es → Covers d queue files owners es
    looks-covered es looks lawful =
        let L : List Event → Type 0 = λ l. OnlyLooks (own l) in
        record {
          moments = λ a b is. looked a b (subst L is looks) (subst (OthersAreLawful actor token d) is lawful);
          stops = λ a b e part is. stops-looking a e b part (subst L is looks) (subst (OthersAreLawful actor token d) is lawful);
        }

  -- one stretch and then another
  module _ (d : Disk) (queue left : List (List Edit)) (files : Files) (owners : Locks) (xs ys : List Event) (rest : queue_after actor token d queue xs ≡ left)
      (x : Covers d queue files owners xs) (y : Covers (disk d xs) left (run_files actor token d queue files xs) (run_locks actor token d owners xs) ys) where
    abbrev Now : List Event → Disk → Type 0
    Now es now = Due actor token d queue files owners es now

    moment-in : (a b : List Event) → Fronts xs ys a b → Now a (disk d a)
    moment-in a b (inl (c, is)) = x.moments a c is
    moment-in a b (inr (c, is, back)) =
        let N : List Event → Type 0 = λ l. Now l (disk d l) in
        subst N (sym is) (subst (Now (xs ++ c)) (sym (disk-append d xs c)) (due-then actor token d (disk (disk d xs) c) queue left files owners xs c rest (y.moments c b back)))

    stop-in : (a : List Event) (e : Event) (b : List Event) (part : Part) → Stands-in xs ys a e b → Now (a ++ in_flight (disk d a) e part) (stopped (disk d a) e part)
    stop-in a e b part (inl (c, is)) = x.stops a c e part is
    stop-in a e b part (inr (c, is, back)) =
        let N : List Event → Type 0 = λ l. Now (l ++ in_flight (disk d l) e part) (stopped (disk d l) e part) in
        let M : Disk → Type 0 = λ w. Now ((xs ++ c) ++ in_flight w e part) (stopped w e part) in
        let w = disk (disk d xs) c in
        subst N (sym is) (subst M (sym (disk-append d xs c))
        (subst (λ (l : List Event). Now l (stopped w e part)) (sym (append_assoc xs c (in_flight w e part)))
        (due-then actor token d (stopped w e part) queue left files owners xs (c ++ in_flight w e part) rest (y.stops c b e part back))))

    pub covers-then : Covers d queue files owners (xs ++ ys)
    covers-then = record {
      moments = λ a b is. moment-in a b (fronts xs ys a b is);
      stops = λ a b e part is. stop-in a e b part (stands-in xs ys a e b is);
    }

  -- the events of one job
  module _ (edits : Option (List Edit)) (refusal : Files → Option Refusal) (d : Disk) (files : Files) (owners : Locks) (s : Stands actor token d files owners)
      (es : List Event) (last : State) (b : IsBracket actor token d edits refusal last es) where
    abbrev job : Job
    job = at_time b.time (job_as actor token edits refusal)

    run : IsRun job d es last
    run = run-of actor token edits refusal d last es files owners s b

    abbrev Runs : List Event → Type 0
    Runs l = IsRun job d l last

    -- no front of the events holds a decision, nor does an image of a stop in them
    pub record IsUndecided : Type 0 where
      pub fronts_none : (x y : List Event) → es ≡ x ++ y → decisions job d 0 x ≡ 0
      pub stops_none : (x : List Event) (e : Event) (y : List Event) (part : Part) → es ≡ x ++ e ∷ y → decisions job d 0 (x ++ in_flight (disk d x) e part) ≡ 0

    -- where the events hold none and no call failed, so it is
    pub calm-undecided : decisions job d 0 es ≡ 0 → list_any is_failed (own es) ≡ false → IsUndecided
    calm-undecided none fine = record {
      fronts_none = λ x y at. front-undecided job x y d (subst (λ (l : List Event). decisions job d 0 l ≡ 0) at none);
      stops_none = λ x e y part at.
          let whole = subst Runs at run in
          let parts = none-decides job x e y d (subst (λ (l : List Event). decisions job d 0 l ≡ 0) at none) in
          let whole-so = none-failed x e y (subst (λ (l : List Event). list_any is_failed (own l) ≡ false) at fine) in
          let says = honest-back x (e ∷ y) d whole.honest in
          let flies = flies-undecided job (disk d x) e part 0 says.0 whole-so parts.1 in
          let both = decisions-then job x (in_flight (disk d x) e part) d in
          let p = parts.0 in omega (arith, both, flies, p);
    }

    -- so it is of a job of which no run holds one
    pub never-undecided : ((l : List Event) (now : State) → IsRun job d l now → decisions job d 0 l ≡ 0) → IsUndecided
    never-undecided never = record {
      fronts_none = λ x y at. let r = front_is_run job d x y last (subst Runs at run) in never x r.0 r.1;
      stops_none = λ x e y part at. let f = flight job d x e y last part (subst Runs at run) in never (x ++ in_flight (disk d x) e part) f.0 f.1;
    }

    -- a queue that the job's decision may take
    abbrev pub MayTake : List (List Edit) → Type 0
    MayTake queue = ((more : List (List Edit)) × (queue ≡ edits_of job ∷ more)) ⊎ IsUndecided

    moment-of : (queue : List (List Edit)) → MayTake queue → (x y : List Event) → es ≡ x ++ y → Due actor token d queue files owners x (disk d x)
    moment-of queue (inl (more, is)) x y at =
        let r = front_is_run job d x y last (subst Runs at run) in
        let a = one-at-most actor token edits refusal b.time d more files owners x r.0 s r.1 in
        subst (λ (q : List (List Edit)). Due actor token d q files owners x (disk d x)) (sym is)
        (due-as actor token edits refusal b.time d (disk d x) (edits_of job ∷ more) a.0 files owners x s a.1 (crash_safe job d x r.0 r.1))
    moment-of queue (inr none) x y at =
        let r = front_is_run job d x y last (subst Runs at run) in
        let here = none.fronts_none x y at in
        due-as actor token edits refusal b.time d (disk d x) queue queue files owners x s
        (undecided job x d queue files (settled_files actor d) 0 (λ n. sym (s.settles n)) here) (crash_safe job d x r.0 r.1)

    stop-of : (queue : List (List Edit)) → MayTake queue → (x : List Event) (e : Event) (y : List Event) (part : Part) → es ≡ x ++ e ∷ y
        → Due actor token d queue files owners (x ++ in_flight (disk d x) e part) (stopped (disk d x) e part)
    stop-of queue (inl (more, is)) x e y part at =
        let whole = subst Runs at run in
        let l = x ++ in_flight (disk d x) e part in
        let now = stopped (disk d x) e part in
        let f = flight job d x e y last part whole in
        let a = one-at-most actor token edits refusal b.time d more files owners l f.0 s f.1 in
        subst (λ (q : List (List Edit)). Due actor token d q files owners l now) (sym is)
        (due-as actor token edits refusal b.time d now (edits_of job ∷ more) a.0 files owners l s a.1 (stop_safe job d x e y last part whole))
    stop-of queue (inr none) x e y part at =
        let whole = subst Runs at run in
        let l = x ++ in_flight (disk d x) e part in
        let now = stopped (disk d x) e part in
        let here = none.stops_none x e y part at in
        due-as actor token edits refusal b.time d now queue queue files owners l s
        (undecided job l d queue files (settled_files actor d) 0 (λ n. sym (s.settles n)) here) (stop_safe job d x e y last part whole)

    pub bracket-covered : (queue : List (List Edit)) → MayTake queue → Covers d queue files owners es
    bracket-covered queue may = record { moments = λ x y is. moment-of queue may x y is; stops = λ x y e part is. stop-of queue may x e y part is }
