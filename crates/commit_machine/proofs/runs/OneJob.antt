-- What is due after one job or one stretch, where a run makes several.
use Rattle.std.proofs.Common.{◌≡◌, ◌⊎◌, ℕ, ℤ, suc, ◌≤◌, Bool, true, false, List, [], ◌∷◌, ◌++◌, Option, Some, None, ◌&&◌, if◌then◌else◌, refl, ap, sym, subst, inl, inr, ◌∙◌, arith, append_assoc}
use Rattle.std.proofs.lemmas.Bool.{cases_Bool}
use Rattle.std.proofs.lemmas.List.{append-nil}
use Rattle.std.specs.Str.{bytes_eq}
use Rattle.commit_record.specs.declared.record.Record.{Record}
use Rattle.host_port.specs.declared.event.Event.{Event}
use Rattle.host_port.specs.declared.event.Event.TheVariants as event
use Rattle.host_port.specs.declared.event.Part.{Part}
use Rattle.host_port.specs.Disk.{Disk, after, after_step, disk}
use Rattle.host_port.specs.Ends.{is_after, cut_short}
use Rattle.host_port.specs.Own.{own, OnlyLooks}
use Rattle.host_port.specs.Ran.{Honest}
use Rattle.host_port.proofs.RanLemmas.{own-append, Honest-append}
use Rattle.commit_machine.specs.Names.{new_name, record_name}
use Rattle.commit_machine.specs.Records.{record_in}
use Rattle.commit_machine.specs.Settled.{Files, Locks}
use Rattle.commit_machine.specs.Jobs.{Ending, Refusal, Edit, Job, at_time, edits_of, outcome_of}
use Rattle.commit_machine.specs.Machine.{State, Seizing, Ended, is_own_go, next, after_reply}
use Rattle.commit_machine.specs.Goes.{Goes, reply}
use Rattle.commit_machine.specs.Lawful.{IsSound, IsFresh, OthersAreLawful}
use Rattle.commit_machine.specs.Due.{settled_files, settled_locks, applied, is_decision, files_then, files_after, locks_then, locks_after, same_file, same_lock, renewed}
use Rattle.commit_machine.specs.Laws.{IsRun, IsSettledAs, IsDue, MetNoFault, in_flight, decisions}
use Rattle.commit_machine.specs.Rows.{job_as, first_edits, later_edits, first_job, queue_then, queue_after, run_files, run_locks, IsBracket}
use Rattle.commit_machine.proofs.standing.Lawful.{lawful_keeps}
use Rattle.commit_machine.proofs.standing.Others.{others_knows}
use Rattle.commit_machine.proofs.runs.Moments.{crash_safe, nothing_left, file_true, lock_true, renewed_is}
use Rattle.commit_machine.proofs.runs.Stops.{cut_next, cut_agrees}
use Rattle.commit_machine.proofs.runs.Ends.{run_front, front_is_run}
use Rattle.commit_machine.proofs.runs.Stretches.{stretches_join}
use Rattle.commit_machine.proofs.told.Decisions.{few_decisions}

-- files that are the same, name by name
abbrev pub Same : {A : Type 0} → (List ℕ → Option A) → (List ℕ → Option A) → Type 0
Same f g = (n : List ℕ) → f n ≡ g n

pub applied-same : (es : List Edit) (f g : Files) (n : List ℕ) → f n ≡ g n → applied es f n ≡ applied es g n
applied-same [] f g n e = e
applied-same (x ∷ es) f g n e = elim (cases_Bool (bytes_eq n x.name)) [ inl y ↦ rw y (ap (outcome_of x) e) | inr nay ↦ rw nay (applied-same es f g n e) ]

pub if-same : {A : Type 0} (b c : Bool) (x y u v : A) → b ≡ c → x ≡ u → y ≡ v → (if b then x else y) ≡ (if c then u else v)
if-same true true x y u v e p q = p
if-same false false x y u v e p q = q
if-same true false x y u v e p q = absurd (cc)
if-same false true x y u v e p q = absurd (cc)

pub own-go-same : (j : Job) (queue : List (List Edit)) (o : Option Record) → is_own_go (first_job j.actor j.token queue) o ≡ is_own_go j o
own-go-same j queue None = refl
own-go-same j queue (Some r) = refl

-- the first job of a queue decides as any of its actor and token
pub decides-same : (j : Job) (queue : List (List Edit)) (e : Event) (d : Disk) → is_decision (first_job j.actor j.token queue) e d ≡ is_decision j e d
decides-same j queue (event.Publish from to true failed) d =
    ap (λ (b : Bool). (bytes_eq from (new_name j.actor) && bytes_eq to (record_name j.actor)) && b) (own-go-same j queue (record_in (d.files (new_name j.actor))))
decides-same j queue (event.Publish from to false failed) d = refl
decides-same j queue e d = refl

-- where nothing is decided, or the first edits are those of the job, the same is due
pub then-same : (j : Job) (queue : List (List Edit)) (e : Event) (d : Disk) (f g : Files) → Same f g
    → (is_decision j e d ≡ false) ⊎ (first_edits queue ≡ edits_of j) → Same (files_then (first_job j.actor j.token queue) e d f) (files_then j e d g)
then-same j queue (event.Foreign step) d f g same why n = ap (renewed same_file (settled_files j.actor d n) (settled_files j.actor (after_step d step) n)) (same n)
then-same j queue e d f g same (inl nay) n =
    ap (λ (b : Bool). if b then applied (first_edits queue) f n else f n) (decides-same j queue e d ∙ nay) ∙ same n ∙ sym (ap (λ (b : Bool). if b then applied (edits_of j) g n else g n) nay)
then-same j queue e d f g same (inr is) n =
    if-same (is_decision (first_job j.actor j.token queue) e d) (is_decision j e d) (applied (first_edits queue) f n) (f n) (applied (edits_of j) g n) (g n) (decides-same j queue e d)
    (ap (λ (es : List Edit). applied es f n) is ∙ applied-same (edits_of j) f g n (same n)) (same n)

pub queue-stays : (j : Job) (queue : List (List Edit)) (e : Event) (d : Disk) → is_decision j e d ≡ false → queue_then j.actor j.token queue e d ≡ queue
queue-stays j queue e d nay = ap (λ (b : Bool). if b then later_edits queue else queue) (decides-same j queue e d ∙ nay)

pub queue-goes : (j : Job) (queue : List (List Edit)) (e : Event) (d : Disk) → is_decision j e d ≡ true → queue_then j.actor j.token queue e d ≡ later_edits queue
queue-goes j queue e d y = ap (λ (b : Bool). if b then later_edits queue else queue) (decides-same j queue e d ∙ y)

pub never-fewer : (j : Job) (es : List Event) (d : Disk) (n : ℕ) → n ≤ decisions j d n es
never-fewer j [] d n = omega arith
never-fewer j (e ∷ es) d n = elim (cases_Bool (is_decision j e d)) [
  | inl y ↦ (let more = never-fewer j es (after d e) (suc n) in rw y (omega (arith, more)))
  | inr nay ↦ (let more = never-fewer j es (after d e) n in rw nay more)
]

pub counted-yes : (j : Job) (e : Event) (es : List Event) (d : Disk) (n : ℕ) → is_decision j e d ≡ true → decisions j d n (e ∷ es) ≡ decisions j (after d e) (suc n) es
counted-yes j e es d n y = ap (λ (b : Bool). decisions j (after d e) (if b then suc n else n) es) y

pub counted-no : (j : Job) (e : Event) (es : List Event) (d : Disk) (n : ℕ) → is_decision j e d ≡ false → decisions j d n (e ∷ es) ≡ decisions j (after d e) n es
counted-no j e es d n nay = ap (λ (b : Bool). decisions j (after d e) (if b then suc n else n) es) nay

-- what a run has due and what is left of its queue, where a job is alone
pub record Alike (j : Job) (d : Disk) (queue left : List (List Edit)) (f g : Files) (es : List Event) : Type 0 where
  pub files : Same (run_files j.actor j.token d queue f es) (files_after j d g es)
  pub rest : queue_after j.actor j.token d queue es ≡ left

pub alike-on : (j : Job) (d : Disk) (queue now left : List (List Edit)) (f g : Files) (e : Event) (es : List Event)
    → queue_then j.actor j.token queue e d ≡ now → Alike j (after d e) now left (files_then (first_job j.actor j.token queue) e d f) (files_then j e d g) es → Alike j d queue left f g (e ∷ es)
alike-on j d queue now left f g e es is more = record {
  files = λ n. ap (λ (q : List (List Edit)). run_files j.actor j.token (after d e) q (files_then (first_job j.actor j.token queue) e d f) es n) is ∙ more.files n;
  rest = ap (λ (q : List (List Edit)). queue_after j.actor j.token (after d e) q es) is ∙ more.rest;
}

pub undecided : (j : Job) (es : List Event) (d : Disk) (queue : List (List Edit)) (f g : Files) (n : ℕ) → Same f g → decisions j d n es ≡ n → Alike j d queue queue f g es
undecided j [] d queue f g n same none = record { files = same; rest = refl }
undecided j (e ∷ es) d queue f g n same none = elim (cases_Bool (is_decision j e d)) [
  | inl y ↦ absurd (let more = never-fewer j es (after d e) (suc n) in let k = counted-yes j e es d n y in omega (arith, more, k, none))
  | inr nay ↦ alike-on j d queue queue queue f g e es (queue-stays j queue e d nay)
      (undecided j es (after d e) queue (files_then (first_job j.actor j.token queue) e d f) (files_then j e d g) n (then-same j queue e d f g same (inl nay)) (sym (counted-no j e es d n nay) ∙ none))
]

pub decided : (j : Job) (es : List Event) (d : Disk) (more : List (List Edit)) (f g : Files) (n : ℕ) → Same f g → decisions j d n es ≡ suc n → Alike j d (edits_of j ∷ more) more f g es
decided j [] d more f g n same one = absurd (omega (arith, one))
decided j (e ∷ es) d more f g n same one = elim (cases_Bool (is_decision j e d)) [
  | inl y ↦ alike-on j d (edits_of j ∷ more) more more f g e es (queue-goes j (edits_of j ∷ more) e d y)
      (undecided j es (after d e) more (files_then (first_job j.actor j.token (edits_of j ∷ more)) e d f) (files_then j e d g) (suc n)
      (then-same j (edits_of j ∷ more) e d f g same (inr refl)) (sym (counted-yes j e es d n y) ∙ one))
  | inr nay ↦ alike-on j d (edits_of j ∷ more) (edits_of j ∷ more) more f g e es (queue-stays j (edits_of j ∷ more) e d nay)
      (decided j es (after d e) more (files_then (first_job j.actor j.token (edits_of j ∷ more)) e d f) (files_then j e d g) n
      (then-same j (edits_of j ∷ more) e d f g same (inl nay)) (sym (counted-no j e es d n nay) ∙ one))
]

-- the locks due are those of others, whatever the job
pub locks-alike : (j : Job) (queue : List (List Edit)) (es : List Event) (d : Disk) (f g : Locks) → Same f g → Same (locks_after (first_job j.actor j.token queue) d f es) (locks_after j d g es)
locks-alike j queue [] d f g same n = same n
locks-alike j queue (event.Foreign step ∷ es) d f g same n =
    locks-alike j queue es (after_step d step) (locks_then (first_job j.actor j.token queue) (event.Foreign step) d f) (locks_then j (event.Foreign step) d g)
    (λ m. ap (renewed same_lock (settled_locks j.actor d m) (settled_locks j.actor (after_step d step) m)) (same m)) n
locks-alike j queue (e ∷ es) d f g same n = locks-alike j queue es (after d e) f g same n

-- one stretch after the other
pub files-split : (actor : List ℕ) (token : ℕ) (xs ys : List Event) (d : Disk) (queue : List (List Edit)) (f : Files) (n : List ℕ)
    → run_files actor token d queue f (xs ++ ys) n ≡ run_files actor token (disk d xs) (queue_after actor token d queue xs) (run_files actor token d queue f xs) ys n
files-split actor token [] ys d queue f n = refl
files-split actor token (e ∷ xs) ys d queue f n = files-split actor token xs ys (after d e) (queue_then actor token queue e d) (files_then (first_job actor token queue) e d f) n

pub queue-split : (actor : List ℕ) (token : ℕ) (xs ys : List Event) (d : Disk) (queue : List (List Edit))
    → queue_after actor token d queue (xs ++ ys) ≡ queue_after actor token (disk d xs) (queue_after actor token d queue xs) ys
queue-split actor token [] ys d queue = refl
queue-split actor token (e ∷ xs) ys d queue = queue-split actor token xs ys (after d e) (queue_then actor token queue e d)

pub locks-split : (actor : List ℕ) (token : ℕ) (xs ys : List Event) (d : Disk) (f : Locks) (n : List ℕ)
    → run_locks actor token d f (xs ++ ys) n ≡ run_locks actor token (disk d xs) (run_locks actor token d f xs) ys n
locks-split actor token [] ys d f n = refl
locks-split actor token (e ∷ xs) ys d f n = locks-split actor token xs ys (after d e) (locks_then (first_job actor token []) e d f) n

module _ (actor : List ℕ) (token : ℕ) where
  -- what holds between pieces: what was due so far is settled, and nothing carries the token
  pub record Stands (d : Disk) (files : Files) (owners : Locks) : Type 0 where
    pub settles : Same (settled_files actor d) files
    pub locked : Same (settled_locks actor d) owners
    pub sound : IsSound actor d
    pub fresh : IsFresh actor token d

  abbrev pub Due : Disk → List (List Edit) → Files → Locks → List Event → Disk → Type 0
  Due d queue files owners es now = IsSettledAs actor now (run_files actor token d queue files es) (run_locks actor token d owners es)

  -- what a piece leaves, and what of the queue
  pub record Leaves (d : Disk) (queue left : List (List Edit)) (files : Files) (owners : Locks) (es : List Event) : Type 0 where
    pub due : Due d queue files owners es (disk d es)
    pub fresh : IsFresh actor token (disk d es)
    pub rest : queue_after actor token d queue es ≡ left

  -- events that only look
  pub between : (es : List Event) (d : Disk) (queue : List (List Edit)) (files : Files) (owners : Locks) → Stands d files owners → OnlyLooks (own es)
      → OthersAreLawful actor token d es → Leaves d queue queue files owners es
  between [] d queue files owners s looks lawful = record { due = record { same_files = s.settles; same_locks = s.locked; sound = s.sound }; fresh = s.fresh; rest = refl }
  between (event.Foreign f ∷ es) d queue files owners s looks lawful =
      let j = first_job actor token queue in
      let more = between es (after_step d f) queue (files_then j (event.Foreign f) d files) (locks_then j (event.Foreign f) d owners) (record {
        settles = λ n. renewed_is same_file file_true (settled_files actor d n) (settled_files actor (after_step d f) n) (files n) (s.settles n);
        locked = λ n. renewed_is same_lock lock_true (settled_locks actor d n) (settled_locks actor (after_step d f) n) (owners n) (s.locked n);
        sound = lawful.1;
        fresh = others_knows j d (after_step d f) (lawful_keeps actor token d f lawful.0) Seizing s.fresh;
      }) looks lawful.2 in
      record { due = record { same_files = more.due.same_files; same_locks = more.due.same_locks; sound = more.due.sound }; fresh = more.fresh; rest = more.rest }
  between (event.In bytes failed ∷ es) d queue files owners s looks lawful = let more = between es d queue files owners s looks.1 lawful in
      record { due = more.due; fresh = more.fresh; rest = more.rest }
  between (event.Out bytes failed ∷ es) d queue files owners s looks lawful = let more = between es d queue files owners s looks.1 lawful in
      record { due = more.due; fresh = more.fresh; rest = more.rest }
  between (event.Child program args input answer failed ∷ es) d queue files owners s looks lawful = let more =
      between es d queue files owners s looks.1 lawful in record { due = more.due; fresh = more.fresh; rest = more.rest }
  between (event.Edit name shell command text answer failed ∷ es) d queue files owners s looks lawful = let more =
      between es d queue files owners s looks.1 lawful in record { due = more.due; fresh = more.fresh; rest = more.rest }
  between (event.Now seconds ∷ es) d queue files owners s looks lawful = let more = between es d queue files owners s looks.1 lawful in record { due = more.due; fresh = more.fresh; rest = more.rest }
  between (event.Load name seen ∷ es) d queue files owners s looks lawful = let more = between es d queue files owners s looks.1 lawful in
      record { due = more.due; fresh = more.fresh; rest = more.rest }
  between (e ∷ es) d queue files owners s looks lawful = absurd (let h = looks.0 in (cc h))

  -- the events of a bracket are a run of its job
  pub run-of : (edits : Option (List Edit)) (refusal : Files → Option Refusal) (d : Disk) (last : State) (es : List Event) (files : Files) (owners : Locks) → Stands d files owners
      → (b : IsBracket actor token d edits refusal last es) → IsRun (at_time b.time (job_as actor token edits refusal)) d es last
  run-of edits refusal d last es files owners s b = record { job = b.job; fresh = s.fresh; sound = s.sound; goes = b.goes; honest = b.honest; lawful = b.lawful }

  module _ (edits : Option (List Edit)) (refusal : Files → Option Refusal) (time : Option ℤ) where
    abbrev pub job : Job
    job = at_time time (job_as actor token edits refusal)

    -- what is due after a stretch of the job, as the run has it
    pub due-as : (d now : Disk) (queue left : List (List Edit)) (files : Files) (owners : Locks) (es : List Event) → Stands d files owners
        → Alike job d queue left files (settled_files actor d) es → IsDue job d es now → Due d queue files owners es now
    due-as d now queue left files owners es s a due = record {
      same_files = λ n. due.same_files n ∙ sym (a.files n);
      same_locks = λ n. due.same_locks n ∙ sym (locks-alike job [] es d owners (settled_locks actor d) (λ m. sym (s.locked m)) n);
      sound = due.sound;
    }

    -- whether it was decided so far or not
    pub one-at-most : (d : Disk) (more : List (List Edit)) (files : Files) (owners : Locks) (es : List Event) (last : State) → Stands d files owners
        → IsRun job d es last → (left : List (List Edit)) × Alike job d (edits_of job ∷ more) left files (settled_files actor d) es
    one-at-most d more files owners es last s run = elim (few_decisions job d es last run) [
      | inl none ↦ (edits_of job ∷ more, undecided job es d (edits_of job ∷ more) files (settled_files actor d) 0 (λ n. sym (s.settles n)) none)
      | inr one ↦ (more, decided job es d more files (settled_files actor d) 0 (λ n. sym (s.settles n)) one)
    ]

    -- a job that ends without a fault
    pub whole : (d : Disk) (queue left : List (List Edit)) (files : Files) (owners : Locks) (es : List Event) (end : Ending) → Stands d files owners
        → IsRun job d es (Ended end) → MetNoFault end → Alike job d queue left files (settled_files actor d) es → Leaves d queue left files owners es
    whole d queue left files owners es end s run fine a =
        record { due = due-as d (disk d es) queue left files owners es s a (crash_safe job d es (Ended end) run); fresh = nothing_left job d es end fine run; rest = a.rest }

    pub not-decided : (d : Disk) (queue : List (List Edit)) (files : Files) (owners : Locks) (es : List Event) (end : Ending) → Stands d files owners
        → IsRun job d es (Ended end) → MetNoFault end → decisions job d 0 es ≡ 0 → Leaves d queue queue files owners es
    not-decided d queue files owners es end s run fine none =
        whole d queue queue files owners es end s run fine (undecided job es d queue files (settled_files actor d) 0 (λ n. sym (s.settles n)) none)

    pub was-decided : (d : Disk) (more : List (List Edit)) (files : Files) (owners : Locks) (es : List Event) (end : Ending) → Stands d files owners
        → IsRun job d es (Ended end) → MetNoFault end → decisions job d 0 es ≡ 1 → Leaves d (edits_of job ∷ more) more files owners es
    was-decided d more files owners es end s run fine one =
        whole d (edits_of job ∷ more) more files owners es end s run fine (decided job es d more files (settled_files actor d) 0 (λ n. sym (s.settles n)) one)

  pub after-piece : (d : Disk) (queue left : List (List Edit)) (files : Files) (owners : Locks) (es : List Event)
      → Leaves d queue left files owners es → Stands (disk d es) (run_files actor token d queue files es) (run_locks actor token d owners es)
  after-piece d queue left files owners es l = record { settles = l.due.same_files; locked = l.due.same_locks; sound = l.due.sound; fresh = l.fresh }

  -- what is due after one stretch and then another
  pub due-then : (d now : Disk) (queue left : List (List Edit)) (files : Files) (owners : Locks) (xs ys : List Event) → queue_after actor token d queue xs ≡ left
      → Due (disk d xs) left (run_files actor token d queue files xs) (run_locks actor token d owners xs) ys now → Due d queue files owners (xs ++ ys) now
  due-then d now queue left files owners xs ys rest due = record {
    same_files = λ n. due.same_files n ∙ sym
        (files-split actor token xs ys d queue files n ∙ ap (λ (q : List (List Edit)). run_files actor token (disk d xs) q (run_files actor token d queue files xs) ys n) rest);
    same_locks = λ n. due.same_locks n ∙ sym (locks-split actor token xs ys d owners n);
    sound = due.sound;
  }

pub lawful-append : (actor : List ℕ) (token : ℕ) (xs ys : List Event) (d : Disk) → OthersAreLawful actor token d xs
    → OthersAreLawful actor token (disk d xs) ys → OthersAreLawful actor token d (xs ++ ys)
lawful-append actor token [] ys d h more = more
lawful-append actor token (event.Foreign f ∷ xs) ys d h more = (h.0, h.1, lawful-append actor token xs ys (after_step d f) h.2 more)
lawful-append actor token (e ∷ xs) ys d h more = lawful-append actor token xs ys (after d e) h more

-- a run with one more call that fails
pub run-cut : (j : Job) (d : Disk) (before : List Event) (mid now : State) (c : Event) → IsRun j d before mid → Goes j mid (c ∷ []) now
    → own (c ∷ []) ≡ c ∷ [] → Honest (disk d before) (c ∷ []) → OthersAreLawful j.actor j.token (disk d before) (c ∷ []) → IsRun j d (before ++ c ∷ []) now
run-cut j d before mid now c run goes mine honest lawful = record {
  job = run.job;
  fresh = run.fresh;
  sound = run.sound;
  goes = subst (λ (es : List Event). Goes j Seizing es now) (sym (own-append before (c ∷ []) ∙ ap (λ (es : List Event). own before ++ es) mine))
      (stretches_join j Seizing mid now (own before) (c ∷ []) run.goes goes);
  honest = Honest-append d before (c ∷ []) run.honest honest;
  lawful = lawful-append j.actor j.token before (c ∷ []) d run.lawful lawful;
}

pub honest-back : (xs ys : List Event) (d : Disk) → Honest d (xs ++ ys) → Honest (disk d xs) ys
honest-back [] ys d h = h
honest-back (x ∷ xs) ys d h = honest-back xs ys (after d x) h.1

-- a run with what an image of a stop holds of its next event is a run
pub flight : (j : Job) (d : Disk) (before : List Event) (e : Event) (rest : List Event) (last : State) (part : Part)
    → IsRun j d (before ++ e ∷ rest) last → (now : State) × IsRun j d (before ++ in_flight (disk d before) e part) now
flight j d before (event.Foreign f) rest last part run = go (is_after part)
  where
    go : (b : Bool) → (now : State) × IsRun j d (before ++ (if b then event.Foreign f ∷ [] else [])) now
    go true = front_is_run j d (before ++ event.Foreign f ∷ []) rest last (subst (λ (es : List Event). IsRun j d es last) (sym (append_assoc before (event.Foreign f ∷ []) rest)) run)
    go false = let w = front_is_run j d before (event.Foreign f ∷ rest) last run in (w.0, subst (λ (es : List Event). IsRun j d es w.0) (sym (append-nil before)) w.1)
flight j d before e rest last part run =
    let w = run_front j d before (e ∷ rest) last run in
    let goes = w.2 in
    let c = cut_short (disk d before) e part in
    let agrees : Honest (disk d before) (e ∷ rest) = honest-back before (e ∷ rest) d run.honest in
    let is = cut_next (disk d before) part (next j goes.0) e goes.2 in
    (after_reply j goes.0 (reply c), run-cut j d before w.0 (after_reply j goes.0 (reply c)) c w.1 (goes.0, goes.1, is, inl refl) refl (cut_agrees (disk d before) e part agrees.0, tt) tt)

pub looks-front : (xs ys : List Event) → OnlyLooks (own (xs ++ ys)) → OnlyLooks (own xs)
looks-front [] ys h = tt
looks-front (event.Foreign f ∷ xs) ys h = looks-front xs ys h
looks-front (e ∷ xs) ys h = (h.0, looks-front xs ys h.1)

pub looks-back : (xs ys : List Event) → OnlyLooks (own (xs ++ ys)) → OnlyLooks (own ys)
looks-back [] ys h = h
looks-back (event.Foreign f ∷ xs) ys h = looks-back xs ys h
looks-back (e ∷ xs) ys h = looks-back xs ys h.1
