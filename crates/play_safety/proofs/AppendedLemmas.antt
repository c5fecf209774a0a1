-- What others appended follows the rewritten messages.
use Rattle.std.proofs.Common.{◌≡◌, ◌≢◌, ℕ, zero, suc, ◌<◌, ◌≤◌, ◌+◌, Bool, true, false, List, [], ◌∷◌, ◌++◌, Option, Some, None, Result, Ok, Err, MatchResult, map, length, if◌then◌else◌, refl, ap, sym, subst, inl, inr, ◌∙◌, arith, append_assoc, length-append}
use Rattle.std.specs.List.{All}
use Rattle.std.proofs.lemmas.Bool.{cases_Bool}
use Rattle.std.proofs.lemmas.List.{append-nil, map-append, length-map}
use Rattle.host_port.specs.declared.event.Event.{Event}
use Rattle.host_port.specs.declared.event.Event.TheVariants as event
use Rattle.host_port.specs.declared.event.Part.{Part}
use Rattle.host_port.specs.Disk.{Disk, after_step, disk}
use Rattle.host_port.specs.Disk as host
use Rattle.host_port.specs.Ends.{stopped, is_after}
use Rattle.mbox_scan.specs.Mailbox.{IsProper}
use Rattle.folder_change.specs.declared.change.Change.{Change}
use Rattle.folder_change.specs.declared.change.Change.TheVariants.{Rewrite, Add}
use Rattle.folder_change.specs.Changes.{name_of}
use Rattle.folder_change.specs.Outcomes.{outcome_of, rewrite_of}
use Rattle.folder_change.specs.ListLaws.{list_of_file, list_after}
use Rattle.folder_change.specs.Apply.{put_outcome, after, apply}
use Rattle.folder_change.proofs.ApplyLemmas.{put-here, after-other, apply-alone, apply-append, apply-other}
use Rattle.folder_change.proofs.LawLemmas.{add-appends, rewrite-keeps, rewrite-by_base}
use Rattle.commit_machine.specs.Settled.{Files}
use Rattle.commit_machine.specs.Jobs.{Edit, Job, edits_of}
use Rattle.commit_machine.specs.Edits.{edits_for}
use Rattle.commit_machine.specs.Due.{settled_files, applied, is_decision, same_file, renewed, files_then}
use Rattle.commit_machine.specs.Laws.{in_flight, decisions}
use Rattle.commit_machine.specs.Rows.{later_edits, first_job, queue_then, queue_after, run_files, IsRunDue}
use Rattle.commit_machine.proofs.records.Edits.{edits_are_changes}
use Rattle.commit_machine.proofs.records.Same.{same_refl}
use Rattle.commit_machine.proofs.runs.OneJob.{decides-same, never-fewer, counted-yes, counted-no, queue-stays, queue-goes, files-split}
use Rattle.session_play.specs.Committing.{Commit}
use Rattle.session_play.specs.declared.stop.Stop.{Stop}
use Rattle.play_safety.specs.Passes.{Commits}
use Rattle.play_safety.specs.Safe.{queue, queue_of, IsCrashSafe}
use Rattle.play_safety.specs.Appended.{IsLeft, at_moment, at_stop, Decides, LeaveAlone, IsOnlyOne, Adds, nothing, passes, puts, AddsAndRewrites, IsRewritten, AcceptedAreDecided, RewritesAreFollowed, AddsFollow, AddsAreFollowed, AreFollowed, AppendedFollows}
use Rattle.play_safety.proofs.TraceLemmas.{decisions-from, decisions-then, Stands-in, stands-in}

-- ---- a file and one change of it
listed : (files : Files) (n : List ℕ) (o : Result (Option (List ℕ)) ℕ) (l : List (List ℕ)) → list_after o ≡ Some l → list_of_file (put_outcome files n o n) ≡ Some l
listed files n (Ok file) l h = ap list_of_file (put-here files n file) ∙ h
listed files n (Err at) l h = absurd (cc h)

kept : (files : Files) (n : List ℕ) (P : Option (List ℕ) → Type 0) (Q : ℕ → Type 0) (o : Result (Option (List ℕ)) ℕ) → MatchResult o P Q
    → ((file : Option (List ℕ)) → P file → ⊥) → put_outcome files n o n ≡ files n
kept files n P Q (Ok file) m other = absurd (other file m)
kept files n P Q (Err at) m other = refl

module _ (files : Files) (n : List ℕ) (list base : List (List ℕ)) (keep : Bool) where
  abbrev this : Change
  this = Rewrite n list keep

  -- bytes that have no list are no mailbox, and stay
  no-list : list_of_file (files n) ≡ None → after files this base n ≡ files n
  unfolding outcome_of rewrite_of
  no-list none = ap (λ (o : Option (List (List ℕ))). put_outcome files n (rewrite_of o list keep base) n) none

  stays-so : (now : Option (List (List ℕ))) → list_of_file (files n) ≡ now → ((appended : List (List ℕ)) → list_of_file (files n) ≢ Some (base ++ appended)) → after files this base n ≡ files n
  stays-so None is other = no-list is
  stays-so (Some now) is other =
      kept files n _ _ (outcome_of (files n) this base) (rewrite-by_base (files n) n now list base keep is)
      (λ file p. other p.0 (is ∙ ap (λ (l : List (List ℕ)). Some l) p.1))

  rewritten-so : All IsProper list → IsRewritten base list (files n) (after files this base n)
  rewritten-so proper = record {
    follows = λ appended is. listed files n (outcome_of (files n) this base) (list ++ appended) (rewrite-keeps (files n) n list base appended keep is proper);
    stays = λ other. stays-so (list_of_file (files n)) refl other;
  }

-- what a change makes of a file depends on no other file
after-alone : (files others : Files) (change : Change) (base : List (List ℕ)) (n : List ℕ) → files n ≡ others n → after files change base n ≡ after others change base n
unfolding apply
after-alone files others change base n e = apply-alone (change ∷ []) base files others n e

-- the only change of a file makes of it what all make
only-one : (change : Change) (changes : List Change) (base : List (List ℕ)) (files : Files) → IsOnlyOne change changes
    → apply changes base files (name_of change) ≡ after files change base (name_of change)
unfolding apply
only-one change changes base files one =
    let n = name_of change in
    let mid = apply one.front base files in
    let before : mid n ≡ files n = apply-other one.front base files n one.others.0 in
    ap (λ (cs : List Change). apply cs base files n) one.is
    ∙ ap (λ (f : Files). f n) (apply-append one.front (change ∷ one.rest) base files)
    ∙ apply-other one.rest base (after mid change base) n one.others.1
    ∙ after-alone mid files change base n before

-- what is added follows what was there
adds-behind : {n : List ℕ} {changes : List Change} {added : List (List ℕ)} → Adds n changes added → (base : List (List ℕ)) (files : Files) (before : List (List ℕ))
    → list_of_file (files n) ≡ Some before → list_of_file (apply changes base files n) ≡ Some (before ++ added)
unfolding apply
adds-behind nothing base files before is = is ∙ ap (λ (l : List (List ℕ)). Some l) (sym (append-nil before))
adds-behind {n = n} (passes {change = change} apart adds) base files before is =
    adds-behind adds base (after files change base) before (ap list_of_file (after-other files change base n apart) ∙ is)
adds-behind {n = n} (puts {more = more} {texts = texts} proper adds) base files before is =
    adds-behind adds base (after files (Add n more) base) (before ++ more)
    (listed files n (outcome_of (files n) (Add n more) base) (before ++ more) (add-appends (files n) n before more base is proper))
    ∙ ap (λ (l : List (List ℕ)). Some l) (append_assoc before more texts)

-- and it stays behind what others appended if the file is rewritten then
adds-rewritten : (n : List ℕ) (added list appended base : List (List ℕ)) (keep : Bool) (changes : List Change) (files : Files) → AddsAndRewrites n added list keep changes → All IsProper list
    → list_of_file (files n) ≡ Some (base ++ appended) → list_of_file (apply changes base files n) ≡ Some (list ++ (appended ++ added))
unfolding apply
adds-rewritten n added list appended base keep changes files both proper is =
    let this = Rewrite n list keep in
    let mid = apply both.front base files in
    let held : list_of_file (mid n) ≡ Some (base ++ (appended ++ added)) =
    adds-behind both.adds base files (base ++ appended) is ∙ ap (λ (l : List (List ℕ)). Some l) (append_assoc base appended added) in
    ap (λ (cs : List Change). list_of_file (apply cs base files n)) both.is
    ∙ ap (λ (f : Files). list_of_file (f n)) (apply-append both.front (this ∷ both.rest) base files)
    ∙ ap list_of_file (apply-other both.rest base (after mid this base) n both.others)
    ∙ (rewritten-so mid n list base keep proper).follows (appended ++ added) held

-- ---- the queue, and what is due after a decision
module _ (actor : List ℕ) (token : ℕ) where
  abbrev any : Job
  any = first_job actor token []

  taken : (front : List Event) (d : Disk) (qs rest : List (List Edit))
      → ((ps : List (List Edit)) → decisions any d 0 front ≡ length ps → queue_after actor token d (ps ++ rest) front ≡ rest)
      → decisions any d 1 front ≡ length qs → queue_after actor token d (later_edits (qs ++ rest)) front ≡ rest
  taken front d [] rest more n = absurd (let k = never-fewer any front d 1 in omega (arith, k, n))
  taken front d (q ∷ qs) rest more n = more qs (let k = decisions-from any front d 1 in omega (arith, k, n))

  -- each decision takes the first edits of the queue
  queue-left : (front : List Event) (d : Disk) (qs rest : List (List Edit)) → decisions any d 0 front ≡ length qs → queue_after actor token d (qs ++ rest) front ≡ rest
  queue-left [] d [] rest n = refl
  queue-left [] d (q ∷ qs) rest n = absurd (omega (arith, n))
  queue-left (e ∷ front) d qs rest n = elim (cases_Bool (is_decision any e d)) [
    | inl y ↦ ap (λ (q : List (List Edit)). queue_after actor token (host.after d e) q front) (queue-goes any (qs ++ rest) e d y)
        ∙ taken front (host.after d e) qs rest (λ ps k. queue-left front (host.after d e) ps rest k) (sym (counted-yes any e front d 0 y) ∙ n)
    | inr nay ↦ ap (λ (q : List (List Edit)). queue_after actor token (host.after d e) q front) (queue-stays any (qs ++ rest) e d nay)
        ∙ queue-left front (host.after d e) qs rest (sym (counted-no any e front d 0 nay) ∙ n)
  ]

  same-itself : (a : Option (List ℕ)) → same_file a a ≡ true
  same-itself None = refl
  same-itself (Some a) = same_refl a

  renewed-same : (old new value : Option (List ℕ)) → new ≡ old → renewed same_file old new value ≡ value
  renewed-same old new value is =
      ap (λ (w : Option (List ℕ)). renewed same_file old w value) is ∙ ap (λ (b : Bool). if b then value else old) (same-itself old)

  -- events that leave a file alone
  left-alone : (es : List Event) (d : Disk) (queue : List (List Edit)) (files : Files) (n : List ℕ) → LeaveAlone actor token n d es → run_files actor token d queue files es n ≡ files n
  left-alone [] d queue files n alone = refl
  left-alone (event.Foreign step ∷ es) d queue files n alone =
      let e = event.Foreign step in
      left-alone es (after_step d step) (queue_then actor token queue e d) (files_then (first_job actor token queue) e d files) n alone.1
      ∙ renewed-same (settled_files actor d n) (settled_files actor (after_step d step) n) (files n) alone.0
  left-alone (e ∷ es) d queue files n alone =
      left-alone es (host.after d e) (queue_then actor token queue e d) (files_then (first_job actor token queue) e d files) n alone.1
      ∙ ap (λ (b : Bool). if b then applied (edits_of (first_job actor token queue)) files n else files n) (decides-same any queue e d ∙ alone.0)

  files-decided : (j : Job) (e : Event) (d : Disk) (files : Files) (n : List ℕ) → is_decision j e d ≡ true → files_then j e d files n ≡ applied (edits_of j) files n
  files-decided j (event.Foreign step) d files n y = absurd (cc y)
  files-decided j e d files n y = ap (λ (b : Bool). if b then applied (edits_of j) files n else files n) y

  queued : (commits : Commits) (earlier later : List Commit) (c : Commit) → commits.accepted ++ commits.pending ≡ earlier ++ c ∷ later
      → queue commits ≡ queue_of earlier ++ (edits_for c.changes c.base ∷ queue_of later)
  queued commits earlier later c order =
      let f : Commit → List Edit = λ c. edits_for c.changes c.base in
      ap (map f) order ∙ map-append f earlier (c ∷ later)

  -- the files that are due after the decision of a commit
  made : (d : Disk) (files : Files) (commits : Commits) (front behind : List Event) (e : Event) (c : Commit) (n : List ℕ) → Decides actor token d commits front e c
      → LeaveAlone actor token n (host.after (disk d front) e) behind
      → run_files actor token d (queue commits) files (front ++ e ∷ behind) n ≡ apply c.changes c.base (run_files actor token d (queue commits) files front) n
  made d files commits front behind e c n decides alone =
      let f : Commit → List Edit = λ c. edits_for c.changes c.base in
      let w = disk d front in
      let before = run_files actor token d (queue commits) files front in
      let left = edits_for c.changes c.base ∷ queue_of decides.later in
      let j = first_job actor token left in
      let count : decisions any d 0 front ≡ length (queue_of decides.earlier) = decides.passed ∙ sym (length-map decides.earlier f) in
      let q : queue_after actor token d (queue commits) front ≡ left =
      ap (λ (q : List (List Edit)). queue_after actor token d q front) (queued commits decides.earlier decides.later c decides.order) ∙ queue-left front d (queue_of decides.earlier) left count in
      files-split actor token front (e ∷ behind) d (queue commits) files n
      ∙ ap (λ (q : List (List Edit)). run_files actor token w q before (e ∷ behind) n) q
      ∙ left-alone behind (host.after w e) (queue_then actor token left e w) (files_then j e w before) n alone
      ∙ files-decided j e w before n (decides-same any left e w ∙ decides.decision)
      ∙ edits_are_changes c.changes c.base before n

  -- ---- the disks that a run leaves
  flight-length : (w : Disk) (e : Event) (part : Part) → length (in_flight w e part) ≤ 1
  flight-length w (event.Foreign step) part = go (is_after part)
    where
      go : (b : Bool) → length (if b then event.Foreign step ∷ [] else []) ≤ 1
      go true = omega arith
      go false = omega arith
  flight-length w e part = omega arith

  front-empty : (fl c : List Event) (e : Event) (behind : List Event) → length fl ≤ 1 → fl ≡ c ++ e ∷ behind → c ≡ []
  front-empty fl [] e behind few is = refl
  front-empty fl (x ∷ c) e behind few is = absurd (let k = ap length is in let m = length-append c (e ∷ behind) in omega (arith, few, k, m))

  -- what stands before the decision is a front of the run
  pub front-of : (d : Disk) (es front behind : List Event) (e : Event) (now : Disk) → IsLeft d es (front ++ e ∷ behind) now → (rest : List Event) × (es ≡ front ++ rest)
  front-of d es front behind e now (at_moment rest is at) = (e ∷ (behind ++ rest), is ∙ append_assoc front (e ∷ behind) rest)
  front-of d es front behind e now (at_stop a b x part is l at) = go (stands-in a (in_flight (disk d a) x part) front e behind (sym l))
    where
      go : Stands-in a (in_flight (disk d a) x part) front e behind → (rest : List Event) × (es ≡ front ++ rest)
      go (inl (c, same)) = (e ∷ (c ++ x ∷ b), is ∙ ap (λ (l : List Event). l ++ x ∷ b) same ∙ append_assoc front (e ∷ c) (x ∷ b))
      go (inr (c, same, back)) =
          let none : c ≡ [] = front-empty (in_flight (disk d a) x part) c e behind (flight-length (disk d a) x part) back in
          (x ∷ b, is ∙ ap (λ (l : List Event). a ++ (l ++ x ∷ b)) (sym none) ∙ sym (append_assoc a c (x ∷ b)) ∙ ap (λ (l : List Event). l ++ x ∷ b) (sym same))

  pub left-due : {R : Type 0} (d : Disk) (es : List Event) (commits : Commits) (out : Result R Stop) (l : List Event) (now : Disk) → IsCrashSafe actor token d es commits out → IsLeft d es l now
      → IsRunDue actor token d (queue commits) l now
  left-due d es commits out l now safe (at_moment rest is at) = subst (λ (w : Disk). IsRunDue actor token d (queue commits) l w) (sym at) (safe.moments l rest is)
  left-due d es commits out l now safe (at_stop front rest e part is same at) =
      subst (λ (w : Disk). IsRunDue actor token d (queue commits) l w) (sym at)
      (subst (λ (m : List Event). IsRunDue actor token d (queue commits) m (stopped (disk d front) e part)) (sym same) (safe.stops front rest e part is))

  pub rewrites-followed : {R : Type 0} (d : Disk) (es : List Event) (commits : Commits) (out : Result R Stop) → IsCrashSafe actor token d es commits out → RewritesAreFollowed actor token d es commits
  rewrites-followed d es commits out safe front behind e now c n list keep left decides alone one proper =
      let f = front-of d es front behind e now left in
      let start = settled_files actor d in
      let due = left-due d es commits out (front ++ e ∷ behind) now safe left in
      let ahead = safe.moments front f.0 f.1 in
      let before = run_files actor token d (queue commits) start front in
      let settled = settled_files actor (disk d front) in
      let is : settled_files actor now n ≡ after settled (Rewrite n list keep) c.base n =
      due.same_files n ∙ made d start commits front behind e c n decides alone
      ∙ only-one (Rewrite n list keep) c.changes c.base before one
      ∙ after-alone before settled (Rewrite n list keep) c.base n (sym (ahead.same_files n)) in
      subst (IsRewritten c.base list (settled n)) (sym is) (rewritten-so settled n list c.base keep proper)

  -- what a commit makes of a file from its decision on
  pub left-made : {R : Type 0} (d : Disk) (es : List Event) (commits : Commits) (out : Result R Stop) → IsCrashSafe actor token d es commits out
      → (front behind : List Event) (e : Event) (now : Disk) (c : Commit) (n : List ℕ)
      → IsLeft d es (front ++ e ∷ behind) now → Decides actor token d commits front e c → LeaveAlone actor token n (host.after (disk d front) e) behind
      → settled_files actor now n ≡ apply c.changes c.base (settled_files actor (disk d front)) n
  left-made d es commits out safe front behind e now c n left decides alone =
      let f = front-of d es front behind e now left in
      let start = settled_files actor d in
      let due = left-due d es commits out (front ++ e ∷ behind) now safe left in
      let ahead = safe.moments front f.0 f.1 in
      let before = run_files actor token d (queue commits) start front in
      due.same_files n ∙ made d start commits front behind e c n decides alone ∙ apply-alone c.changes c.base before (settled_files actor (disk d front)) n (sym (ahead.same_files n))

  pub adds-follow : {R : Type 0} (d : Disk) (es : List Event) (commits : Commits) (out : Result R Stop) → IsCrashSafe actor token d es commits out → AddsFollow actor token d es commits
  adds-follow d es commits out safe front behind e now c n added before left decides alone adds is =
      ap list_of_file (left-made d es commits out safe front behind e now c n left decides alone) ∙ adds-behind adds c.base (settled_files actor (disk d front)) before is

  pub adds-followed : {R : Type 0} (d : Disk) (es : List Event) (commits : Commits) (out : Result R Stop) → IsCrashSafe actor token d es commits out → AddsAreFollowed actor token d es commits
  adds-followed d es commits out safe front behind e now c n added list appended keep left decides alone both proper is =
      ap list_of_file (left-made d es commits out safe front behind e now c n left decides alone)
      ∙ adds-rewritten n added list appended c.base keep c.changes (settled_files actor (disk d front)) both proper is

  -- a file of which the commit has no change is as it was
  pub others-left : {R : Type 0} (d : Disk) (es : List Event) (commits : Commits) (out : Result R Stop) → IsCrashSafe actor token d es commits out
      → (front behind : List Event) (e : Event) (now : Disk) (c : Commit) (n : List ℕ)
      → IsLeft d es (front ++ e ∷ behind) now → Decides actor token d commits front e c → LeaveAlone actor token n (host.after (disk d front) e) behind
      → All (λ change. n ≢ name_of change) c.changes → settled_files actor now n ≡ settled_files actor (disk d front) n
  others-left d es commits out safe front behind e now c n left decides alone others =
      let f = front-of d es front behind e now left in
      let start = settled_files actor d in
      let due = left-due d es commits out (front ++ e ∷ behind) now safe left in
      let ahead = safe.moments front f.0 f.1 in
      let before = run_files actor token d (queue commits) start front in
      due.same_files n ∙ made d start commits front behind e c n decides alone ∙ apply-other c.changes c.base before n others ∙ sym (ahead.same_files n)

  -- ---- each accepted commit has its decision
  abbrev Found : Disk → List Event → ℕ → Type 0
  Found d es k = (front : List Event) × (e : Event) × (rest : List Event) × (es ≡ front ++ e ∷ rest) × (decisions any d 0 front ≡ k) × (is_decision any e (disk d front) ≡ true)

  found-more : (e : Event) (es : List Event) (d : Disk) (k m : ℕ) → decisions any d 0 (e ∷ []) + k ≡ m → Found (host.after d e) es k → Found d (e ∷ es) m
  found-more e es d k m sum (front, x, rest, is, count, y) =
      (e ∷ front, x, rest, ap (λ (l : List Event). e ∷ l) is, (let s = decisions-then any (e ∷ []) front d in omega (arith, s, sum, count)), y)

  find : (es : List Event) (d : Disk) (k : ℕ) → k < decisions any d 0 es → Found d es k
  find [] d k few = absurd (omega (arith, few))
  find (e ∷ es) d k few = elim (cases_Bool (is_decision any e d)) [
    | inl y ↦ decided k y few (λ m less. find es (host.after d e) m less)
    | inr nay ↦
        let none = counted-no any e [] d 0 nay in
        let more = counted-no any e es d 0 nay in
        found-more e es d k k (omega (arith, none)) (find es (host.after d e) k (omega (arith, more, few)))
  ]
    where
      decided : (k : ℕ) → is_decision any e d ≡ true → k < decisions any d 0 (e ∷ es) → ((m : ℕ) → m < decisions any (host.after d e) 0 es → Found (host.after d e) es m) → Found d (e ∷ es) k
      decided zero y few more = ([], e, es, refl, refl, y)
      decided (suc m) y few more =
          let one = counted-yes any e [] d 0 y in
          let all = counted-yes any e es d 0 y in
          let sum = decisions-from any es (host.after d e) 1 in
          found-more e es d m (suc m) (omega (arith, one)) (more m (omega (arith, all, sum, few)))

  pub accepted-decided : {R : Type 0} (d : Disk) (es : List Event) (commits : Commits) (out : Result R Stop) → IsCrashSafe actor token d es commits out → AcceptedAreDecided actor token d es commits
  accepted-decided d es commits out safe earlier later c is =
      let whole : length commits.accepted ≡ length (earlier ++ c ∷ later) = ap length is in
      let parts = length-append earlier (c ∷ later) in
      let all = safe.decided in
      let (front, e, rest, at, count, y) = find es d (length earlier) (omega (arith, whole, parts, all)) in (
        front,
        e,
        rest,
        at,
        record {
          earlier = earlier;
          later = later ++ commits.pending;
          order = ap (λ (l : List Commit). l ++ commits.pending) is ∙ append_assoc earlier (c ∷ later) commits.pending;
          passed = count;
          decision = y;
        },
      )

pub all-followed : {R : Type 0} (actor : List ℕ) (token : ℕ) (d : Disk) (es : List Event) (commits : Commits) (out : Result R Stop)
    → IsCrashSafe actor token d es commits out → AreFollowed actor token d es commits
all-followed actor token d es commits out safe = record {
  accepted = accepted-decided actor token d es commits out safe;
  rewrites = rewrites-followed actor token d es commits out safe;
  adds = adds-follow actor token d es commits out safe;
  both = adds-followed actor token d es commits out safe;
}

pub appended_follows : AppendedFollows
appended_follows actor token d es commits out safe = all-followed actor token d es commits out safe
