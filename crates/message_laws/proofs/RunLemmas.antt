-- What becomes of a message in a run.
use Rattle.std.proofs.Common.{◌≡◌, ◌⊎◌, ℕ, zero, suc, ◌+◌, Bool, true, false, List, [], ◌∷◌, ◌++◌, map, length, get_or, if◌then◌else◌, refl, ap, sym, subst, inl, inr, ◌∙◌, arith, append_assoc, append-nil}
use Rattle.std.specs.Prelude.{take, drop, All, Some}
use Rattle.std.proofs.lemmas.Bool.{cases_Bool, true≢false}
use Rattle.std.proofs.lemmas.List.{drop-map}
use Rattle.std.proofs.lemmas.List.Elements.{All-drop, All-head, Contains-get_or}
use Rattle.host_port.specs.declared.event.Event.{Event}
use Rattle.host_port.specs.declared.event.Event.TheVariants as event
use Rattle.host_port.specs.declared.event.ForeignStep.{ForeignStep}
use Rattle.host_port.specs.Disk.{Disk, disk, after_step}
use Rattle.host_port.specs.Disk as host
use Rattle.host_port.proofs.RanLemmas.{disk-append}
use Rattle.folder_change.specs.declared.change.Change.{Change}
use Rattle.folder_change.specs.Changes.{name_of}
use Rattle.folder_change.specs.Apply.{Files, apply}
use Rattle.folder_change.specs.ListLaws.{list_of_file}
use Rattle.folder_change.proofs.ApplyLemmas.{apply-alone}
use Rattle.commit_machine.specs.Jobs.{Edit, Job, edits_of}
use Rattle.commit_machine.specs.Edits.{edits_for}
use Rattle.commit_machine.specs.Due.{settled_files, applied, is_decision, same_file, files_then}
use Rattle.commit_machine.specs.Laws.{decisions}
use Rattle.commit_machine.specs.Rows.{first_edits, later_edits, first_job, queue_after, run_files}
use Rattle.commit_machine.proofs.records.Edits.{edits_are_changes}
use Rattle.commit_machine.proofs.records.Same.{same_or_not}
use Rattle.commit_machine.proofs.runs.Moments.{file_true, renewed_is}
use Rattle.commit_machine.proofs.runs.OneJob.{decides-same, counted-yes, counted-no, queue-stays, queue-goes, files-split}
use Rattle.session_play.specs.declared.stop.Stop.{Stop}
use Rattle.session_play.specs.Committing.{Commit}
use Rattle.std.specs.declared.result.Result.{Result}
use Rattle.play_safety.specs.Passes.{Commits}
use Rattle.play_safety.specs.Safe.{queue, IsCrashSafe}
use Rattle.play_safety.specs.Appended.{IsLeft, at_moment, Decides}
use Rattle.play_safety.proofs.AppendedLemmas.{front-of, left-due, left-made}
use Rattle.play_safety.proofs.TraceLemmas.{decisions-from}
use Rattle.mailx_top.specs.Meaning.{actor_in}
use Rattle.commit_laws.specs.Kinds.{IsKnown}
use Rattle.commit_laws.proofs.RunLemmas.{commits_are_known}
use Rattle.run_laws.specs.Keeping.{IsPut}
use Rattle.message_laws.specs.Messages.{Stands, PutsOther, OnlyPutsMail, PutIsKept, GoesToMbox, IsDecided, SomeDecided, IsKept, stands, taken, OthersLeaveIt, MessagesAreKept}
use Rattle.message_laws.proofs.ChangeLemmas.{same_itself, stands_alike, IsPlainFor, plainly}
use Rattle.message_laws.proofs.LeavingLemmas.{Becomes}
use Rattle.message_laws.proofs.KindLemmas.{known_becomes}

-- ---- a list that is cut before an element
abbrev Parted : List Commit → ℕ → Commit → List Commit → Type 0
Parted cs k c later = (cs ≡ take k cs ++ c ∷ later) × (k ≡ length (take k cs))

parted : (cs : List Commit) (k : ℕ) (c : Commit) (later : List Commit) → drop k cs ≡ c ∷ later → Parted cs k c later
parted cs zero c later is = (is, refl)
parted [] (suc k) c later is = absurd (cc)
parted (x ∷ cs) (suc k) c later is = let more = parted cs k c later is in (ap (λ (l : List Commit). x ∷ l) more.0, (let count = more.1 in omega (arith, count)))

module _ (actor : List ℕ) (token : ℕ) where
  abbrev any : Job
  any = first_job actor token []

  -- each decision takes the first edits of the queue
  later_dropped : (k : ℕ) (q : List (List Edit)) → drop k (later_edits q) ≡ drop (suc k) q
  later_dropped zero [] = refl
  later_dropped (suc k) [] = refl
  later_dropped k (es ∷ q) = refl

  queue_dropped : (front : List Event) (d : Disk) (q : List (List Edit)) → queue_after actor token d q front ≡ drop (decisions any d 0 front) q
  queue_dropped [] d q = refl
  queue_dropped (e ∷ front) d q = elim (cases_Bool (is_decision any e d)) [
    | inl y ↦
        let k = decisions any (host.after d e) 0 front in
        let count : decisions any d 0 (e ∷ front) ≡ suc k = (let a = counted-yes any e front d 0 y in let b = decisions-from any front (host.after d e) 1 in omega (arith, a, b)) in
        ap (λ (q : List (List Edit)). queue_after actor token (host.after d e) q front) (queue-goes any q e d y)
        ∙ queue_dropped front (host.after d e) (later_edits q)
        ∙ later_dropped k q
        ∙ ap (λ (m : ℕ). drop m q) (sym count)
    | inr nay ↦
        ap (λ (q : List (List Edit)). queue_after actor token (host.after d e) q front) (queue-stays any q e d nay)
        ∙ queue_dropped front (host.after d e) q
        ∙ ap (λ (m : ℕ). drop m q) (sym (counted-no any e front d 0 nay))
  ]

module _ {R : Type 0} (actor : List ℕ) (token : ℕ) (d now : Disk) (es seen : List Event) (commits : Commits) (out : Result R Stop) (safe : IsCrashSafe actor token d es commits out)
    (left : IsLeft d es seen now) (known : All (IsKnown actor token) (commits.accepted ++ commits.pending)) (from : List Event) (home text : List ℕ) where
  abbrev all : List Commit
  all = commits.accepted ++ commits.pending

  -- the files that are due
  abbrev due : List Event → Files
  due front = run_files actor token d (queue commits) (settled_files actor d) front

  abbrev Some_decided : (Files → Commit → Type 0) → Type 0
  Some_decided P = SomeDecided actor token d commits from seen P

  abbrev Kept : Type 0
  Kept = IsKept actor (λ P. Some_decided P) now home text

  abbrev Place : List ℕ → Type 0
  Place n = (n ≡ home) ⊎ Some_decided (λ files c. GoesToMbox c n text)

  -- these events begin with those of the moment
  abbrev Since : List Event → Type 0
  Since front = (more : List Event) × (front ≡ from ++ more)

  since_then : (front : List Event) (e : Event) → Since front → Since (front ++ e ∷ [])
  since_then front e (more, is) = (more ++ e ∷ [], ap (λ (l : List Event). l ++ e ∷ []) is ∙ append_assoc from more (e ∷ []))

  abbrev Then : List Event → Type 0
  Then front = (n : List ℕ) → Place n → Stands (due front) n text → Kept

  -- what is due before an event is what is settled there
  settled : (front behind : List Event) (e : Event) → seen ≡ front ++ e ∷ behind → (n : List ℕ) → settled_files actor (disk d front) n ≡ due front n
  settled front behind e is n =
      let f = front-of actor token d es front behind e now (subst (λ (l : List Event). IsLeft d es l now) is left) in
      (safe.moments front f.0 f.1).same_files n

  one_on : (front : List Event) (e : Event) (n : List ℕ)
      → due (front ++ e ∷ []) n ≡ files_then (first_job actor token (queue_after actor token d (queue commits) front)) e (disk d front) (due front) n
  one_on front e n = files-split actor token front (e ∷ []) d (queue commits) (settled_files actor d) n

  further : (front behind : List Event) (e : Event) → seen ≡ front ++ e ∷ behind → seen ≡ (front ++ e ∷ []) ++ behind
  further front behind e is = is ∙ sym (append_assoc front (e ∷ []) behind)

  -- a step of others
  others : (front behind : List Event) (step : ForeignStep) → seen ≡ front ++ event.Foreign step ∷ behind
      → ((n : List ℕ) → Stands (settled_files actor (disk d front)) n text → Stands (settled_files actor (after_step (disk d front) step)) n text)
      → (n : List ℕ) → Stands (due front) n text → Stands (due (front ++ event.Foreign step ∷ [])) n text
  others front behind step is keep n at =
      let e = event.Foreign step in
      let x = disk d front in
      let same = settled front behind e is n in
      let renewed = renewed_is same_file file_true (settled_files actor x n) (settled_files actor (after_step x step) n) (due front n) same in
      stands_alike (settled_files actor (after_step x step)) (due (front ++ e ∷ [])) n text (renewed ∙ sym (one_on front e n))
      (keep n (stands_alike (due front) (settled_files actor x) n text (sym same) at))

  -- ---- a call of the run
  module _ (front behind : List Event) (e : Event) (since : Since front) (is : seen ≡ front ++ e ∷ behind)
      (own : (j : Job) (f : Files) (n : List ℕ) → files_then j e (disk d front) f n ≡ (if is_decision j e (disk d front) then applied (edits_of j) f n else f n)) where
    abbrev x : Disk
    x = disk d front

    abbrev left_queue : List (List Edit)
    left_queue = queue_after actor token d (queue commits) front

    abbrev j : Job
    j = first_job actor token left_queue

    undecided : is_decision (any actor token) e x ≡ false → (n : List ℕ) → due (front ++ e ∷ []) n ≡ due front n
    undecided nay n =
        one_on front e n ∙ own j (due front) n
        ∙ ap (λ (b : Bool). if b then applied (edits_of j) (due front) n else due front n) (decides-same (any actor token) left_queue e x ∙ nay)

    decided : is_decision (any actor token) e x ≡ true → (n : List ℕ) → due (front ++ e ∷ []) n ≡ applied (first_edits left_queue) (due front) n
    decided y n =
        one_on front e n ∙ own j (due front) n
        ∙ ap (λ (b : Bool). if b then applied (edits_of j) (due front) n else due front n) (decides-same (any actor token) left_queue e x ∙ y)

    queue_is : left_queue ≡ map (λ (c : Commit). edits_for c.changes c.base) (drop (decisions (any actor token) d 0 front) all)
    queue_is = queue_dropped actor token front d (queue commits) ∙ drop-map (λ (c : Commit). edits_for c.changes c.base) (decisions (any actor token) d 0 front) all

    -- the commit that is decided
    deciding : is_decision (any actor token) e x ≡ true → Then (front ++ e ∷ []) → (n : List ℕ) → Place n → Stands (due front) n text
        → (cs : List Commit) → drop (decisions (any actor token) d 0 front) all ≡ cs → Kept
    deciding y more n place at [] none =
        let no_edits : left_queue ≡ [] = queue_is ∙ ap (map (λ (c : Commit). edits_for c.changes c.base)) none in
        more n place (stands_alike (due front) (due (front ++ e ∷ [])) n text (sym (decided y n ∙ ap (λ (q : List (List Edit)). applied (first_edits q) (due front) n) no_edits)) at)
    deciding y more n place at (c ∷ later) some = becomes (known_becomes (settled_files actor x) actor token c n text is_known stood)
      where
        parts : Parted all (decisions (any actor token) d 0 front) c later
        parts = parted all (decisions (any actor token) d 0 front) c later some

        is_known : IsKnown actor token c
        is_known =
            All-head (IsKnown actor token) c later
            (subst (All (IsKnown actor token)) some (All-drop (IsKnown actor token) (decisions (any actor token) d 0 front) all known))

        one : IsDecided actor token d commits from seen
        one = record {
          front = front;
          decision = e;
          behind = behind;
          commit = c;
          is = is;
          since = since;
          decides = record { earlier = take (decisions (any actor token) d 0 front) all; later = later; order = parts.0; passed = parts.1; decision = y };
        }

        made : (m : List ℕ) → apply c.changes c.base (settled_files actor x) m ≡ due (front ++ e ∷ []) m
        made m =
            apply-alone c.changes c.base (settled_files actor x) (due front) m (settled front behind e is m)
            ∙ sym (edits_are_changes c.changes c.base (due front) m)
            ∙ ap (λ (q : List (List Edit)). applied (first_edits q) (due front) m) (sym (queue_is ∙ ap (map (λ (c : Commit). edits_for c.changes c.base)) some))
            ∙ sym (decided y m)

        stood : Stands (settled_files actor x) n text
        stood = stands_alike (due front) (settled_files actor x) n text (sym (settled front behind e is n)) at

        becomes : Becomes (settled_files actor x) c n text → Kept
        becomes (inl still) = more n place (stands_alike (apply c.changes c.base (settled_files actor x)) (due (front ++ e ∷ [])) n text (made n) still)
        becomes (inr (inl (mbox, goes, there))) =
            more mbox (inr (one, goes)) (stands_alike (apply c.changes c.base (settled_files actor x)) (due (front ++ e ∷ [])) mbox text (made mbox) there)
        becomes (inr (inr why)) = taken n (one, (stood, why))

    called : Then (front ++ e ∷ []) → Then front
    called more n place at = elim (cases_Bool (is_decision (any actor token) e x)) [
      | inl y ↦ deciding y more n place at (drop (decisions (any actor token) d 0 front) all) refl
      | inr nay ↦ more n place (stands_alike (due front) (due (front ++ e ∷ [])) n text (sym (undecided nay n)) at)
    ]

  -- ---- all of them
  leave_on : (front : List Event) (e : Event) (behind : List Event) → OthersLeaveIt actor text (host.after (disk d front) e) behind → OthersLeaveIt actor text (disk d (front ++ e ∷ [])) behind
  leave_on front e behind leave = subst (λ (x : Disk). OthersLeaveIt actor text x behind) (sym (disk-append d front (e ∷ []))) leave

  pub from_on : (behind front : List Event) → seen ≡ front ++ behind → Since front → OthersLeaveIt actor text (disk d front) behind → Then front
  from_on [] front is since leave n place at =
      let whole : front ≡ seen = sym (append-nil front) ∙ sym is in
      let last = left-due actor token d es commits out seen now safe left in
      stands n place (stands_alike (due front) (settled_files actor now) n text (ap (λ (l : List Event). due l n) whole ∙ sym (last.same_files n)) at)
  from_on (event.Foreign step ∷ behind) front is since leave n place at =
      let e = event.Foreign step in
      from_on behind (front ++ e ∷ []) (further front behind e is) (since_then front e since) (leave_on front e behind leave.1) n place (others front behind step is leave.0 n at)
  from_on (e ∷ behind) front is since leave n place at =
      called front behind e since is (λ j f n. refl)
      (λ m placed there. from_on behind (front ++ e ∷ []) (further front behind e is) (since_then front e since) (leave_on front e behind leave) m placed there) n place at

pub messages_are_kept : MessagesAreKept
messages_are_kept start env status d now es front rest behind safe home text is at left leave =
    let actor = actor_in env in
    let known = commits_are_known start env status d es safe in
    let due = (safe.safe.moments front rest is).same_files home in
    from_on actor env.token d now es (front ++ behind) safe.commits safe.out safe.safe left known front home text behind front refl ([], sym (append-nil front)) leave home (inl refl)
    (stands_alike (settled_files actor (disk d front)) (run_files actor env.token d (queue safe.commits) (settled_files actor d) front) home text due at)

-- ---- what a run puts into a mailbox
only_plain : (n : List ℕ) (changes : List Change) → OnlyPutsMail n changes → All (IsPlainFor n) changes
only_plain n changes only k d within =
    let change = get_or changes k d in
    elim (same_or_not n (name_of change)) [
      | inl same ↦ inr (only change (Contains-get_or changes k d within) (sym same.0)).0
      | inr apart ↦ inl apart.0
    ]

no_other : (n : List ℕ) (changes : List Change) → OnlyPutsMail n changes → PutsOther n changes → ⊥
no_other n changes only (change, there, name, other) = let mail = (only change there name).1 in true≢false (sym mail ∙ other)

-- a text that is put is that message once the commit is decided
pub put_stands : (files : Files) (c : Commit) (n text : List ℕ) (there : List (List ℕ)) → OnlyPutsMail n c.changes → list_of_file (files n) ≡ Some there → IsPut n text c.changes
    → Stands (apply c.changes c.base files) n text
put_stands files c n text there only listed put = elim (plainly n c.base c.changes (only_plain n c.changes only) files there listed) [
  | inr other ↦ absurd (no_other n c.changes only other)
  | inl grown ↦ (grown.texts, text, grown.listed, grown.put_too text put, same_itself text)
]

module _ {R : Type 0} (actor : List ℕ) (token : ℕ) (d now : Disk) (es : List Event) (commits : Commits) (out : Result R Stop) (safe : IsCrashSafe actor token d es commits out) where
  -- the disk that these events leave, the last of which decided
  just_left : (front : List Event) (e : Event) (behind : List Event) → IsLeft d es (front ++ e ∷ behind) now → (mid : Disk) × IsLeft d es (front ++ e ∷ []) mid
  just_left front e [] left = (now, left)
  just_left front e (x ∷ behind) left =
      let whole : front ++ e ∷ x ∷ behind ≡ (front ++ e ∷ []) ++ x ∷ behind = sym (append_assoc front (e ∷ []) (x ∷ behind)) in
      let f = front-of actor token d es (front ++ e ∷ []) behind x now (subst (λ (l : List Event). IsLeft d es l now) whole left) in
      (disk d (front ++ e ∷ []), at_moment f.0 f.1 refl)

  -- what is due once a commit was decided
  just_made : (front : List Event) (e : Event) (behind : List Event) (c : Commit) (n : List ℕ) → IsLeft d es (front ++ e ∷ behind) now → Decides actor token d commits front e c
      → apply c.changes c.base (settled_files actor (disk d front)) n ≡ run_files actor token d (queue commits) (settled_files actor d) (front ++ e ∷ []) n
  just_made front e behind c n left decides =
      let mid = just_left front e behind left in
      let due = left-due actor token d es commits out (front ++ e ∷ []) mid.0 safe mid.1 in
      sym (left-made actor token d es commits out safe front [] e mid.0 c n mid.1 decides tt) ∙ due.same_files n

pub put_is_kept : PutIsKept
put_is_kept start env status d now es seen safe one name text there only listed put left leave =
    let actor = actor_in env in
    let c = one.commit in
    let files = settled_files actor (disk d one.front) in
    let known = commits_are_known start env status d es safe in
    let left_so = subst (λ (l : List Event). IsLeft d es l now) one.is left in
    let made = just_made actor env.token d now es safe.commits safe.out safe.safe one.front one.decision one.behind c name left_so one.decides in
    let front = one.front ++ one.decision ∷ [] in
    from_on actor env.token d now es seen safe.commits safe.out safe.safe left known front name text one.behind front
    (one.is ∙ sym (append_assoc one.front (one.decision ∷ []) one.behind)) ([], sym (append-nil front)) leave name (inl refl)
    (stands_alike (apply c.changes c.base files) (run_files actor env.token d (queue safe.commits) (settled_files actor d) (one.front ++ one.decision ∷ [])) name text made
    (put_stands files c name text there only listed put))
