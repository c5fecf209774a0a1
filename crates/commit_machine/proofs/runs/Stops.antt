-- What holds where a run stops inside an event, and what changes what is due.
use Rattle.std.proofs.Common.{◌≡◌, ℕ, Bool, true, false, List, [], ◌∷◌, Option, Some, None, is_some, is_none, if◌then◌else◌, refl, ◌∙◌}
use Rattle.std.proofs.lemmas.Bool.{and_parts}
use Rattle.host_port.specs.declared.event.Event.{Event}
use Rattle.host_port.specs.declared.event.Event.TheVariants as event
use Rattle.host_port.specs.Disk.{Disk, after}
use Rattle.host_port.specs.Ends.{is_owner}
use Rattle.host_port.specs.Ran.{Agrees}
use Rattle.commit_machine.specs.Settled.{Files, Locks}
use Rattle.commit_machine.specs.Jobs.{Job, IsJob, edits_of}
use Rattle.commit_machine.specs.Machine.{State, Seizing, Call, ToAsk, ToLoad, ToStage, ToPublish, ToExtend, ToErase, ToLock, ToUnlock, ToSeize, ToRelease, after_reply}
use Rattle.commit_machine.specs.Goes.{IsOf, asks, loads, stages, stage_fails, publishes, extends, extend_fails, erases, locks, unlocks, seizes, releases, reply}
use Rattle.commit_machine.specs.Lawful.{IsSound}
use Rattle.commit_machine.specs.Due.{settled_files, settled_locks, files_then, is_decision, applied}
use Rattle.commit_machine.proofs.standing.Known.{Knows}
use Rattle.std.proofs.Common.{◌++◌}
use Rattle.host_port.specs.declared.event.Part.{Part}
use Rattle.host_port.specs.Disk.{disk, after_step}
use Rattle.host_port.specs.Ends.{cut_short, stopped, ended, is_after, is_open}
use Rattle.host_port.specs.Own.{own}
use Rattle.host_port.specs.Ran.{Honest}
use Rattle.commit_machine.specs.Machine.{next}
use Rattle.commit_machine.specs.Goes.{IsNext, Goes}
use Rattle.commit_machine.specs.Lawful.{OthersAreLawful}
use Rattle.commit_machine.specs.Due.{files_after, locks_after, locks_then, same_file, same_lock}
use Rattle.commit_machine.specs.Laws.{IsSettledAs, in_flight, is_foreign, StopSafe, OnlyDecisions, DecisionsApply}
use Rattle.commit_machine.proofs.standing.Lawful.{lawful_keeps}
use Rattle.commit_machine.proofs.standing.Others.{others_knows}
use Rattle.commit_machine.proofs.runs.Moments
use Rattle.commit_machine.proofs.runs.Moments.{file_true, lock_true, renewed_is}

-- a failing form of an event is one of the same call
cut_is : (d : Disk) (part : Part) (c : Call) {e : Event} → IsOf c e → IsOf c (cut_short d e part)
cut_is d part (ToAsk time) asks = asks
cut_is d part (ToLoad n) loads = loads
cut_is d part (ToStage n c) stages = stage_fails
cut_is d part (ToStage n c) stage_fails = stage_fails
cut_is d part (ToPublish from to) publishes = publishes
cut_is d part (ToExtend n at c) extends = extend_fails
cut_is d part (ToExtend n at c) extend_fails = extend_fails
cut_is d part (ToErase n) erases = erases
cut_is d part (ToLock n t) locks = locks
cut_is d part (ToUnlock n t) unlocks = unlocks
cut_is d part (ToSeize n) seizes = seizes
cut_is d part (ToRelease n) releases = releases

pub cut_next : (d : Disk) (part : Part) (o : Option Call) (e : Event) → IsNext o e → IsNext o (cut_short d e part)
cut_next d part None e is = absurd is
cut_next d part (Some c) e is = cut_is d part c is

-- what it says is so
pub cut_agrees : (d : Disk) (e : Event) (part : Part) → Agrees d e → Agrees d (cut_short d e part)
cut_agrees d (event.Publish from to done failed) part agrees = λ h. (and_parts (is_after part) (is_some (d.files from)) h).1
cut_agrees d (event.Extend n at tail failed) part agrees = λ fine. absurd (cc)
cut_agrees d (event.Erase n done failed) part agrees = λ h. refl
cut_agrees d (event.Lock n t got failed) part agrees = λ h. (and_parts (is_after part) (is_none (d.locks n)) h).1
cut_agrees d (event.Unlock n t done failed) part agrees = λ h. (and_parts (is_after part) (is_owner t (d.locks n)) h).1
cut_agrees d (event.Seize n got failed) part agrees = λ h. (and_parts (is_after part) (is_open (d.rights n)) h).1
cut_agrees d e part agrees = agrees

module _ (j : Job) (job : IsJob j) (part : Part) where
  -- what shows on the image of a stop inside an event
  stop_here : (e : Event) (rest : List Event) (s last : State) (d : Disk) (files : Files) (owners : Locks)
      → ((n : List ℕ) → settled_files j.actor d n ≡ files n) → ((n : List ℕ) → settled_locks j.actor d n ≡ owners n) → IsSound j.actor d → Knows j s d
      → Goes j s (own (e ∷ rest)) last → Honest d (e ∷ rest) → OthersAreLawful j.actor j.token d (e ∷ rest)
      → IsSettledAs j.actor (stopped d e part) (files_after j d files (in_flight d e part)) (locks_after j d owners (in_flight d e part))
  stop_here (event.Foreign f) rest s last d files owners settles locked sound k goes honest lawful = go (is_after part)
    where
      go : (b : Bool) → IsSettledAs j.actor (ended (if b then after_step d f else d)) (files_after j d files (if b then event.Foreign f ∷ [] else []))
          (locks_after j d owners (if b then event.Foreign f ∷ [] else []))
      go true = record {
        same_files = λ n. renewed_is same_file file_true (settled_files j.actor d n) (settled_files j.actor (after_step d f) n) (files n) (settles n);
        same_locks = λ n. renewed_is same_lock lock_true (settled_locks j.actor d n) (settled_locks j.actor (after_step d f) n) (owners n) (locked n);
        sound = lawful.1;
      }
      go false = record { same_files = settles; same_locks = locked; sound = sound }
  stop_here e rest s last d files owners settles locked sound k goes honest lawful =
      let kept = Moments.own_step j job d files owners settles locked sound goes.0 (cut_short d e part) (cut_next d part (next j goes.0) e goes.2)
      (cut_agrees d e part honest.0) (Moments.known_now j job d s goes.0 goes.1 k) in
      record { same_files = kept.shows.settles; same_locks = kept.shows.locked; sound = kept.shows.sound }

  stop_at : (before : List Event) (e : Event) (rest : List Event) (s last : State) (d : Disk) (files : Files) (owners : Locks)
      → ((n : List ℕ) → settled_files j.actor d n ≡ files n) → ((n : List ℕ) → settled_locks j.actor d n ≡ owners n) → IsSound j.actor d → Knows j s d
      → Goes j s (own (before ++ e ∷ rest)) last → Honest d (before ++ e ∷ rest) → OthersAreLawful j.actor j.token d (before ++ e ∷ rest)
      → IsSettledAs j.actor (stopped (disk d before) e part) (files_after j d files (before ++ in_flight (disk d before) e part)) (locks_after j d owners (before ++ in_flight (disk d before) e part))
  stop_at [] e rest s last d files owners settles locked sound k goes honest lawful = stop_here e rest s last d files owners settles locked sound k goes honest lawful
  stop_at (event.Foreign f ∷ es) e rest s last d files owners settles locked sound k goes honest lawful =
      stop_at es e rest s last (after_step d f) (files_then j (event.Foreign f) d files) (locks_then j (event.Foreign f) d owners)
      (λ n. renewed_is same_file file_true (settled_files j.actor d n) (settled_files j.actor (after_step d f) n) (files n) (settles n))
      (λ n. renewed_is same_lock lock_true (settled_locks j.actor d n) (settled_locks j.actor (after_step d f) n) (owners n) (locked n))
      lawful.1 (others_knows j d (after_step d f) (lawful_keeps j.actor j.token d f lawful.0) s k) goes honest.1 lawful.2
  stop_at (x ∷ es) e rest s last d files owners settles locked sound k goes honest lawful =
      let kept = Moments.own_step j job d files owners settles locked sound goes.0 x goes.2 honest.0 (Moments.known_now j job d s goes.0 goes.1 k) in
      stop_at es e rest (after_reply j goes.0 (reply x)) last (after d x) (files_then j x d files) owners kept.shows.settles kept.shows.locked kept.shows.sound kept.knows goes.3 honest.1 lawful

pub stop_safe : StopSafe
stop_safe j d before e rest last part run =
    stop_at j run.job part before e rest Seizing last d (settled_files j.actor d) (settled_locks j.actor d) (λ n. refl) (λ n. refl) run.sound run.fresh run.goes run.honest run.lawful

files_at_end : (j : Job) (d : Disk) (before : List Event) (e : Event) (files : Files) (n : List ℕ)
    → files_after j d files (before ++ e ∷ []) n ≡ files_then j e (disk d before) (files_after j d files before) n
files_at_end j d [] e files n = refl
files_at_end j d (x ∷ es) e files n = files_at_end j (after d x) es e (files_then j x d files) n

locks_at_end : (j : Job) (d : Disk) (before : List Event) (e : Event) (owners : Locks) (n : List ℕ)
    → locks_after j d owners (before ++ e ∷ []) n ≡ locks_then j e (disk d before) (locks_after j d owners before) n
locks_at_end j d [] e owners n = refl
locks_at_end j d (x ∷ es) e owners n = locks_at_end j (after d x) es e (locks_then j x d owners) n

files_by_decision : (j : Job) (d : Disk) (e : Event) (files : Files) (n : List ℕ) → is_foreign e ≡ false
    → files_then j e d files n ≡ if is_decision j e d then applied (edits_of j) files n else files n
files_by_decision j d (event.Foreign f) files n own_one = absurd (cc)
files_by_decision j d e files n own_one = refl

locks_by_own : (j : Job) (d : Disk) (e : Event) (owners : Locks) (n : List ℕ) → is_foreign e ≡ false → locks_then j e d owners n ≡ owners n
locks_by_own j d (event.Foreign f) owners n own_one = absurd (cc)
locks_by_own j d e owners n own_one = refl

pub only_decisions : OnlyDecisions
only_decisions j d before e files owners n own_one nay = (
  files_at_end j d before e files n ∙ files_by_decision j (disk d before) e (files_after j d files before) n own_one ∙ rw nay refl,
  locks_at_end j d before e owners n ∙ locks_by_own j (disk d before) e (locks_after j d owners before) n own_one,
)

own_decision : (j : Job) (d : Disk) (e : Event) → is_decision j e d ≡ true → is_foreign e ≡ false
own_decision j d (event.Foreign f) y = absurd (cc)
own_decision j d e y = refl

pub decisions_apply : DecisionsApply
decisions_apply j d before e files n y =
    files_at_end j d before e files n ∙ files_by_decision j (disk d before) e (files_after j d files before) n (own_decision j (disk d before) e y) ∙ rw y refl
