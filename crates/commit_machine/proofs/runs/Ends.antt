-- What holds when a job gives up its right.
use Rattle.std.proofs.Common.{◌≡◌, ◌⊎◌, ℕ, Bool, true, false, List, [], ◌∷◌, Option, Some, None, refl, ap, sym, subst, inl, inr, ◌∙◌}
use Rattle.std.proofs.lemmas.Bool.{cases_Bool}
use Rattle.std.specs.Str.{bytes_eq}
use Rattle.host_port.specs.declared.event.Event.{Event}
use Rattle.host_port.specs.declared.event.Event.TheVariants as event
use Rattle.host_port.specs.Disk.{Disk, after}
use Rattle.commit_machine.specs.Names.{record_name, new_name, right_name, is_record_name}
use Rattle.commit_machine.specs.Records.{record_in}
use Rattle.commit_machine.specs.Settled.{Files, Locks}
use Rattle.commit_machine.specs.Jobs.{Ending, Done, Recovered, Refused, Failed, NoMemory, Job}
use Rattle.commit_machine.specs.Machine.{State, Seizing, Releasing, Ended, Call, ToAsk, ToLoad, ToStage, ToPublish, ToExtend, ToErase, ToLock, ToUnlock, ToSeize, ToRelease, after_reply}
use Rattle.commit_machine.specs.Goes.{IsOf, releases, reply}
use Rattle.commit_machine.specs.Due.{settled_files, settled_locks}
use Rattle.commit_machine.proofs.standing.Known.{Ends, Knows}
use Rattle.commit_machine.proofs.records.Same.{same_true}
use Rattle.std.proofs.Common.{◌++◌}
use Rattle.host_port.specs.Disk.{disk}
use Rattle.host_port.specs.Own.{own}
use Rattle.host_port.specs.Ran.{Honest}
use Rattle.commit_machine.specs.Machine.{refused, next}
use Rattle.commit_machine.specs.Goes.{IsNext, Goes}
use Rattle.commit_machine.specs.Lawful.{OthersAreLawful}
use Rattle.commit_machine.specs.Settled.{settled, settled_lock}
use Rattle.commit_machine.specs.Laws.{IsRun, IsDone, FrontIsRun, NoRecordStands, RecoverySettles}
use Rattle.commit_machine.proofs.standing.Settled.{settled_at}
use Rattle.commit_machine.proofs.runs.Moments.{run_safe, known_now}
use Rattle.commit_machine.specs.Settled.{unlocked}
use Rattle.commit_machine.specs.Machine.{Went}
use Rattle.std.proofs.lemmas.Bool.{or_cases}

abbrev is_release : Option Call → Bool
is_release None = false
is_release (Some (ToRelease n)) = true
is_release (Some c) = false

release_call : (c : Call) (n : List ℕ) → IsOf c (event.Release n) → is_release (Some c) ≡ true
release_call (ToRelease m) n releases = refl
release_call (ToAsk m) n is = elim is [ ]
release_call (ToLoad m) n is = elim is [ ]
release_call (ToStage m c) n is = elim is [ ]
release_call (ToPublish from to) n is = elim is [ ]
release_call (ToExtend m at c) n is = elim is [ ]
release_call (ToErase m) n is = elim is [ ]
release_call (ToLock m t) n is = elim is [ ]
release_call (ToUnlock m t) n is = elim is [ ]
release_call (ToSeize m) n is = elim is [ ]

release_only : (o : Option Call) (n : List ℕ) → IsNext o (event.Release n) → is_release o ≡ true
release_only None n is = absurd is
release_only (Some c) n is = release_call c n is

module _ (j : Job) where
  -- the front of a run, and the state after it
  pub goes_front : (before rest : List Event) (s last : State) → Goes j s (own (before ++ rest)) last → (mid : State) × Goes j s (own before) mid × Goes j mid (own rest) last
  goes_front [] rest s last goes = (s, inl refl, goes)
  goes_front (event.Foreign f ∷ es) rest s last goes = goes_front es rest s last goes
  goes_front (x ∷ es) rest s last goes =
      let more = goes_front es rest (after_reply j goes.0 (reply x)) last goes.3 in
      (more.0, (goes.0, goes.1, goes.2, more.1), more.2)

  honest_front : (before rest : List Event) (d : Disk) → Honest d (before ++ rest) → Honest d before
  honest_front [] rest d h = tt
  honest_front (x ∷ es) rest d h = (h.0, honest_front es rest (after d x) h.1)

  pub lawful_front : (before rest : List Event) (d : Disk) → OthersAreLawful j.actor j.token d (before ++ rest) → OthersAreLawful j.actor j.token d before
  lawful_front [] rest d h = tt
  lawful_front (event.Foreign f ∷ es) rest d h = (h.0, h.1, lawful_front es rest (after d (event.Foreign f)) h.2)
  lawful_front (x ∷ es) rest d h = lawful_front es rest (after d x) h

  pub run_front : (d : Disk) (before rest : List Event) (last : State) → IsRun j d (before ++ rest) last → (mid : State) × IsRun j d before mid × Goes j mid (own rest) last
  run_front d before rest last run =
      let w = goes_front before rest Seizing last run.goes in
      (w.0, record { job = run.job; fresh = run.fresh; sound = run.sound; goes = w.1; honest = honest_front before rest d run.honest; lawful = lawful_front before rest d run.lawful }, w.2)

  -- only the state that releases makes a release
  release_state : (s : State) (n : List ℕ) → IsNext (next j s) (event.Release n) → (a : Ending) × (s ≡ Releasing a)
  release_state (Releasing a) n is = (a, refl)
  release_state (Ended a) n is = absurd is
  release_state s n is = let w : is_release (next j s) ≡ true = release_only (next j s) n is in absurd (cc)

  -- what holds at the end, just before the right is given up
  pub at_release : (d : Disk) (es : List Event) (end : Ending) → IsRun j d (es ++ event.Release (right_name j.actor) ∷ []) (Ended end) → Ends end j (disk d es)
  at_release d es end run = go (run_front d es (event.Release (right_name j.actor) ∷ []) (Ended end) run)
    where
      go : (mid : State) × IsRun j d es mid × Goes j mid (event.Release (right_name j.actor) ∷ []) (Ended end) → Ends end j (disk d es)
      go (mid, front, (now, reached, is, over)) =
          let k = known_now j run.job (disk d es) mid now reached (run_safe j d es mid front).1 in
          let w = release_state now (right_name j.actor) is in
          let k' : Ends w.0 j (disk d es) = subst (λ (s : State). Knows j s (disk d es)) w.1 k in
          let gone : (after_reply j now (Went true) ≡ Ended end) ⊎ (refused j (after_reply j now (Went true)) ≡ Ended end) = over in
          let over' : (Ended w.0 ≡ Ended end) ⊎ (Ended w.0 ≡ Ended end) =
          subst (λ (s : State). (after_reply j s (Went true) ≡ Ended end) ⊎ (refused j (after_reply j s (Went true)) ≡ Ended end)) w.1 gone in
          let same : w.0 ≡ end = elim over' [ inl e ↦ (cc) | inr e ↦ (cc) ] in
          subst (λ (a : Ending). Ends a j (disk d es)) same k'

disk_at_end : (d : Disk) (es : List Event) (e : Event) → disk d (es ++ e ∷ []) ≡ after (disk d es) e
disk_at_end d [] e = refl
disk_at_end d (x ∷ es) e = disk_at_end (after d x) es e

done_none : (j : Job) (d : Disk) (end : Ending) → IsDone end → Ends end j d → d.files (record_name j.actor) ≡ None
done_none j d Done done k = k.0.none
done_none j d (Recovered found) done k = k.0.done.none
done_none j d (Refused why) done k = absurd done
done_none j d (Failed passed) done k = absurd done
done_none j d NoMemory done k = absurd done

pub no_record_stands : NoRecordStands
no_record_stands j d es end done run =
    subst (λ (z : Disk). z.files (record_name j.actor) ≡ None) (sym (disk_at_end d es (event.Release (right_name j.actor)))) (done_none j (disk d es) end done (at_release j d es end run))

-- where no record stands and none is staged, all is settled
clear_files : (actor : List ℕ) (f : Files) (n : List ℕ) → f (record_name actor) ≡ None → f (new_name actor) ≡ None → settled actor f n ≡ f n
clear_files actor f n none no_new =
    settled_at actor f n None (ap record_in none)
    ∙ elim (cases_Bool (is_record_name actor n)) [ inl y ↦ rw y (hidden y) | inr nay ↦ rw nay refl ]
  where
    hidden : is_record_name actor n ≡ true → None ≡ f n
    hidden y = elim (or_cases (bytes_eq n (record_name actor)) (bytes_eq n (new_name actor)) y) [
      | inl e ↦ sym (ap f (same_true n (record_name actor) e) ∙ none)
      | inr e ↦ sym (ap f (same_true n (new_name actor) e) ∙ no_new)
    ]

clear_locks : (actor : List ℕ) (f : Files) (l : Locks) (n : List ℕ) → f (record_name actor) ≡ None → settled_lock actor f l n ≡ l n
clear_locks actor f l n none = ap (λ (c : Option (List ℕ)). unlocked (record_in c) n (l n)) none

pub recovery_settles : RecoverySettles
recovery_settles j d es found n run =
    let k = at_release j d es (Recovered found) run in
    subst (λ (z : Disk). (settled_files j.actor z n ≡ z.files n) × (settled_locks j.actor z n ≡ z.locks n)) (sym (disk_at_end d es (event.Release (right_name j.actor))))
    (clear_files j.actor (disk d es).files n k.0.done.none k.0.no_new, clear_locks j.actor (disk d es).files (disk d es).locks n k.0.done.none)

pub front_is_run : FrontIsRun
front_is_run j d before rest last run = let w = run_front j d before rest last run in (w.0, w.1)
