-- A job is decided only where it isn't refused.
use Rattle.std.proofs.Common.{◌≡◌, ◌≢◌, ◌⊎◌, ℕ, Bool, true, false, ◌&&◌, List, ◌∷◌, Some, None, refl, ap, sym, subst, inl, inr, ◌∙◌}
use Rattle.std.specs.Str.{bytes_eq}
use Rattle.commit_record.specs.Format.{written, is_valid}
use Rattle.host_port.specs.declared.event.Event.{Event}
use Rattle.host_port.specs.declared.event.Event.TheVariants as event
use Rattle.host_port.specs.Disk.{Disk, disk}
use Rattle.host_port.specs.Own.{own}
use Rattle.commit_machine.specs.Names.{record_name, new_name, staged_name}
use Rattle.commit_machine.specs.Records.{record_in}
use Rattle.commit_machine.specs.Settled.{Files, Mem}
use Rattle.commit_machine.specs.Jobs.{Edit, Job, Made, IsJob, edits_of, all_of, seen_files, seen_of, made_at, prepare_of}
use Rattle.commit_machine.specs.Machine.{State, Seizing, Timing, Looking, Undoing, Placing, Testing, Removing, Extending, Discarding, Unlocking, Erasing, Clearing, Preparing, Publishing, Locking, Loading, Staging, Deciding, Committing, Checking, Releasing, Ended, next, refused}
use Rattle.commit_machine.specs.Goes.{IsNext, Goes, asks, loads, stages, stage_fails, publishes, extends, extend_fails, erases, locks, unlocks, seizes, releases}
use Rattle.commit_machine.specs.Due.{settled_files, is_decision, files_after}
use Rattle.commit_machine.specs.Laws.{IsRun}
use Rattle.commit_machine.specs.Restraints.{NoRefusedIsDecided}
use Rattle.commit_machine.proofs.standing.Known.{Knows}
use Rattle.commit_machine.proofs.records.Same.{same_false}
use Rattle.commit_machine.proofs.records.Names.{staged-new}
use Rattle.commit_machine.proofs.records.InFile.{record_of-written, stands-valid}
use Rattle.commit_machine.proofs.standing.Decided.{named, commit_before}
use Rattle.commit_machine.proofs.records.OfJob.{valid-plain, made_first}
use Rattle.commit_machine.proofs.runs.Ends.{run_front}
use Rattle.commit_machine.proofs.runs.Moments.{run_safe, known_now}
use Rattle.commit_machine.proofs.told.Restraints.{Fair, all_fair, fair_now}

-- the state has a decision in flight
abbrev pub Decides : State → Type 0
Decides s = (made : List Made) × (s ≡ Committing made)

module _ (j : Job) (d : Disk) where
  pub not_from : (from to : List ℕ) (failed : Bool) → from ≢ new_name j.actor → is_decision j (event.Publish from to true failed) d ≡ false
  not_from from to failed ne = rw (same_false from (new_name j.actor) ne) refl

  pub not_prepare : (from to : List ℕ) (failed : Bool) → record_in (d.files (new_name j.actor)) ≡ Some (prepare_of j) → is_decision j (event.Publish from to true failed) d ≡ false
  not_prepare from to failed e = rw e (go (bytes_eq from (new_name j.actor) && bytes_eq to (record_name j.actor)))
    where
      go : (b : Bool) → (b && false) ≡ false
      go true = refl
      go false = refl

  -- only that state makes a decision
  pub decides : (s : State) (e : Event) → IsNext (next j s) e → Knows j s d → is_decision j e d ≡ true → Decides s
  decides (Committing made) e is k h = (made, refl)
  decides Seizing _ seizes k h = absurd (cc)
  decides (Timing time) _ asks k h = absurd (cc)
  decides Looking _ loads k h = absurd (cc)
  decides (Undoing r m ns ls th) _ erases k h = absurd (cc)
  decides (Placing r x xs ls th) _ (publishes {done = true} {failed = failed}) k h = let no = not_from (staged_name r.token x.name) x.name failed (staged-new r.token x.name j.actor) in absurd (cc)
  decides (Placing r x xs ls th) _ (publishes {done = false} {failed = failed}) k h = absurd (cc)
  decides (Testing r x xs ls) _ loads k h = absurd (cc)
  decides (Removing r x xs ls th) _ erases k h = absurd (cc)
  decides (Extending r x xs ls th) _ extends k h = absurd (cc)
  decides (Extending r x xs ls th) _ extend_fails k h = absurd (cc)
  decides (Discarding r x xs ls th) _ erases k h = absurd (cc)
  decides (Unlocking r m ns th) _ unlocks k h = absurd (cc)
  decides (Erasing r th) _ erases k h = absurd (cc)
  decides (Clearing found) _ erases k h = absurd (cc)
  decides Preparing _ stages k h = absurd (cc)
  decides Preparing _ stage_fails k h = absurd (cc)
  decides Publishing _ (publishes {done = true} {failed = failed}) k h =
      let new : record_in (d.files (new_name j.actor)) ≡ Some (prepare_of j) = ap record_in (k.0.new (written (prepare_of j)) refl) ∙ record_of-written (written (prepare_of j)) (prepare_of j) k.1 in
      let no = not_prepare (new_name j.actor) (record_name j.actor) failed new in
      absurd (cc)
  decides Publishing _ (publishes {done = false} {failed = failed}) k h = absurd (cc)
  decides (Locking ls x left) _ locks k h = absurd (cc)
  decides (Loading made x left) _ loads k h = absurd (cc)
  decides (Staging ns made x left) _ stages k h = absurd (cc)
  decides (Staging ns made x left) _ stage_fails k h = absurd (cc)
  decides (Deciding made) _ stages k h = absurd (cc)
  decides (Deciding made) _ stage_fails k h = absurd (cc)
  decides Checking _ loads k h = absurd (cc)
  decides (Releasing a) _ releases k h = absurd (cc)
  decides (Ended a) e is k h = absurd is

  -- the files that were loaded are those that are settled
  seen_settled : IsJob j → (made : List Made) → Knows j (Committing made) d → (n : List ℕ) → Mem n (all_of j) → seen_files made n ≡ settled_files j.actor d n
  seen_settled job made k n mem =
      let (x, x_in, is) = named (edits_of j) n mem in
      let valid : is_valid (prepare_of j) ≡ true = (stands-valid (d.files (record_name j.actor)) (prepare_of j) k.0.closing.stands).0 in
      let plain = valid-plain j job valid x x_in in
      let settled : settled_files j.actor d x.name ≡ d.files x.name = commit_before j.actor d.files (prepare_of j) x.name k.0.closing.stands refl plain.0 plain.1 in
      subst (λ (z : List ℕ). seen_files made z ≡ settled_files j.actor d z) is (seen x x_in ∙ sym settled)
    where
      seen : (x : Edit) → Mem x (edits_of j) → seen_files made x.name ≡ d.files x.name
      seen x x_in = elim (k.1.all x x_in) [
        | inl a ↦ absurd a
        | inr w ↦
            let (y, y_in, same, found) = made_first made w.0 w.1 in
            let name : w.0.edit.name ≡ x.name = ap (λ (z : Edit). z.name) w.2 in
            ap (λ (z : List ℕ). seen_of (made_at made z)) (sym name) ∙ ap seen_of found ∙ sym (k.0.seen y y_in) ∙ ap d.files (same ∙ name)
      ]

module _ (j : Job) (d : Disk) (before : List Event) where
  -- such files
  abbrev Unrefused : Type 0
  Unrefused = (files : Files) × ((n : List ℕ) → Mem n (all_of j) → files n ≡ files_after j d (settled_files j.actor d) before n) × (j.refusal files ≡ None)

  unrefused : (mid now : State) (e : Event) → IsRun j d before mid → (now ≡ mid) ⊎ (now ≡ refused j mid) → IsNext (next j now) e → is_decision j e (disk d before) ≡ true → Unrefused
  unrefused mid now e front from is h =
      let safe = run_safe j d before mid front in
      let k = known_now j front.job (disk d before) mid now from safe.1 in
      let fair = fair_now (λ d. Unit {0}) j (disk d before) mid now from (all_fair (λ d. Unit {0}) j (λ d. tt) (λ d f u. tt) before Seizing mid d tt front.goes) in
      let (made, at) = decides j (disk d before) now e is k h in
      let k' : Knows j (Committing made) (disk d before) = subst (λ (s : State). Knows j s (disk d before)) at k in
      let fair' : Fair (λ d. Unit {0}) j (Committing made) (disk d before) = subst (λ (s : State). Fair (λ d. Unit {0}) j s (disk d before)) at fair in
      (seen_files made, (λ n mem. seen_settled j (disk d before) front.job made k' n mem ∙ safe.0.same_files n), fair')

  at_decision : (e : Event) (rest : List Event) (mid last : State) → IsRun j d before mid → Goes j mid (own (e ∷ rest)) last → is_decision j e (disk d before) ≡ true → Unrefused
  at_decision (event.Foreign f) rest mid last front goes h = absurd (cc)
  at_decision e rest mid last front goes h = unrefused mid goes.0 e front goes.1 goes.2 h

pub no_refused_is_decided : NoRefusedIsDecided
no_refused_is_decided j d before e rest last run h =
    let w = run_front j d before (e ∷ rest) last run in
    at_decision j d before e rest w.0 last w.1 w.2 h
