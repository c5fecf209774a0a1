-- The settled files after an own call: at the decision those with the job's edits, and else as they were.
use Rattle.std.proofs.Common.{◌≡◌, ◌≢◌, ℕ, Bool, true, false, ◌&&◌, List, [], ◌∷◌, Some, if◌then◌else◌, refl, ap, sym, subst, inl, inr, ◌∙◌}
use Rattle.std.specs.Str.{bytes_eq}
use Rattle.commit_record.specs.Names.{is_lawful}
use Rattle.commit_record.specs.declared.record.Record.{Record}
use Rattle.host_port.specs.declared.event.Event.{Event}
use Rattle.host_port.specs.declared.event.Event.TheVariants as event
use Rattle.host_port.specs.Disk.{Disk, after}
use Rattle.host_port.specs.Ran.{Agrees}
use Rattle.commit_machine.specs.Names.{record_name, new_name, staged_name, is_record_name}
use Rattle.commit_machine.specs.Records.{record_in}
use Rattle.commit_machine.specs.Settled.{Files, Mem}
use Rattle.commit_machine.specs.Jobs.{Edit, Made, Job, IsJob, edits_of, all_of, all_names, prepare_of}
use Rattle.commit_machine.specs.Machine.{State, Seizing, Timing, Looking, Undoing, Placing, Testing, Removing, Extending, Discarding, Unlocking, Erasing, Clearing, Preparing, Publishing, Locking, Loading, Staging, Deciding, Committing, Checking, Releasing, Ended, next}
use Rattle.commit_machine.specs.Goes.{IsNext, asks, loads, stages, stage_fails, publishes, extends, extend_fails, erases, locks, unlocks, seizes, releases}
use Rattle.commit_machine.specs.Laws.{is_foreign}
use Rattle.commit_machine.specs.Due.{settled_files, applied, is_decision, files_then}
use Rattle.commit_machine.proofs.records.InFile.{record_of-written, stands-lawful}
use Rattle.commit_machine.proofs.records.Names.{lawful-staged, staged-new}
use Rattle.commit_machine.proofs.records.Same.{same_false}
use Rattle.commit_record.specs.Format.{written}
use Rattle.commit_machine.proofs.standing.Known.{Knows}
use Rattle.commit_machine.proofs.told.Refusals.{Decides, decides}
use Rattle.commit_machine.proofs.standing.KnownNext.{names-prepare}
use Rattle.core_steps.specs.Settling.{standing_in, settled_by}
use Rattle.core_steps.proofs.Settled.{says, both, After, others_name, own_name}
use Rattle.core_steps.proofs.Ones.{Orderly, How, is_name, is_staged, is_put, says_how}
use Rattle.core_fact.proofs.Heart.{kept, many_settle, applied_alone}

applied_not : (es : List Edit) (files : Files) (n : List ℕ) → (Mem n (all_names es) → ⊥) → applied es files n ≡ files n
applied_not [] files n not = refl
applied_not (x ∷ xs) files n not = let nay = same_false n x.name (λ p. not (inl p)) in rw nay (applied_not xs files n (λ m. not (inr m)))

then_is : (j : Job) (d : Disk) (e : Event) (files : Files) (n : List ℕ) → is_foreign e ≡ false → files_then j e d files n ≡ if is_decision j e d then applied (edits_of j) files n else files n
then_is j d (event.Foreign f) files n own = absurd (cc)
then_is j d e files n own = refl

module _ (j : Job) (job : IsJob j) (actors : List (List ℕ)) (d : Disk) (s : State) (e : Event) (mem : Mem j.actor actors)
    (orderly : Orderly actors d.files d.locks) (later : Orderly actors (after d e).files (after d e).locks) (is : IsNext (next j s) e)
    (agrees : Agrees d e) (known : Knows j s d) (own : is_foreign e ≡ false)
    (free : (b n : List ℕ) → Mem b actors → Mem n (all_of j) → is_record_name b n ≡ false)
    (mine : (b : List ℕ) (r : Record) → Mem b actors → standing_in d.files b ≡ Some r → r.token ≡ j.token → b ≡ j.actor) where
  -- at the decision no other has a name of the job's
  not_others : is_decision j e d ≡ true → (b n : List ℕ) → Mem b actors → b ≢ j.actor → says b d.files n ≡ true → Mem n (all_of j) → ⊥
  not_others y b n mb ne says_so mn = go (says_how b d.files n says_so)
    where
      w : Decides s
      w = decides j d s e is known y

      k : Knows j (Committing w.0) d
      k = subst (λ (z : State). Knows j z d) w.1 known

      lock : d.locks n ≡ Some j.token
      lock = k.0.locked n mn

      law : is_lawful n ≡ true
      law = stands-lawful (d.files (record_name j.actor)) (prepare_of j) n k.0.closing.stands (subst (λ (z : List (List ℕ)). Mem n z) (sym (names-prepare j)) mn)

      go : How b d.files n → ⊥
      go (is_name x) = both (is_record_name b n) x (free b n mb mn)
      go (is_staged r stands m so) = lawful-staged n r.token m law so
      go (is_put r stands decided mr some) = ne (mine b r mb stands (let x : Some r.token ≡ Some j.token = sym ((orderly.sound b mb).locked r n stands decided mr some) ∙ lock in cc))

  own_then : (n : List ℕ) → settled_files j.actor (after d e) n ≡ if is_decision j e d then applied (edits_of j) (settled_files j.actor d) n else settled_files j.actor d n
  own_then n = (kept j job actors d s e mem orderly later is agrees known own).shows.settles n ∙ then_is j d e (settled_files j.actor d) n own

  pub decision_settles : (n : List ℕ) → settled_by actors (after d e).files n ≡ if is_decision j e d then applied (edits_of j) (settled_by actors d.files) n else settled_by actors d.files n
  decision_settles n = go (is_decision j e d) refl (many_settle j job actors d s e mem orderly later is agrees known own n)
    where
      go : (b : Bool) → is_decision j e d ≡ b → After actors j.actor d.files (after d e).files n
          → settled_by actors (after d e).files n ≡ if b then applied (edits_of j) (settled_by actors d.files) n else settled_by actors d.files n
      go true y (others_name b mb ne says_so same) = same ∙ sym (applied_not (edits_of j) (settled_by actors d.files) n (not_others y b n mb ne says_so))
      go true y (own_name before now) =
          now ∙ subst (λ (c : Bool). settled_files j.actor (after d e) n ≡ if c then applied (edits_of j) (settled_files j.actor d) n else settled_files j.actor d n) y (own_then n)
          ∙ applied_alone (edits_of j) (settled_files j.actor d) (settled_by actors d.files) n (sym before)
      go false y (others_name b mb ne says_so same) = same
      go false y (own_name before now) =
          now ∙ subst (λ (c : Bool). settled_files j.actor (after d e) n ≡ if c then applied (edits_of j) (settled_files j.actor d) n else settled_files j.actor d n) y (own_then n) ∙ sym before
