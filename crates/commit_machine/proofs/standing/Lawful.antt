-- A lawful step of others keeps what the run knows.
use Rattle.std.proofs.Common.{◌≡◌, ◌≢◌, ℕ, Bool, true, ◌==◌, List, Option, Some, None, if◌then◌else◌, refl, ap, sym, subst, inl, inr, ◌∙◌}
use Rattle.std.proofs.lemmas.Bool.{cases_Bool, eqb-true}
use Rattle.commit_record.specs.declared.record.Record.{Record}
use Rattle.host_port.specs.declared.event.ForeignStep.{ForeignStep}
use Rattle.host_port.specs.declared.event.ForeignStep.TheVariants.{Write, Remove, Lock, Unlock, Seize, Release}
use Rattle.host_port.specs.declared.event.Holder.{Holder}
use Rattle.host_port.specs.declared.event.Holder.TheVariants.{Own}
use Rattle.host_port.specs.Disk.{Disk, with_at, after_step, locked, unlocked, taken, without_other}
use Rattle.commit_machine.specs.Names.{record_name, right_name, staged_name, is_record_name}
use Rattle.commit_machine.specs.Records.{record_in}
use Rattle.commit_machine.specs.Lawful.{standing, HasRight, IsGuarded, IsLawful, IsLawfulWrite}
use Rattle.commit_machine.proofs.standing.Known.{Keeps, KeepsRecord, KeepsToken}
use Rattle.commit_machine.proofs.records.Same.{same_refl, same_or_not, put_here, put_there}

held_here : (rights : List ℕ → Option Holder) (n m : List ℕ) (v : Option Holder) → rights m ≡ Some Own → (rights n ≡ Some Own → v ≡ Some Own) → with_at rights n v m ≡ Some Own
held_here rights n m v h stays = elim (same_or_not m n) [
  | inl p ↦ ap (with_at rights n v) p.0 ∙ put_here rights n v ∙ stays (ap rights (sym p.0) ∙ h)
  | inr p ↦ put_there rights n m v p.0 ∙ h
]

keeps_right : (actor : List ℕ) (d : Disk) (f : ForeignStep) → HasRight actor d → HasRight actor (after_step d f)
keeps_right actor d (Write n b) h = h
keeps_right actor d (Remove n) h = h
keeps_right actor d (Lock n u) h = h
keeps_right actor d (Unlock n u) h = h
keeps_right actor d (Seize n) h = held_here d.rights n (right_name actor) (taken (d.rights n)) h (λ e. ap taken e)
keeps_right actor d (Release n) h = held_here d.rights n (right_name actor) (without_other (d.rights n)) h (λ e. ap without_other e)

module _ (actor : List ℕ) (t : ℕ) (d : Disk) where
  write_record : (n : List ℕ) (c : Option (List ℕ)) (k : List ℕ) → IsLawfulWrite actor t d n c → HasRight actor d → is_record_name actor k ≡ true → with_at d.files n c k ≡ d.files k
  write_record n c k law right rec = put_there d.files n k c (λ e. law.no_right (subst (λ (z : List ℕ). is_record_name actor z ≡ true) e rec) right)

  keeps_record : (f : ForeignStep) (k : List ℕ) → IsLawful actor t d f → HasRight actor d → is_record_name actor k ≡ true → (after_step d f).files k ≡ d.files k
  keeps_record (Write n b) k law right rec = write_record n (Some b) k law right rec
  keeps_record (Remove n) k law right rec = write_record n None k law right rec
  keeps_record (Lock n u) k law right rec = refl
  keeps_record (Unlock n u) k law right rec = refl
  keeps_record (Seize n) k law right rec = refl
  keeps_record (Release n) k law right rec = refl

  write_staged : (n : List ℕ) (c : Option (List ℕ)) (u : ℕ) (m : List ℕ) → IsLawfulWrite actor t d n c → IsGuarded actor t d u → with_at d.files n c (staged_name u m) ≡ d.files (staged_name u m)
  write_staged n c u m law g = put_there d.files n (staged_name u m) c (λ e. law.unstaged u m g (sym e))

  keeps_staged : (f : ForeignStep) (u : ℕ) (m : List ℕ) → IsLawful actor t d f → IsGuarded actor t d u → (after_step d f).files (staged_name u m) ≡ d.files (staged_name u m)
  keeps_staged (Write n b) u m law g = write_staged n (Some b) u m law g
  keeps_staged (Remove n) u m law g = write_staged n None u m law g
  keeps_staged (Lock n v) u m law g = refl
  keeps_staged (Unlock n v) u m law g = refl
  keeps_staged (Seize n) u m law g = refl
  keeps_staged (Release n) u m law g = refl

  -- a lock that is put or taken away is another's
  not_guarded : (v u : ℕ) → (IsGuarded actor t d v → ⊥) → IsGuarded actor t d u → v ≢ u
  not_guarded v u not g e = not (subst (IsGuarded actor t d) (sym e) g)

  still_locked : (l : Option ℕ) (v u : ℕ) → l ≡ Some u → locked l v ≡ Some u
  still_locked None v u e = absurd (cc)
  still_locked (Some w) v u e = e

  not_unlocked : (l : Option ℕ) (v u : ℕ) → v ≢ u → l ≡ Some u → unlocked l v ≡ Some u
  not_unlocked None v u ne e = absurd (cc)
  not_unlocked (Some w) v u ne e = elim (cases_Bool (w == v)) [ inl y ↦ absurd (ne (let p : w ≡ v = eqb-true w v y in cc)) | inr nay ↦ rw nay e ]

  still_free : (l : Option ℕ) (v u : ℕ) → v ≢ u → l ≢ Some u → locked l v ≢ Some u
  still_free None v u ne h = λ e. ne (cc)
  still_free (Some w) v u ne h = h

  free_unlocked : (l : Option ℕ) (v u : ℕ) → l ≢ Some u → unlocked l v ≢ Some u
  free_unlocked None v u h = h
  free_unlocked (Some w) v u h = elim (cases_Bool (w == v)) [
    | inl y ↦
        (λ e. let x : None ≡ Some u = sym (ap (λ (b : Bool). if b then None else Some w) y) ∙ e in absurd (cc))
    | inr nay ↦ (λ e. h (sym (ap (λ (b : Bool). if b then None else Some w) nay) ∙ e))
  ]

  at_lock : (P : Option ℕ → Type 0) (n m : List ℕ) (v : Option ℕ) → P (d.locks m) → (P (d.locks n) → P v) → P (with_at d.locks n v m)
  at_lock P n m v h stays = elim (same_or_not m n) [
    | inl p ↦ subst P (sym (ap (with_at d.locks n v) p.0 ∙ put_here d.locks n v)) (stays (subst (λ (z : List ℕ). P (d.locks z)) p.0 h))
    | inr p ↦ subst P (sym (put_there d.locks n m v p.0)) h
  ]

  keeps_lock : (f : ForeignStep) (u : ℕ) (m : List ℕ) → IsLawful actor t d f → IsGuarded actor t d u → d.locks m ≡ Some u → (after_step d f).locks m ≡ Some u
  keeps_lock (Write n b) u m law g h = h
  keeps_lock (Remove n) u m law g h = h
  keeps_lock (Lock n v) u m law g h = at_lock (λ l. l ≡ Some u) n m (locked (d.locks n) v) h (still_locked (d.locks n) v u)
  keeps_lock (Unlock n v) u m law g h = at_lock (λ l. l ≡ Some u) n m (unlocked (d.locks n) v) h (not_unlocked (d.locks n) v u (not_guarded v u law g))
  keeps_lock (Seize n) u m law g h = h
  keeps_lock (Release n) u m law g h = h

  keeps_free : (f : ForeignStep) (u : ℕ) (m : List ℕ) → IsLawful actor t d f → IsGuarded actor t d u → d.locks m ≢ Some u → (after_step d f).locks m ≢ Some u
  keeps_free (Write n b) u m law g h = h
  keeps_free (Remove n) u m law g h = h
  keeps_free (Lock n v) u m law g h = at_lock (λ l. l ≢ Some u) n m (locked (d.locks n) v) h (still_free (d.locks n) v u (not_guarded v u law g))
  keeps_free (Unlock n v) u m law g h = at_lock (λ l. l ≢ Some u) n m (unlocked (d.locks n) v) h (free_unlocked (d.locks n) v u)
  keeps_free (Seize n) u m law g h = h
  keeps_free (Release n) u m law g h = h

  write_file : (n : List ℕ) (c : Option (List ℕ)) (u : ℕ) (m : List ℕ) → IsLawfulWrite actor t d n c → IsGuarded actor t d u → d.locks m ≡ Some u → with_at d.files n c m ≡ d.files m
  write_file n c u m law g h = put_there d.files n m c (λ e. law.unlocked u g (ap d.locks (sym e) ∙ h))

  keeps_file : (f : ForeignStep) (u : ℕ) (m : List ℕ) → IsLawful actor t d f → IsGuarded actor t d u → d.locks m ≡ Some u → (after_step d f).files m ≡ d.files m
  keeps_file (Write n b) u m law g h = write_file n (Some b) u m law g h
  keeps_file (Remove n) u m law g h = write_file n None u m law g h
  keeps_file (Lock n v) u m law g h = refl
  keeps_file (Unlock n v) u m law g h = refl
  keeps_file (Seize n) u m law g h = refl
  keeps_file (Release n) u m law g h = refl

  is_record : is_record_name actor (record_name actor) ≡ true
  is_record = rw (same_refl (record_name actor)) refl

  write_fresh : (n : List ℕ) (c : Option (List ℕ)) (r : Record) → IsLawfulWrite actor t d n c → (standing actor d ≡ Some r → r.token ≢ t)
      → record_in (with_at d.files n c (record_name actor)) ≡ Some r → r.token ≢ t
  write_fresh n c r law h e = elim (same_or_not (record_name actor) n) [
    | inl p ↦ law.fresh r (subst (λ (z : List ℕ). is_record_name actor z ≡ true) p.0 is_record) (sym (ap record_in (ap (with_at d.files n c) p.0 ∙ put_here d.files n c)) ∙ e)
    | inr p ↦ h (sym (ap record_in (put_there d.files n (record_name actor) c p.0)) ∙ e)
  ]

  -- no step makes a record of this token
  keeps_fresh : (f : ForeignStep) (r : Record) → IsLawful actor t d f → (standing actor d ≡ Some r → r.token ≢ t) → standing actor (after_step d f) ≡ Some r → r.token ≢ t
  keeps_fresh (Write n b) r law h e = write_fresh n (Some b) r law h e
  keeps_fresh (Remove n) r law h e = write_fresh n None r law h e
  keeps_fresh (Lock n v) r law h e = h e
  keeps_fresh (Unlock n v) r law h e = h e
  keeps_fresh (Seize n) r law h e = h e
  keeps_fresh (Release n) r law h e = h e

  keeps_token : (f : ForeignStep) (u : ℕ) → IsLawful actor t d f → IsGuarded actor t d u → KeepsToken u d (after_step d f)
  keeps_token f u law g = record {
    staged = λ m. keeps_staged f u m law g;
    lock = λ m h. keeps_lock f u m law g h;
    free = λ m h. keeps_free f u m law g h;
    file = λ m h. keeps_file f u m law g h;
  }

  keeps_found : (f : ForeignStep) (r : Record) → IsLawful actor t d f → IsGuarded actor t d r.token → KeepsRecord r d (after_step d f)
  keeps_found f r law g = record {
    staged = λ m. keeps_staged f r.token m law g;
    lock = λ m h. keeps_lock f r.token m law g h;
    free = λ m h. keeps_free f r.token m law g h;
    file = λ m mem h. keeps_file f r.token m law g h;
  }

  pub lawful_keeps : (f : ForeignStep) → IsLawful actor t d f → Keeps actor t d (after_step d f)
  lawful_keeps f law = record {
    right = λ h. keeps_right actor d f h;
    own = keeps_token f t law (inl refl);
    fresh = λ r h e. keeps_fresh f r law h e;
    records = λ n right rec. keeps_record f n law right rec;
    found = λ r right e. keeps_found f r law (inr (r, e, refl));
  }
