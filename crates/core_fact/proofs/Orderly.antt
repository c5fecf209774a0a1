-- An own call leaves the disk orderly.
use Rattle.std.proofs.Common.{◌≡◌, ◌≢◌, ◌⊎◌, ℕ, true, false, List, Option, Some, None, is_some, refl, ap, sym, subst, inl, inr, ◌∙◌}
use Rattle.commit_record.specs.declared.record.Record.{Record}
use Rattle.host_port.specs.declared.event.Event.{Event}
use Rattle.host_port.specs.Disk.{Disk, after, reaches}
use Rattle.host_port.specs.Ran.{Agrees}
use Rattle.commit_machine.specs.Names.{record_name, staged_name, is_record_name}
use Rattle.commit_machine.specs.Records.{record_in, is_go, names_of}
use Rattle.commit_machine.specs.Settled.{Mem, IsSoundAt}
use Rattle.commit_machine.specs.Jobs.{Job, IsJob, all_of}
use Rattle.commit_machine.specs.Machine.{State, next}
use Rattle.commit_machine.specs.Goes.{IsNext}
use Rattle.commit_machine.specs.Due.{settled_files, settled_locks}
use Rattle.commit_machine.proofs.records.Same.{same_or_not, Mem_has}
use Rattle.commit_machine.proofs.standing.Known.{Knows}
use Rattle.commit_machine.proofs.standing.Sound.{sound_same}
use Rattle.commit_machine.proofs.runs.Moments
use Rattle.core_steps.specs.Settling.{standing_in, puts}
use Rattle.core_steps.proofs.Settled.{Stays}
use Rattle.core_steps.proofs.Ones.{Orderly}
use Rattle.core_steps.proofs.Touching.{Touches, own_touches}
use Rattle.core_steps.proofs.Others.{lock_stays}
use Rattle.core_fact.proofs.Heart.{others_stay}
use Rattle.core_fact.proofs.Standing.{Stood, as_before, is_gone, is_own, stands_after}

module _ (j : Job) (job : IsJob j) (actors : List (List ℕ)) (d : Disk) (s : State) (e : Event) (mem : Mem j.actor actors)
    (orderly : Orderly actors d.files d.locks) (is : IsNext (next j s) e) (agrees : Agrees d e) (known : Knows j s d)
    -- the job's names are no record names, and its token stands in no record of another name
    (free : (b n : List ℕ) → Mem b actors → Mem n (all_of j) → is_record_name b n ≡ false)
    (mine : (b : List ℕ) (r : Record) → Mem b actors → standing_in d.files b ≡ Some r → r.token ≡ j.token → b ≡ j.actor) where
  pub touch : Touches j.actor d e
  touch = own_touches j d (orderly.sound j.actor mem) s e is agrees known

  pub stay : (b : List ℕ) → Mem b actors → b ≢ j.actor → Stays b d.files (after d e).files
  stay b m ne = others_stay actors j.actor d e mem orderly touch b m ne

  pub stood : Stood j d (after d e)
  stood = stands_after j job d (orderly.sound j.actor mem) (λ r n e m. orderly.plain j.actor j.actor mem mem r n e m) s e is agrees known

  -- the record of an actor then: as before, or the own one of the job
  pub record_then : (b : List ℕ) → Mem b actors → (r : Record) → standing_in (after d e).files b ≡ Some r
      → (standing_in d.files b ≡ Some r) ⊎ ((b ≡ j.actor) × (r.token ≡ j.token) × (names_of r ≡ all_of j))
  record_then b m r h = elim (same_or_not b j.actor) [
    | inr p ↦ inl (sym (ap record_in (stay b m p.0).record_stays) ∙ h)
    | inl p ↦ go p.0 stood
  ]
    where
      go : b ≡ j.actor → Stood j d (after d e) → (standing_in d.files b ≡ Some r) ⊎ ((b ≡ j.actor) × (r.token ≡ j.token) × (names_of r ≡ all_of j))
      go same (as_before w) = inl (ap (λ (z : List ℕ). record_in (d.files (record_name z))) same ∙ sym (ap record_in w)
          ∙ ap (λ (z : List ℕ). record_in ((after d e).files (record_name z))) (sym same) ∙ h)
      go same (is_gone q st cl w) = absurd (let x : None ≡ Some r = sym w ∙ ap (λ (z : List ℕ). record_in ((after d e).files (record_name z))) (sym same) ∙ h in cc)
      go same (is_own q w t n was) =
          let x : Some q ≡ Some r = sym w ∙ ap (λ (z : List ℕ). record_in ((after d e).files (record_name z))) (sym same) ∙ h in
          let y : q ≡ r = cc in
          inr (same, ap (λ (z : Record). z.token) (sym y) ∙ t, ap names_of (sym y) ∙ n)

  -- the disk stays sound for another
  sound_other : (b : List ℕ) → Mem b actors → b ≢ j.actor → IsSoundAt b (after d e).files (after d e).locks
  sound_other b m ne =
      let w = stay b m ne in
      sound_same b d.files (after d e).files d.locks (after d e).locks w.record_stays
      (λ r n stands go mn some.
      let before : is_some (d.files (staged_name r.token n)) ≡ true = sym (ap is_some (w.staged_stays r n stands)) ∙ some in
      let put : puts (standing_in d.files b) d.files n ≡ true = put_is r n stands go mn before in (
        before,
        lock_stays j.actor d e r.token n touch agrees (λ q h same. ne (orderly.apart b j.actor m mem r q stands h.stands (sym same))),
        λ at way long. ap (reaches at) (w.file_stays n put) ∙ long,
      ))
      (orderly.sound b m)
    where
      put_is : (r : Record) (n : List ℕ) → standing_in d.files b ≡ Some r → is_go r ≡ true → Mem n (names_of r) → is_some (d.files (staged_name r.token n)) ≡ true
          → puts (standing_in d.files b) d.files n ≡ true
      put_is r n stands go mn before = subst (λ (o : Option Record). puts o d.files n ≡ true) (sym stands) (rw (go, Mem_has (names_of r) n mn, before) refl)

  pub orderly_after : Orderly actors (after d e).files (after d e).locks
  orderly_after = record {
    sound = λ b m. elim (same_or_not b j.actor) [
      | inl p ↦ subst (λ (z : List ℕ). IsSoundAt z (after d e).files (after d e).locks) (sym p.0)
          (Moments.own_step j job d (settled_files j.actor d) (settled_locks j.actor d) (λ n. refl) (λ n. refl) (orderly.sound j.actor mem) s e is agrees known).shows.sound
      | inr p ↦ sound_other b m p.0
    ];
    plain = λ a b ma mb r n h mn. elim (record_then a ma r h) [
      | inl w ↦ orderly.plain a b ma mb r n w mn
      | inr w ↦ free b n mb (subst (Mem n) w.2 mn)
    ];
    apart = λ a b ma mb r q h k same. elim (record_then a ma r h) [
      | inl w ↦ elim (record_then b mb q k) [
        | inl v ↦ orderly.apart a b ma mb r q w v same
        | inr v ↦ mine a r ma w (same ∙ v.1) ∙ sym v.0
      ]
      | inr w ↦ elim (record_then b mb q k) [
        | inl v ↦ w.0 ∙ sym (mine b q mb v (sym same ∙ w.1))
        | inr v ↦ w.0 ∙ sym v.0
      ]
    ];
  }
