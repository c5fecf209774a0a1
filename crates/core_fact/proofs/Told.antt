-- A file that stands at a name that only own calls touch is as they left or saw it.
use Rattle.std.proofs.Common.{◌≡◌, ◌≢◌, ℕ, true, false, List, Option, Some, None, is_some, refl, ap, sym, subst, inl, inr, ◌∙◌}
use Rattle.host_port.specs.declared.event.Event.{Event}
use Rattle.host_port.specs.declared.event.Event.TheVariants as event
use Rattle.host_port.specs.declared.event.Seen.TheVariants as seen
use Rattle.host_port.specs.Disk.{Disk, with_at, extended, after}
use Rattle.host_port.specs.Ran.{Agrees}
use Rattle.commit_machine.specs.Laws.{is_foreign}
use Rattle.commit_machine.proofs.records.Same.{same_or_not, put_here, put_there}
use Rattle.core_steps.proofs.Fact.{Sights, sight_at, extended_sight, file_sights, lock_sights}
use Rattle.core_fact.proofs.Remembered.{nothing_seen}

-- no file is put in place at the name, and it is no lock's
abbrev pub IsNotAt : List ℕ → Event → Type 0
IsNotAt n (event.Publish from to true failed) = (from ≢ to) × (n ≢ to)
IsNotAt n (event.Lock m t true failed) = n ≢ m
IsNotAt n (event.Unlock m t true failed) = n ≢ m
IsNotAt n e = Unit {0}

-- a file that stands was seen
abbrev pub IsTold : Sights (List ℕ) → (List ℕ → Option (List ℕ)) → List ℕ → Type 0
IsTold old now n = is_some (now n) ≡ true → old n ≡ Some (now n)

told_put : (old : Sights (List ℕ)) (now : List ℕ → Option (List ℕ)) (m n : List ℕ) (sight : Option (Option (List ℕ))) (value : Option (List ℕ)) → (is_some value ≡ true → sight ≡ Some value)
    → IsTold old now n → IsTold (sight_at old m sight) (with_at now m value) n
told_put old now m n sight value here was some = elim (same_or_not n m) [
  | inl p ↦
      let is : with_at now m value n ≡ value = ap (with_at now m value) p.0 ∙ put_here now m value in
      ap (sight_at old m sight) p.0 ∙ put_here old m sight ∙ here (sym (ap is_some is) ∙ some) ∙ ap Some (sym is)
  | inr p ↦
      let is : with_at now m value n ≡ now n = put_there now m n value p.0 in
      put_there old m n sight p.0 ∙ was (sym (ap is_some is) ∙ some) ∙ ap Some (sym is)
]

told_forgotten : (old : Sights (List ℕ)) (now : List ℕ → Option (List ℕ)) (m n : List ℕ) → n ≢ m → IsTold old now n → IsTold (sight_at old m None) now n
told_forgotten old now m n ne was some = put_there old m n None ne ∙ was some

told_extended : (sight : Option (Option (List ℕ))) (file : Option (List ℕ)) (at : ℕ) (tail : List ℕ) → (is_some file ≡ true → sight ≡ Some file) → is_some (extended file at tail) ≡ true
    → extended_sight sight at tail ≡ Some (extended file at tail)
told_extended sight None at tail was some = absurd (cc)
told_extended sight (Some bytes) at tail was some = ap (λ (z : Option (Option (List ℕ))). extended_sight z at tail) (was refl)

none_some : {P : Type 0} → is_some {T = List ℕ} None ≡ true → P
none_some e = absurd (cc)

pub told_after : (old : Sights (List ℕ)) (d : Disk) (e : Event) (n : List ℕ) → is_foreign e ≡ false → Agrees d e → IsNotAt n e → IsTold old d.files n → IsTold (file_sights old e) (after d e).files n
told_after old d (event.Load m (seen.Bytes c held)) n own agrees at was = λ some. elim (same_or_not n m) [
  | inl p ↦ ap (sight_at old m (Some c)) p.0 ∙ put_here old m (Some c) ∙ ap Some (agrees.0 ∙ ap d.files (sym p.0))
  | inr p ↦ put_there old m n (Some c) p.0 ∙ was some
]
told_after old d (event.Load m (seen.TooLarge k)) n own agrees at was = was
told_after old d (event.Load m seen.Failed) n own agrees at was = was
told_after old d (event.Load m seen.Memory) n own agrees at was = was
told_after old d (event.Stage m c failed) n own agrees at was = told_put old d.files m n (Some c) c (λ some. refl) was
told_after old d (event.Publish from to true failed) n own agrees at was = λ some. elim (same_or_not n from) [
  | inl p ↦
      let gone : with_at (with_at d.files from None) to (d.files from) n ≡ None =
      ap (with_at (with_at d.files from None) to (d.files from)) p.0 ∙ put_there (with_at d.files from None) to from (d.files from) at.0 ∙ put_here d.files from None in
      none_some (sym (ap is_some gone) ∙ some)
  | inr p ↦
      let is : with_at (with_at d.files from None) to (d.files from) n ≡ d.files n = put_there (with_at d.files from None) to n (d.files from) at.1 ∙ put_there d.files from n None p.0 in
      put_there (sight_at old to (old from)) from n (Some None) p.0 ∙ put_there old to n (old from) at.1 ∙ was (sym (ap is_some is) ∙ some) ∙ ap Some (sym is)
]
told_after old d (event.Publish from to false failed) n own agrees at was = was
told_after old d (event.Extend m at tail failed) n own agrees free was = λ some. elim (same_or_not n m) [
  | inl p ↦
      let is : with_at d.files m (extended (d.files m) at tail) n ≡ extended (d.files m) at tail =
      ap (with_at d.files m (extended (d.files m) at tail)) p.0 ∙ put_here d.files m (extended (d.files m) at tail) in
      ap (sight_at old m (extended_sight (old m) at tail)) p.0 ∙ put_here old m (extended_sight (old m) at tail)
      ∙ told_extended (old m) (d.files m) at tail (subst (λ (z : List ℕ). IsTold old d.files z) p.0 was) (sym (ap is_some is) ∙ some) ∙ ap Some (sym is)
  | inr p ↦
      let is : with_at d.files m (extended (d.files m) at tail) n ≡ d.files n = put_there d.files m n (extended (d.files m) at tail) p.0 in
      put_there old m n (extended_sight (old m) at tail) p.0 ∙ was (sym (ap is_some is) ∙ some) ∙ ap Some (sym is)
]
told_after old d (event.Erase m true failed) n own agrees at was = told_put old d.files m n (Some None) None (λ some. refl) was
told_after old d (event.Erase m false failed) n own agrees at was = was
told_after old d (event.Lock m t true failed) n own agrees at was = told_forgotten old d.files m n at was
told_after old d (event.Lock m t false failed) n own agrees at was = was
told_after old d (event.Unlock m t true failed) n own agrees at was = told_forgotten old d.files m n at was
told_after old d (event.Unlock m t false failed) n own agrees at was = was
told_after old d (event.Seize m true failed) n own agrees at was = was
told_after old d (event.Seize m false failed) n own agrees at was = was
told_after old d (event.Foreign f) n own agrees at was = absurd (cc)
told_after old d e n own agrees at was = was

-- what is seen of a file that is locked was seen after the lock
pub locked_before : (files : Sights (List ℕ)) (locks : Sights ℕ) (e : Event) (n : List ℕ) (u : ℕ) (c : Option (List ℕ)) → lock_sights locks e n ≡ Some (Some u) → file_sights files e n ≡ Some c
    → locks n ≡ Some (Some u)
locked_before files locks (event.Lock m t true failed) n u c l f = elim (same_or_not n m) [
  | inl p ↦ nothing_seen c (sym (ap (sight_at files m None) p.0 ∙ put_here files m None) ∙ f)
  | inr p ↦ sym (put_there locks m n (Some (Some t)) p.0) ∙ l
]
locked_before files locks (event.Unlock m t true failed) n u c l f = elim (same_or_not n m) [
  | inl p ↦ nothing_seen c (sym (ap (sight_at files m None) p.0 ∙ put_here files m None) ∙ f)
  | inr p ↦ sym (put_there locks m n (Some None) p.0) ∙ l
]
locked_before files locks (event.Lock m t false failed) n u c l f = l
locked_before files locks (event.Unlock m t false failed) n u c l f = l
locked_before files locks e n u c l f = l
