-- What an own event makes of what was seen and left, and of the files and locks.
use Rattle.std.proofs.Common.{◌≡◌, ◌≢◌, ℕ, Bool, true, false, List, [], ◌∷◌, ◌++◌, Option, Some, None, refl, ap, sym, subst, inl, inr, ◌∙◌}
use Rattle.host_port.specs.declared.event.Event.{Event}
use Rattle.host_port.specs.declared.event.Event.TheVariants as event
use Rattle.host_port.specs.declared.event.Seen.TheVariants as seen
use Rattle.host_port.specs.Disk.{Disk, with_at, extended, after}
use Rattle.host_port.specs.Ran.{Agrees}
use Rattle.commit_machine.specs.Laws.{is_foreign}
use Rattle.commit_machine.proofs.records.Same.{same_or_not, put_here, put_there}
use Rattle.core_steps.specs.declared.actor.Past.{Past}
use Rattle.core_steps.specs.declared.actor.Past.TheVariants.{Shown, Wanted}
use Rattle.core_steps.proofs.Fact.{Sights, sight_at, extended_sight, file_sights, lock_sights, sights_from, right_sights}

pub sights_at_end : {A : Type 0} (go : Sights A → Event → Sights A) (old : Sights A) (past : List Past) (e : Event) → sights_from go old (past ++ Shown e ∷ []) ≡ go (sights_from go old past) e
sights_at_end go old [] e = refl
sights_at_end go old (Shown x ∷ past) e = sights_at_end go (go old x) past e
sights_at_end go old (Wanted ∷ past) e = sights_at_end go old past e

pub sights_wanted : {A : Type 0} (go : Sights A → Event → Sights A) (old : Sights A) (past : List Past) → sights_from go old (past ++ Wanted ∷ []) ≡ sights_from go old past
sights_wanted go old [] = refl
sights_wanted go old (Shown x ∷ past) = sights_wanted go (go old x) past
sights_wanted go old (Wanted ∷ past) = sights_wanted go old past

pub right_at_end : (has : Bool) (past : List Past) (p : Past) → right_sights has (past ++ p ∷ []) ≡ right_sights (right_sights has past) (p ∷ [])
right_at_end has [] p = refl
right_at_end has (Shown (event.Seize n got failed) ∷ past) p = right_at_end got past p
right_at_end has (Shown (event.Release n) ∷ past) p = right_at_end false past p
right_at_end has (Shown e ∷ past) p = right_at_end has past p
right_at_end has (Wanted ∷ past) p = right_at_end has past p

sight_here : {A : Type 0} (old : Sights A) (n : List ℕ) (sight : Option (Option A)) → sight_at old n sight n ≡ sight
sight_here old n sight = put_here old n sight

sight_there : {A : Type 0} (old : Sights A) (n m : List ℕ) (sight : Option (Option A)) → m ≢ n → sight_at old n sight m ≡ old m
sight_there old n m sight ne = put_there old n m sight ne

-- what is seen of a name is so
abbrev pub IsSeen : {A : Type 0} → Sights A → (List ℕ → Option A) → List ℕ → Type 0
IsSeen {A} old now n = (c : Option A) → old n ≡ Some c → now n ≡ c

-- a file that is put elsewhere was seen, if it was put at this name
abbrev pub FromIsSeen : Sights (List ℕ) → Disk → List ℕ → Event → Type 0
FromIsSeen old d n (event.Publish from to true failed) = (from ≢ to) × (n ≡ to → IsSeen old d.files from)
FromIsSeen old d n e = Unit {0}

-- where one name is touched
at_one : {A : Type 0} (old : Sights A) (now : List ℕ → Option A) (m n : List ℕ) (sight : Option (Option A)) (value : Option A) → ((c : Option A) → sight ≡ Some c → value ≡ c) → IsSeen old now n
    → IsSeen (sight_at old m sight) (with_at now m value) n
at_one old now m n sight value here was c e = elim (same_or_not n m) [
  | inl p ↦ ap (with_at now m value) p.0 ∙ put_here now m value ∙ here c (sym (ap (sight_at old m sight) p.0 ∙ sight_here old m sight) ∙ e)
  | inr p ↦ put_there now m n value p.0 ∙ was c (sym (sight_there old m n sight p.0) ∙ e)
]

-- where one sight is forgotten, or the name is seen anew
at_sight : {A : Type 0} (old : Sights A) (now : List ℕ → Option A) (m n : List ℕ) (sight : Option (Option A)) → ((c : Option A) → sight ≡ Some c → now m ≡ c) → IsSeen old now n
    → IsSeen (sight_at old m sight) now n
at_sight old now m n sight here was c e = elim (same_or_not n m) [
  | inl p ↦ ap now p.0 ∙ here c (sym (ap (sight_at old m sight) p.0 ∙ sight_here old m sight) ∙ e)
  | inr p ↦ was c (sym (sight_there old m n sight p.0) ∙ e)
]

extended_seen : (sight : Option (Option (List ℕ))) (file : Option (List ℕ)) (at : ℕ) (tail : List ℕ) → ((c : Option (List ℕ)) → sight ≡ Some c → file ≡ c) → (c : Option (List ℕ))
    → extended_sight sight at tail ≡ Some c → extended file at tail ≡ c
extended_seen None file at tail was c e = absurd (cc)
extended_seen (Some f) file at tail was c e = let w : extended f at tail ≡ c = (cc) in ap (λ (z : Option (List ℕ)). extended z at tail) (was f refl) ∙ w

pub known_one : {A : Type 0} (x : Option A) (c : Option A) → Some x ≡ Some c → x ≡ c
known_one x c e = (cc)

-- what an own event leaves and shows of a file is so, if what was seen before was
pub seen_after : (old : Sights (List ℕ)) (d : Disk) (e : Event) (n : List ℕ) → is_foreign e ≡ false → Agrees d e → FromIsSeen old d n e → IsSeen old d.files n
    → IsSeen (file_sights old e) (after d e).files n
seen_after old d (event.Load m (seen.Bytes c held)) n own agrees from was = at_sight old d.files m n (Some c) (λ x p. sym agrees.0 ∙ known_one c x p) was
seen_after old d (event.Load m (seen.TooLarge k)) n own agrees from was = was
seen_after old d (event.Load m seen.Failed) n own agrees from was = was
seen_after old d (event.Load m seen.Memory) n own agrees from was = was
seen_after old d (event.Stage m c failed) n own agrees from was = at_one old d.files m n (Some c) c (known_one c) was
seen_after old d (event.Publish from to true failed) n own agrees fromed was = λ c e. elim (same_or_not n from) [
  | inl p ↦
      ap (with_at (with_at d.files from None) to (d.files from)) p.0 ∙ put_there (with_at d.files from None) to from (d.files from) fromed.0 ∙ put_here d.files from None
      ∙ known_one None c (sym (ap (sight_at (sight_at old to (old from)) from (Some None)) p.0 ∙ sight_here (sight_at old to (old from)) from (Some None)) ∙ e)
  | inr p ↦
      let inner : sight_at old to (old from) n ≡ Some c = sym (sight_there (sight_at old to (old from)) from n (Some None) p.0) ∙ e in
      elim (same_or_not n to) [
        | inl q ↦
            ap (with_at (with_at d.files from None) to (d.files from)) q.0 ∙ put_here (with_at d.files from None) to (d.files from)
            ∙ fromed.1 q.0 c (sym (ap (sight_at old to (old from)) q.0 ∙ sight_here old to (old from)) ∙ inner)
        | inr q ↦ put_there (with_at d.files from None) to n (d.files from) q.0 ∙ put_there d.files from n None p.0 ∙ was c (sym (sight_there old to n (old from) q.0) ∙ inner)
      ]
]
seen_after old d (event.Publish from to false failed) n own agrees fromed was = was
seen_after old d (event.Extend m at tail failed) n own agrees from was = λ c e. elim (same_or_not n m) [
  | inl p ↦
      ap (with_at d.files m (extended (d.files m) at tail)) p.0 ∙ put_here d.files m (extended (d.files m) at tail)
      ∙ extended_seen (old m) (d.files m) at tail (subst (λ (z : List ℕ). IsSeen old d.files z) p.0 was) c
      (sym (ap (sight_at old m (extended_sight (old m) at tail)) p.0 ∙ sight_here old m (extended_sight (old m) at tail)) ∙ e)
  | inr p ↦ put_there d.files m n (extended (d.files m) at tail) p.0 ∙ was c (sym (sight_there old m n (extended_sight (old m) at tail) p.0) ∙ e)
]
seen_after old d (event.Erase m true failed) n own agrees from was = at_one old d.files m n (Some None) None (known_one None) was
seen_after old d (event.Erase m false failed) n own agrees from was = was
seen_after old d (event.Lock m t true failed) n own agrees from was = at_sight old d.files m n None (λ c p. absurd (cc)) was
seen_after old d (event.Lock m t false failed) n own agrees from was = was
seen_after old d (event.Unlock m t true failed) n own agrees from was = at_sight old d.files m n None (λ c p. absurd (cc)) was
seen_after old d (event.Unlock m t false failed) n own agrees from was = was
seen_after old d (event.Seize m true failed) n own agrees from was = was
seen_after old d (event.Seize m false failed) n own agrees from was = was
seen_after old d (event.Foreign f) n own agrees from was = absurd (cc)
seen_after old d e n own agrees from was = was

-- the same of a lock
pub lock_seen_after : (old : Sights ℕ) (d : Disk) (e : Event) (n : List ℕ) (l : Option ℕ) → is_foreign e ≡ false → (old n ≡ Some l → d.locks n ≡ l) → lock_sights old e n ≡ Some l
    → (after d e).locks n ≡ l
lock_seen_after old d (event.Lock m t true failed) n l own was e = elim (same_or_not n m) [
  | inl p ↦ ap (with_at d.locks m (Some t)) p.0 ∙ put_here d.locks m (Some t) ∙ known_one (Some t) l (sym (ap (sight_at old m (Some (Some t))) p.0 ∙ sight_here old m (Some (Some t))) ∙ e)
  | inr p ↦ put_there d.locks m n (Some t) p.0 ∙ was (sym (sight_there old m n (Some (Some t)) p.0) ∙ e)
]
lock_seen_after old d (event.Unlock m t true failed) n l own was e = elim (same_or_not n m) [
  | inl p ↦ ap (with_at d.locks m None) p.0 ∙ put_here d.locks m None ∙ known_one None l (sym (ap (sight_at old m (Some None)) p.0 ∙ sight_here old m (Some None)) ∙ e)
  | inr p ↦ put_there d.locks m n None p.0 ∙ was (sym (sight_there old m n (Some None) p.0) ∙ e)
]
lock_seen_after old d (event.Lock m t false failed) n l own was e = was e
lock_seen_after old d (event.Unlock m t false failed) n l own was e = was e
lock_seen_after old d (event.Publish from to true failed) n l own was e = was e
lock_seen_after old d (event.Publish from to false failed) n l own was e = was e
lock_seen_after old d (event.Erase m true failed) n l own was e = was e
lock_seen_after old d (event.Erase m false failed) n l own was e = was e
lock_seen_after old d (event.Seize m true failed) n l own was e = was e
lock_seen_after old d (event.Seize m false failed) n l own was e = was e
lock_seen_after old d (event.Foreign f) n l own was e = absurd (cc)
lock_seen_after old d x n l own was e = was e

-- what stands of a lock was seen: so it is after an event
pub lock_told_after : (old : Sights ℕ) (d : Disk) (e : Event) (n : List ℕ) (u : ℕ) (P : Option (Option ℕ) → Type 0) → is_foreign e ≡ false → P (Some (Some u)) → (d.locks n ≡ Some u → P (old n))
    → (after d e).locks n ≡ Some u → P (lock_sights old e n)
lock_told_after old d (event.Lock m t true failed) n u P own here was h = elim (same_or_not n m) [
  | inl p ↦
      let same : Some t ≡ Some u = sym (ap (with_at d.locks m (Some t)) p.0 ∙ put_here d.locks m (Some t)) ∙ h in
      subst P (sym (ap (sight_at old m (Some (Some t))) p.0 ∙ sight_here old m (Some (Some t)) ∙ ap Some same)) here
  | inr p ↦ subst P (sym (sight_there old m n (Some (Some t)) p.0)) (was (sym (put_there d.locks m n (Some t) p.0) ∙ h))
]
lock_told_after old d (event.Unlock m t true failed) n u P own here was h = elim (same_or_not n m) [
  | inl p ↦ absurd (let w : ◌≡◌ {A = Option ℕ} None (Some u) = sym (ap (with_at d.locks m None) p.0 ∙ put_here d.locks m None) ∙ h in cc)
  | inr p ↦ subst P (sym (sight_there old m n (Some None) p.0)) (was (sym (put_there d.locks m n None p.0) ∙ h))
]
lock_told_after old d (event.Lock m t false failed) n u P own here was h = was h
lock_told_after old d (event.Unlock m t false failed) n u P own here was h = was h
lock_told_after old d (event.Publish from to true failed) n u P own here was h = was h
lock_told_after old d (event.Publish from to false failed) n u P own here was h = was h
lock_told_after old d (event.Erase m true failed) n u P own here was h = was h
lock_told_after old d (event.Erase m false failed) n u P own here was h = was h
lock_told_after old d (event.Seize m true failed) n u P own here was h = was h
lock_told_after old d (event.Seize m false failed) n u P own here was h = was h
lock_told_after old d (event.Foreign f) n u P own here was h = absurd (cc)
lock_told_after old d x n u P own here was h = was h
