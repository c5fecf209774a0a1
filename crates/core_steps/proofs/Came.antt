-- Whence a file or a lock is, after an own event, and that the event takes no right of another's.
use Rattle.std.proofs.Common.{◌≡◌, ◌⊎◌, ℕ, Bool, true, false, List, Option, Some, None, refl, ap, sym, subst, inl, inr, ◌∙◌}
use Rattle.commit_record.specs.declared.record.Record.{Record}
use Rattle.host_port.specs.declared.event.Event.{Event}
use Rattle.host_port.specs.declared.event.Event.TheVariants as event
use Rattle.host_port.specs.declared.event.Holder.{Holder}
use Rattle.host_port.specs.declared.event.Holder.TheVariants.{Own, Other}
use Rattle.host_port.specs.Disk.{Disk, with_at, without_own, extended, after}
use Rattle.host_port.specs.Ends.{is_open}
use Rattle.host_port.specs.Ran.{Agrees}
use Rattle.commit_machine.specs.Records.{names_of}
use Rattle.commit_machine.specs.Settled.{Mem}
use Rattle.commit_machine.specs.Laws.{is_foreign}
use Rattle.commit_machine.proofs.records.Same.{same_or_not, put_here, put_there}
use Rattle.core_steps.proofs.Touching.{Held, IsOwnName, Touches}
use Rattle.core_steps.proofs.Others.{allowed}

stays_at : {A : Type 0} (f : List ℕ → Option A) (n m : List ℕ) (v : Option A) (P : List ℕ → Type 0) → P n → (with_at f n v m ≡ f m) ⊎ P m
stays_at f n m v P p = elim (same_or_not m n) [ inl e ↦ inr (subst P (sym e.0) p) | inr e ↦ inl (put_there f n m v e.0) ]

-- the file is as it was, or the name is the actor's own
pub file_from : (a : List ℕ) (d : Disk) (e : Event) (m : List ℕ) → Touches a d e → ((after d e).files m ≡ d.files m) ⊎ IsOwnName a d m
file_from a d (event.Stage n c failed) m t = stays_at d.files n m c (IsOwnName a d) t
file_from a d (event.Publish from to true failed) m t =
    elim (stays_at (with_at d.files from None) to m (d.files from) (IsOwnName a d) (t refl).1) [
      | inr p ↦ inr p
      | inl p ↦ elim (stays_at d.files from m None (IsOwnName a d) (t refl).0) [ inr q ↦ inr q | inl q ↦ inl (p ∙ q) ]
    ]
file_from a d (event.Publish from to false failed) m t = inl refl
file_from a d (event.Extend n at c failed) m t = stays_at d.files n m (extended (d.files n) at c) (IsOwnName a d) t
file_from a d (event.Erase n true failed) m t = stays_at d.files n m None (IsOwnName a d) t
file_from a d (event.Erase n false failed) m t = inl refl
file_from a d (event.Lock n u true failed) m t = inl refl
file_from a d (event.Lock n u false failed) m t = inl refl
file_from a d (event.Unlock n u true failed) m t = inl refl
file_from a d (event.Unlock n u false failed) m t = inl refl
file_from a d (event.Seize n true failed) m t = inl refl
file_from a d (event.Seize n false failed) m t = inl refl
file_from a d (event.Foreign f) m t = absurd t
file_from a d e m t = inl refl

-- the lock stood, or the record that stands names the file and has the token
pub lock_from : (a : List ℕ) (d : Disk) (e : Event) (u : ℕ) (m : List ℕ) → Touches a d e → (after d e).locks m ≡ Some u
    → (d.locks m ≡ Some u) ⊎ ((r : Record) × Held a r d × Mem m (names_of r) × (r.token ≡ u))
lock_from a d (event.Lock n v true failed) u m t h = elim (same_or_not m n) [
  | inr p ↦ inl (sym (put_there d.locks n m (Some v) p.0) ∙ h)
  | inl p ↦
      let here : Some v ≡ Some u = sym (ap (with_at d.locks n (Some v)) p.0 ∙ put_here d.locks n (Some v)) ∙ h in
      let same : v ≡ u = cc in
      inr (t.0, t.1, subst (λ (z : List ℕ). Mem z (names_of t.0)) (sym p.0) t.2, sym t.3 ∙ same)
]
lock_from a d (event.Lock n v false failed) u m t h = inl h
lock_from a d (event.Unlock n v true failed) u m t h = elim (same_or_not m n) [
  | inr p ↦ inl (sym (put_there d.locks n m None p.0) ∙ h)
  | inl p ↦ absurd (let w : ◌≡◌ {A = Option ℕ} None (Some u) = sym (ap (with_at d.locks n None) p.0 ∙ put_here d.locks n None) ∙ h in cc)
]
lock_from a d (event.Unlock n v false failed) u m t h = inl h
lock_from a d (event.Publish from to true failed) u m t h = inl h
lock_from a d (event.Publish from to false failed) u m t h = inl h
lock_from a d (event.Erase n true failed) u m t h = inl h
lock_from a d (event.Erase n false failed) u m t h = inl h
lock_from a d (event.Seize n true failed) u m t h = inl h
lock_from a d (event.Seize n false failed) u m t h = inl h
lock_from a d (event.Foreign f) u m t h = absurd t
lock_from a d e u m t h = inl h

right_at : (P : Option Holder → Type 0) (rights : List ℕ → Option Holder) (n q : List ℕ) (v : Option Holder) → P (rights q) → (P (rights n) → P v) → P (with_at rights n v q)
right_at P rights n q v h stays = elim (same_or_not q n) [
  | inl p ↦ subst P (sym (ap (with_at rights n v) p.0 ∙ put_here rights n v)) (stays (subst (λ (z : List ℕ). P (rights z)) p.0 h))
  | inr p ↦ subst P (sym (put_there rights n q v p.0)) h
]

-- an own event leaves the right of another
pub others_right : (d : Disk) (e : Event) (q : List ℕ) → is_foreign e ≡ false → Agrees d e → d.rights q ≡ Some Other → (after d e).rights q ≡ Some Other
others_right d (event.Seize n true failed) q own agrees h =
    right_at (λ r. r ≡ Some Other) d.rights n q (Some Own) h
    (λ e. let open_so : is_open (d.rights n) ≡ true = allowed (is_open (d.rights n)) true failed refl agrees in absurd (let shut : is_open (d.rights n) ≡ false = ap is_open e in cc))
others_right d (event.Seize n false failed) q own agrees h = h
others_right d (event.Release n) q own agrees h = right_at (λ r. r ≡ Some Other) d.rights n q (without_own (d.rights n)) h (λ e. ap without_own e)
others_right d (event.Publish from to true failed) q own agrees h = h
others_right d (event.Publish from to false failed) q own agrees h = h
others_right d (event.Erase n true failed) q own agrees h = h
others_right d (event.Erase n false failed) q own agrees h = h
others_right d (event.Lock n t true failed) q own agrees h = h
others_right d (event.Lock n t false failed) q own agrees h = h
others_right d (event.Unlock n t true failed) q own agrees h = h
others_right d (event.Unlock n t false failed) q own agrees h = h
others_right d (event.Foreign f) q own agrees h = absurd (cc)
others_right d e q own agrees h = h

abbrev pub is_giving_up : Event → Bool
is_giving_up (event.Release n) = true
is_giving_up e = false

-- and the own one, if it isn't given up
pub own_right : (d : Disk) (e : Event) (q : List ℕ) → is_foreign e ≡ false → is_giving_up e ≡ false → d.rights q ≡ Some Own → (after d e).rights q ≡ Some Own
own_right d (event.Seize n true failed) q own keeps h = right_at (λ r. r ≡ Some Own) d.rights n q (Some Own) h (λ e. refl)
own_right d (event.Seize n false failed) q own keeps h = h
own_right d (event.Release n) q own keeps h = absurd (cc)
own_right d (event.Publish from to true failed) q own keeps h = h
own_right d (event.Publish from to false failed) q own keeps h = h
own_right d (event.Erase n true failed) q own keeps h = h
own_right d (event.Erase n false failed) q own keeps h = h
own_right d (event.Lock n t true failed) q own keeps h = h
own_right d (event.Lock n t false failed) q own keeps h = h
own_right d (event.Unlock n t true failed) q own keeps h = h
own_right d (event.Unlock n t false failed) q own keeps h = h
own_right d (event.Foreign f) q own keeps h = absurd (cc)
own_right d e q own keeps h = h
