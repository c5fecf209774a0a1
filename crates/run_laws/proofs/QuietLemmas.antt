-- What another of the same name does while no record stands is lawful, if it only looks, takes rights and takes record names away.
use Rattle.std.proofs.Common.{◌≡◌, ◌≢◌, ℕ, true, false, ◌==◌, List, [], ◌∷◌, ◌++◌, map, Option, Some, None, refl, ap, sym, subst, inl, inr, ◌∙◌}
use Rattle.std.proofs.lemmas.Bool.{cases_Bool, eqb-true, ne_eqb}
use Rattle.host_port.specs.declared.event.Event.{Event}
use Rattle.host_port.specs.declared.event.Event.TheVariants as event
use Rattle.host_port.specs.declared.event.ForeignStep.{ForeignStep}
use Rattle.host_port.specs.declared.event.ForeignStep.TheVariants.{Write, Remove, Lock, Unlock, Seize, Release}
use Rattle.host_port.specs.declared.event.Holder.{Holder}
use Rattle.host_port.specs.declared.event.Holder.TheVariants.{Own, Other}
use Rattle.host_port.specs.Disk.{Disk, with_at, after_step, disk, taken, without_other}
use Rattle.commit_machine.specs.Names.{record_name, right_name, is_record_name}
use Rattle.commit_machine.specs.Records.{record_in}
use Rattle.commit_machine.specs.Settled.{Mem}
use Rattle.commit_machine.specs.Lawful.{IsSound, HasRight, standing, IsLawful, OthersAreLawful}
use Rattle.commit_machine.proofs.records.Same.{same_or_not, put_here, put_there}
use Rattle.core_fact.proofs.Heart.{names_apart}
use Rattle.core_steps.specs.Cores.{holder_for}

-- a right that another has isn't had
pub had_by_other : (k i : ℕ) (h : Option ℕ) → i ≢ k → holder_for i h ≡ Some Own → holder_for k h ≡ Some Own → ⊥
had_by_other k i None ne theirs ours = absurd (cc)
had_by_other k i (Some j) ne theirs ours = elim (cases_Bool (j == i)) [
  | inl y ↦ (
      let e : j ≡ i = eqb-true j i y in
      let n : (j == k) ≡ false = ne_eqb j k (λ p. ne (sym e ∙ p)) in
      let other : holder_for k (Some j) ≡ Some Other = rw n refl in absurd (let w : Some Other ≡ Some Own = sym other ∙ ours in cc))
  | inr n ↦ (let other : holder_for i (Some j) ≡ Some Other = rw n refl in absurd (let w : Some Other ≡ Some Own = sym other ∙ theirs in cc))
]

module _ (a : List ℕ) (t : ℕ) where
  -- no record stands, and the actor hasn't its right
  pub record IsIdle (d : Disk) : Type 0 where
    pub none : standing a d ≡ None
    pub no_right : HasRight a d → ⊥

  -- one of the actor's record names, on which no lock stands
  pub record IsFree (d : Disk) (n : List ℕ) : Type 0 where
    pub record_one : is_record_name a n ≡ true
    pub unlocked : (u : ℕ) → d.locks n ≢ Some u
    pub idle : IsIdle d

  abbrev pub IsQuietStep : Disk → ForeignStep → Type 0
  IsQuietStep d (Write n bytes) = ⊥
  IsQuietStep d (Remove n) = IsFree d n
  IsQuietStep d (Lock n u) = ⊥
  IsQuietStep d (Unlock n u) = ⊥
  IsQuietStep d (Seize n) = Unit {0}
  IsQuietStep d (Release n) = Unit {0}

  quiet_lawful : (d : Disk) (f : ForeignStep) → IsQuietStep d f → IsLawful a t d f
  quiet_lawful d (Write n bytes) never = absurd never
  quiet_lawful d (Remove n) h = record {
    unlocked = λ u guarded. h.unlocked u;
    unstaged = λ u m guarded is. names_apart a n u m is h.record_one;
    no_right = λ is right. h.idle.no_right right;
    no_record = λ is. h.idle.none;
    fresh = λ r is read. absurd (cc);
  }
  quiet_lawful d (Lock n u) never = absurd never
  quiet_lawful d (Unlock n u) never = absurd never
  quiet_lawful d (Seize n) h = tt
  quiet_lawful d (Release n) h = tt

  right_before : (rights : List ℕ → Option Holder) (n q : List ℕ) (v : Option Holder) → (v ≡ Some Own → rights n ≡ Some Own) → with_at rights n v q ≡ Some Own → rights q ≡ Some Own
  right_before rights n q v was h = elim (same_or_not q n) [
    | inl p ↦ (ap rights p.0 ∙ was (sym (put_here rights n v) ∙ subst (λ (z : List ℕ). with_at rights n v z ≡ Some Own) p.0 h))
    | inr p ↦ (sym (put_there rights n q v p.0) ∙ h)
  ]

  own_taken : (h : Option Holder) → taken h ≡ Some Own → h ≡ Some Own
  own_taken None is = absurd (cc)
  own_taken (Some h) is = is

  own_left : (h : Option Holder) → without_other h ≡ Some Own → h ≡ Some Own
  own_left None is = absurd (cc)
  own_left (Some Own) is = refl
  own_left (Some Other) is = absurd (cc)

  none_then : (d : Disk) (n : List ℕ) → standing a d ≡ None → record_in (with_at d.files n None (record_name a)) ≡ None
  none_then d n none = elim (same_or_not (record_name a) n) [
    | inl p ↦ ap record_in (subst (λ (z : List ℕ). with_at d.files n None z ≡ None) (sym p.0) (put_here d.files n None))
    | inr p ↦ (ap record_in (put_there d.files n (record_name a) None p.0) ∙ none)
  ]

  idle_then : (d : Disk) (f : ForeignStep) → IsQuietStep d f → IsIdle d → IsIdle (after_step d f)
  idle_then d (Write n bytes) never idle = absurd never
  idle_then d (Remove n) h idle = record { none = none_then d n idle.none; no_right = idle.no_right }
  idle_then d (Lock n u) never idle = absurd never
  idle_then d (Unlock n u) never idle = absurd never
  idle_then d (Seize n) h idle = record {
    none = idle.none;
    no_right = λ right. idle.no_right (right_before d.rights n (right_name a) (taken (d.rights n)) (own_taken (d.rights n)) right);
  }
  idle_then d (Release n) h idle = record {
    none = idle.none;
    no_right = λ right. idle.no_right (right_before d.rights n (right_name a) (without_other (d.rights n)) (own_left (d.rights n)) right);
  }

  locks_stay : (d : Disk) (f : ForeignStep) → IsQuietStep d f → (n : List ℕ) → (after_step d f).locks n ≡ d.locks n
  locks_stay d (Write n bytes) never m = absurd never
  locks_stay d (Remove n) h m = refl
  locks_stay d (Lock n u) never m = absurd never
  locks_stay d (Unlock n u) never m = absurd never
  locks_stay d (Seize n) h m = refl
  locks_stay d (Release n) h m = refl

  quiet_then : (d : Disk) (f g : ForeignStep) → IsQuietStep d f → IsQuietStep d g → IsQuietStep (after_step d f) g
  quiet_then d f (Write n bytes) h never = never
  quiet_then d f (Remove n) h k = record {
    record_one = k.record_one;
    unlocked = λ u l. k.unlocked u (sym (locks_stay d f h n) ∙ l);
    idle = idle_then d f h k.idle;
  }
  quiet_then d f (Lock n u) h never = never
  quiet_then d f (Unlock n u) h never = never
  quiet_then d f (Seize n) h k = tt
  quiet_then d f (Release n) h k = tt

  sound_none : (d : Disk) → standing a d ≡ None → IsSound a d
  sound_none d none = record {
    plain = λ r n is go m. absurd (let w : None ≡ Some r = sym none ∙ is in cc);
    locked = λ r n is go m some. absurd (let w : None ≡ Some r = sym none ∙ is in cc);
    long = λ r n at is go m way some. absurd (let w : None ≡ Some r = sym none ∙ is in cc);
  }

  quiet_sound : (d : Disk) (f : ForeignStep) → IsQuietStep d f → IsSound a d → IsSound a (after_step d f)
  quiet_sound d (Write n bytes) never sound = absurd never
  quiet_sound d (Remove n) h sound = sound_none (after_step d (Remove n)) (none_then d n h.idle.none)
  quiet_sound d (Lock n u) never sound = absurd never
  quiet_sound d (Unlock n u) never sound = absurd never
  quiet_sound d (Seize n) h sound = sound
  quiet_sound d (Release n) h sound = sound

  -- one after another
  pub quiet_ones : (steps : List ForeignStep) (d : Disk) (es : List Event) → IsSound a d → ((f : ForeignStep) → Mem f steps → IsQuietStep d f)
      → OthersAreLawful a t (disk d (map event.Foreign steps)) es → OthersAreLawful a t d (map event.Foreign steps ++ es)
  quiet_ones [] d es sound each more = more
  quiet_ones (f ∷ steps) d es sound each more =
      let first : IsQuietStep d f = each f (inl refl) in (
        quiet_lawful d f first,
        quiet_sound d f first sound,
        quiet_ones steps (after_step d f) es (quiet_sound d f first sound) (λ g m. quiet_then d f g first (each g (inr m))) more,
      )
