-- Steps that touch nothing of an actor are lawful beside it, and keep the disk sound for it.
use Rattle.std.proofs.Common.{◌≡◌, ◌≢◌, ℕ, true, false, List, [], ◌∷◌, ◌++◌, map, Option, Some, None, is_some, refl, ap, sym, subst, inl, inr, ◌∙◌}
use Rattle.std.proofs.lemmas.Bool.{or_left}
use Rattle.host_port.specs.declared.event.Event.{Event}
use Rattle.host_port.specs.declared.event.Event.TheVariants as event
use Rattle.host_port.specs.declared.event.ForeignStep.{ForeignStep}
use Rattle.host_port.specs.declared.event.ForeignStep.TheVariants.{Write, Remove, Lock, Unlock, Seize, Release}
use Rattle.host_port.specs.Disk.{Disk, reaches, after, after_step, disk}
use Rattle.commit_machine.specs.Names.{record_name, staged_name, is_record_name}
use Rattle.commit_machine.specs.Records.{record_in}
use Rattle.commit_machine.specs.Settled.{Mem}
use Rattle.commit_machine.specs.Laws.{is_foreign}
use Rattle.commit_machine.specs.Lawful.{IsSound, IsGuarded, IsLawful, IsLawfulWrite, OthersAreLawful}
use Rattle.commit_machine.proofs.records.Same.{same_refl, put_there}
use Rattle.commit_machine.proofs.standing.Known.{KeepsToken}
use Rattle.commit_machine.proofs.standing.Lawful.{lawful_keeps}
use Rattle.commit_machine.proofs.standing.Sound.{sound_same}

no_both : {P : Type 0} (a n : List ℕ) → is_record_name a n ≡ false → is_record_name a n ≡ true → P
no_both a n not is = absurd (cc)

module _ (a : List ℕ) (t : ℕ) where
  -- a file that isn't the actor's: it has no lock of the actor's, and isn't staged by it nor its record
  pub record Clear (d : Disk) (n : List ℕ) : Type 0 where
    pub unlocked : (u : ℕ) → IsGuarded a t d u → d.locks n ≢ Some u
    pub unstaged : (u : ℕ) (m : List ℕ) → IsGuarded a t d u → n ≢ staged_name u m
    pub other : is_record_name a n ≡ false

  abbrev pub IsHarmless : Disk → ForeignStep → Type 0
  IsHarmless d (Write n bytes) = Clear d n
  IsHarmless d (Remove n) = Clear d n
  IsHarmless d (Lock n u) = IsGuarded a t d u → ⊥
  IsHarmless d (Unlock n u) = IsGuarded a t d u → ⊥
  IsHarmless d (Seize n) = Unit {0}
  IsHarmless d (Release n) = Unit {0}

  -- what is guarded beside a guarded token is guarded
  guarded_with : (d : Disk) (u v : ℕ) → IsGuarded a t d u → IsGuarded a u d v → IsGuarded a t d v
  guarded_with d u v guarded (inl p) = subst (IsGuarded a t d) (sym p) guarded
  guarded_with d u v guarded (inr stands) = inr stands

  write_lawful : (d : Disk) (u : ℕ) (n : List ℕ) (c : Option (List ℕ)) → IsGuarded a t d u → Clear d n → IsLawfulWrite a u d n c
  write_lawful d u n c guarded clear = record {
    unlocked = λ v g. clear.unlocked v (guarded_with d u v guarded g);
    unstaged = λ v m g. clear.unstaged v m (guarded_with d u v guarded g);
    no_right = λ is right. no_both a n clear.other is;
    no_record = λ is. no_both a n clear.other is;
    fresh = λ r is read. no_both a n clear.other is;
  }

  -- lawful beside a run of the actor with a token that is guarded
  lawful_with : (d : Disk) (u : ℕ) (f : ForeignStep) → IsGuarded a t d u → IsHarmless d f → IsLawful a u d f
  lawful_with d u (Write n bytes) guarded h = write_lawful d u n (Some bytes) guarded h
  lawful_with d u (Remove n) guarded h = write_lawful d u n None guarded h
  lawful_with d u (Lock n v) guarded h = λ g. h (guarded_with d u v guarded g)
  lawful_with d u (Unlock n v) guarded h = λ g. h (guarded_with d u v guarded g)
  lawful_with d u (Seize n) guarded h = tt
  lawful_with d u (Release n) guarded h = tt

  not_the_record : (n : List ℕ) → is_record_name a n ≡ false → record_name a ≢ n
  not_the_record n other e = no_both a n other (subst (λ (z : List ℕ). is_record_name a z ≡ true) e (or_left _ _ (same_refl (record_name a))))

  -- the actor's record stays
  record_stays : (d : Disk) (f : ForeignStep) → IsHarmless d f → (after_step d f).files (record_name a) ≡ d.files (record_name a)
  record_stays d (Write n bytes) h = put_there d.files n (record_name a) (Some bytes) (not_the_record n h.other)
  record_stays d (Remove n) h = put_there d.files n (record_name a) None (not_the_record n h.other)
  record_stays d (Lock n u) h = refl
  record_stays d (Unlock n u) h = refl
  record_stays d (Seize n) h = refl
  record_stays d (Release n) h = refl

  -- so what is guarded then was guarded
  guarded_before : (d : Disk) (f : ForeignStep) → IsHarmless d f → (u : ℕ) → IsGuarded a t (after_step d f) u → IsGuarded a t d u
  guarded_before d f h u (inl p) = inl p
  guarded_before d f h u (inr (r, stands, is)) = inr (r, sym (ap record_in (record_stays d f h)) ∙ stands, is)

  keeps : (d : Disk) (f : ForeignStep) → IsHarmless d f → (u : ℕ) → IsGuarded a t d u → KeepsToken u d (after_step d f)
  keeps d f h u guarded = (lawful_keeps a u d f (lawful_with d u f guarded h)).own

  clear_then : (d : Disk) (f : ForeignStep) → IsHarmless d f → (n : List ℕ) → Clear d n → Clear (after_step d f) n
  clear_then d f h n clear = record {
    unlocked = λ u guarded. let was = guarded_before d f h u guarded in (keeps d f h u was).free n (clear.unlocked u was);
    unstaged = λ u m guarded. clear.unstaged u m (guarded_before d f h u guarded);
    other = clear.other;
  }

  harmless_then : (d : Disk) (f g : ForeignStep) → IsHarmless d f → IsHarmless d g → IsHarmless (after_step d f) g
  harmless_then d f (Write n bytes) h k = clear_then d f h n k
  harmless_then d f (Remove n) h k = clear_then d f h n k
  harmless_then d f (Lock n u) h k = λ guarded. k (guarded_before d f h u guarded)
  harmless_then d f (Unlock n u) h k = λ guarded. k (guarded_before d f h u guarded)
  harmless_then d f (Seize n) h k = tt
  harmless_then d f (Release n) h k = tt

  sound_then : (d : Disk) (f : ForeignStep) → IsHarmless d f → IsSound a d → IsSound a (after_step d f)
  sound_then d f h sound = sound_same a d.files (after_step d f).files d.locks (after_step d f).locks (record_stays d f h)
      (λ r n stands go mem some.
      let kept : KeepsToken r.token d (after_step d f) = keeps d f h r.token (inr (r, stands, refl)) in
      let was : is_some (d.files (staged_name r.token n)) ≡ true = sym (ap is_some (kept.staged n)) ∙ some in (
        was,
        λ l. kept.lock n l,
        λ at way long. ap (reaches at) (kept.file n (sound.locked r n stands go mem was)) ∙ long,
      ))
      sound

  -- one after another
  pub all_lawful : (steps : List ForeignStep) (d : Disk) (es : List Event) → IsSound a d → ((f : ForeignStep) → Mem f steps → IsHarmless d f)
      → OthersAreLawful a t (disk d (map event.Foreign steps)) es → OthersAreLawful a t d (map event.Foreign steps ++ es)
  all_lawful [] d es sound each more = more
  all_lawful (f ∷ steps) d es sound each more =
      let first : IsHarmless d f = each f (inl refl) in (
        lawful_with d t f (inl refl) first,
        sound_then d f first sound,
        all_lawful steps (after_step d f) es (sound_then d f first sound) (λ g m. harmless_then d f g first (each g (inr m))) more,
      )

  -- an own event asks nothing of others
  pub own_lawful : (d : Disk) (e : Event) (es : List Event) → is_foreign e ≡ false → OthersAreLawful a t (after d e) es → OthersAreLawful a t d (e ∷ es)
  own_lawful d (event.Foreign f) es own more = absurd (cc)
  own_lawful d e es own more = more
