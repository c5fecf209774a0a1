-- What a call of one actor touches is nothing of an actor with another name.
use Rattle.std.proofs.Common.{◌≡◌, ◌≢◌, ◌^◌, ◌<◌, ℕ, true, false, List, Some, None, refl, ap, sym, subst, inl, inr, ◌∙◌}
use Rattle.std.proofs.lemmas.Bool.{cases_Bool}
use Rattle.commit_record.specs.Names.{is_lawful}
use Rattle.commit_record.specs.declared.record.Record.{Record}
use Rattle.host_port.specs.declared.event.Event.{Event}
use Rattle.host_port.specs.declared.event.Event.TheVariants as event
use Rattle.host_port.specs.declared.event.ForeignStep.{ForeignStep}
use Rattle.host_port.specs.declared.event.ForeignStep.TheVariants.{Write, Remove, Lock, Unlock, Seize, Release}
use Rattle.host_port.specs.Disk.{Disk, after}
use Rattle.commit_machine.specs.Names.{right_name, record_name, is_record_name}
use Rattle.commit_machine.specs.Settled.{Mem}
use Rattle.commit_machine.specs.Lawful.{standing, HasRight, IsGuarded}
use Rattle.commit_machine.proofs.records.InFile.{stands-lawful, stands-valid}
use Rattle.commit_machine.proofs.records.Names.{lawful-staged}
use Rattle.core_steps.specs.declared.actor.Actor.{Actor}
use Rattle.core_steps.specs.declared.actor.Doing.{Doing}
use Rattle.core_steps.specs.Cores.{CoreState, seen_by, names_in}
use Rattle.core_steps.proofs.Came.{lock_from}
use Rattle.core_steps.proofs.Fact.{IsActor}
use Rattle.core_steps.proofs.Ground.{Ground}
use Rattle.core_steps.proofs.Members.{member_named}
use Rattle.core_steps.proofs.Ones.{record_names-one}
use Rattle.core_steps.proofs.Tokens.{staged-token}
use Rattle.core_steps.proofs.Touching.{Held, IsOwnName, Touches}
use Rattle.core_fact.proofs.Heart.{names_apart}
use Rattle.core_fact.specs.Parts.{written_by, removed_by, locks_of, IsPartOf}
use Rattle.run_laws.specs.Beside.{IsQuiet}
use Rattle.run_laws.proofs.HarmlessLemmas.{Clear, IsHarmless}
use Rattle.run_laws.proofs.QuietLemmas.{had_by_other, IsFree, IsQuietStep}

written_touched : (b : List ℕ) (d : Disk) (e : Event) (n : List ℕ) → Touches b d e → Mem n (written_by e) → IsOwnName b d n
written_touched b d (event.Stage m c failed) n t (inl p) = subst (IsOwnName b d) (sym p) t
written_touched b d (event.Stage m c failed) n t (inr never) = absurd never
written_touched b d (event.Publish from to true failed) n t (inl p) = subst (IsOwnName b d) (sym p) (t refl).1
written_touched b d (event.Publish from to true failed) n t (inr never) = absurd never
written_touched b d (event.Publish from to false failed) n t never = absurd never
written_touched b d (event.Extend m at c failed) n t (inl p) = subst (IsOwnName b d) (sym p) t
written_touched b d (event.Extend m at c failed) n t (inr never) = absurd never
written_touched b d e n t never = absurd never

removed_touched : (b : List ℕ) (d : Disk) (e : Event) (n : List ℕ) → Touches b d e → Mem n (removed_by e) → IsOwnName b d n
removed_touched b d (event.Stage m c failed) n t (inl p) = subst (IsOwnName b d) (sym p) t
removed_touched b d (event.Stage m c failed) n t (inr never) = absurd never
removed_touched b d (event.Publish from to true failed) n t (inl p) = subst (IsOwnName b d) (sym p) (t refl).0
removed_touched b d (event.Publish from to true failed) n t (inr never) = absurd never
removed_touched b d (event.Publish from to false failed) n t never = absurd never
removed_touched b d (event.Erase m done failed) n t (inl p) = subst (IsOwnName b d) (sym p) t
removed_touched b d (event.Erase m done failed) n t (inr never) = absurd never
removed_touched b d e n t never = absurd never

lock_touched : (b : List ℕ) (d : Disk) (e : Event) (n : List ℕ) (u : ℕ) → Touches b d e → Mem (n, u) (locks_of e) → (r : Record) × Held b r d × (u ≡ r.token)
lock_touched b d (event.Lock m v got failed) n u t (inl p) = (t.0, t.1, ap (λ (z : List ℕ × ℕ). z.1) p ∙ t.3)
lock_touched b d (event.Lock m v got failed) n u t (inr never) = absurd never
lock_touched b d (event.Unlock m v done failed) n u t (inl p) = (t.0, t.1, ap (λ (z : List ℕ × ℕ). z.1) p ∙ t.3)
lock_touched b d (event.Unlock m v done failed) n u t (inr never) = absurd never
lock_touched b d e n u t never = absurd never

-- locks stand on names that files may have alone
abbrev pub OnFiles : CoreState → Type 0
OnFiles s = (n : List ℕ) (u : ℕ) → s.disk.locks n ≡ Some u → (is_lawful n ≡ true) × ((c : List ℕ) → Mem c (names_in s) → is_record_name c n ≡ false)

differ : {P : Type 0} (c n : List ℕ) → is_record_name c n ≡ false → is_record_name c n ≡ true → P
differ c n not is = absurd (cc)

module _ (s : CoreState) (g : Ground s) (on_files : OnFiles s) (i : ℕ) (b : Actor) (y : Doing) (by : IsActor s i b y) where
  mb : Mem b.name (names_in s)
  mb = member_named s.members i (record { actor = b; doing = y }) by

  -- locks stand so after a call too
  pub on_files_then : (e : Event) → Touches b.name (seen_by i s.disk) e → (n : List ℕ) (u : ℕ) → (after (seen_by i s.disk) e).locks n ≡ Some u
      → (is_lawful n ≡ true) × ((c : List ℕ) → Mem c (names_in s) → is_record_name c n ≡ false)
  on_files_then e touch n u locked = elim (lock_from b.name (seen_by i s.disk) e u n touch locked) [
    | inl stood ↦ on_files n u stood
    | inr w ↦ (stands-lawful (s.disk.files (record_name b.name)) w.0 n w.1.stands w.2, λ c mc. g.orderly.plain b.name c mb mc w.0 n w.1.stands w.2)
  ]

  module _ (k : ℕ) (a : Actor) (x : Doing) (at : IsActor s k a x) (ne : b.name ≢ a.name) where
    ma : Mem a.name (names_in s)
    ma = member_named s.members k (record { actor = a; doing = x }) at

    abbrev IsOurs : ℕ → Type 0
    IsOurs u = IsGuarded a.name a.token (seen_by k s.disk) u

    not_ours : (r : Record) → Held b.name r (seen_by i s.disk) → IsOurs r.token → ⊥
    not_ours r h (inl p) = ne (g.token_at_home k a x b.name r at mb h.stands p)
    not_ours r h (inr (q, stands, is)) = ne (g.orderly.apart b.name a.name mb ma r q h.stands stands (sym is))

    fits : (u : ℕ) → IsOurs u → u < 2 ^ 64
    fits u (inl p) = subst (λ (z : ℕ). z < 2 ^ 64) (sym p) (g.fit k a x at)
    fits u (inr (q, stands, is)) = subst (λ (z : ℕ). z < 2 ^ 64) is (stands-valid (s.disk.files (record_name a.name)) q stands).1

    not_record : (n : List ℕ) → (is_record_name a.name n ≡ true → ⊥) → is_record_name a.name n ≡ false
    not_record n not = elim (cases_Bool (is_record_name a.name n)) [ inl is ↦ absurd (not is) | inr is ↦ is ]

    clear : (n : List ℕ) → IsOwnName b.name (seen_by i s.disk) n → Clear a.name a.token (seen_by k s.disk) n
    clear n (inl (is, right)) = record {
      unlocked = λ u ours l. differ b.name n ((on_files n u l).1 b.name mb) is;
      unstaged = λ u m ours e. names_apart b.name n u m e is;
      other = not_record n (λ its. ne (record_names-one b.name a.name n is its));
    }
    clear n (inr (inl (r, h, (m, mm, is)))) = record {
      unlocked = λ u ours l. lawful-staged n r.token m (on_files n u l).0 is;
      unstaged = λ u q ours e. not_ours r h (subst IsOurs
          (sym (staged-token r.token u m q (stands-valid (s.disk.files (record_name b.name)) r h.stands).1 (fits u ours) (sym is ∙ e))) ours);
      other = not_record n (λ its. names_apart a.name n r.token m is its);
    }
    clear n (inr (inr (r, h, mm, l))) = record {
      unlocked = λ u ours k. not_ours r h (subst IsOurs (let w : Some u ≡ Some r.token = sym k ∙ l in cc) ours);
      unstaged = λ u m ours e. lawful-staged n u m (stands-lawful (s.disk.files (record_name b.name)) r n h.stands mm) e;
      other = g.orderly.plain b.name a.name mb ma r n h.stands mm;
    }

    pub part_harmless : (e : Event) → Touches b.name (seen_by i s.disk) e → (f : ForeignStep) → IsPartOf e f → IsHarmless a.name a.token (seen_by k s.disk) f
    part_harmless e touch (Write n bytes) m = clear n (written_touched b.name (seen_by i s.disk) e n touch m)
    part_harmless e touch (Remove n) m = clear n (removed_touched b.name (seen_by i s.disk) e n touch m)
    part_harmless e touch (Lock n u) m = λ ours. let w = lock_touched b.name (seen_by i s.disk) e n u touch m in not_ours w.0 w.1 (subst IsOurs w.2 ours)
    part_harmless e touch (Unlock n u) m = λ ours. let w = lock_touched b.name (seen_by i s.disk) e n u touch m in not_ours w.0 w.1 (subst IsOurs w.2 ours)
    part_harmless e touch (Seize n) m = tt
    part_harmless e touch (Release n) m = tt

  -- nor is what a quiet call of another of the same name does unlawful
  module _ (k : ℕ) (a : Actor) (same : b.name ≡ a.name) (ne : i ≢ k) where
    free : (n : List ℕ) → standing a.name (seen_by k s.disk) ≡ None → IsOwnName b.name (seen_by i s.disk) n → IsFree a.name a.token (seen_by k s.disk) n
    free n none (inl (is, right)) = record {
      record_one = subst (λ (z : List ℕ). is_record_name z n ≡ true) same is;
      unlocked = λ u l. differ b.name n ((on_files n u l).1 b.name mb) is;
      idle = record {
        none = none;
        no_right = λ ours. had_by_other k i (s.disk.holders (right_name a.name)) ne (subst (λ (z : List ℕ). HasRight z (seen_by i s.disk)) same right) ours;
      };
    }
    free n none (inr (inl (r, h, m))) = absurd (let w : None ≡ Some r = sym none ∙ subst (λ (z : List ℕ). standing z (seen_by i s.disk) ≡ Some r) same h.stands in cc)
    free n none (inr (inr (r, h, m, l))) = absurd (let w : None ≡ Some r = sym none ∙ subst (λ (z : List ℕ). standing z (seen_by i s.disk) ≡ Some r) same h.stands in cc)

    pub part_quiet : (e : Event) → Touches b.name (seen_by i s.disk) e → IsQuiet a.name (seen_by i s.disk) e → (f : ForeignStep) → IsPartOf e f
        → IsQuietStep a.name a.token (seen_by k s.disk) f
    part_quiet (event.Erase n done failed) touch none (Remove m) (inl p) = free m none (subst (IsOwnName b.name (seen_by i s.disk)) (sym p) touch)
    part_quiet (event.Erase n done failed) touch none (Remove m) (inr never) = absurd never
    part_quiet (event.Erase n done failed) touch none (Write m bytes) never = absurd never
    part_quiet (event.Erase n done failed) touch none (Lock m u) never = absurd never
    part_quiet (event.Erase n done failed) touch none (Unlock m u) never = absurd never
    part_quiet (event.Stage n c failed) touch never f part = absurd (cc)
    part_quiet (event.Publish from to done failed) touch never f part = absurd (cc)
    part_quiet (event.Extend n at tail failed) touch never f part = absurd (cc)
    part_quiet (event.Lock n u got failed) touch never f part = absurd (cc)
    part_quiet (event.Unlock n u done failed) touch never f part = absurd (cc)
    part_quiet e touch quiet (Seize n) part = tt
    part_quiet e touch quiet (Release n) part = tt
    part_quiet e touch quiet (Write n bytes) never = absurd never
    part_quiet e touch quiet (Remove n) never = absurd never
    part_quiet e touch quiet (Lock n u) never = absurd never
    part_quiet e touch quiet (Unlock n u) never = absurd never
