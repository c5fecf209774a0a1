-- Each own event keeps what is known: the files are locked, loaded and staged.
use Rattle.std.proofs.Common.{◌≡◌, ◌≢◌, ◌⊎◌, ℕ, Bool, true, false, List, [], ◌∷◌, Option, Some, None, is_none, refl, ap, sym, subst, inl, inr, ◌∙◌, ◌++◌}
use Rattle.std.specs.Str.{bytes_eq}
use Rattle.commit_record.specs.Names.{is_lawful}
use Rattle.host_port.specs.declared.event.Event.{Event}
use Rattle.host_port.specs.declared.event.Event.TheVariants as event
use Rattle.host_port.specs.declared.event.Seen.TheVariants as seen
use Rattle.host_port.specs.Disk.{Disk, with_at, after}
use Rattle.host_port.specs.Ran.{Agrees}
use Rattle.commit_machine.specs.Names.{record_name, staged_name}
use Rattle.commit_machine.specs.Records.{record_in}
use Rattle.commit_machine.specs.Settled.{Files, Locks, Mem}
use Rattle.commit_machine.specs.Jobs.{Refused, Busy, TooLarge, Outcome, Puts, Edit, Job, Made, IsJob, edits_of, all_of, prepare_of}
use Rattle.commit_machine.specs.Machine.{Locking, Loading, Staging, ToLoad, ToStage, ToLock, locking, loaded, staging}
use Rattle.commit_machine.specs.Goes.{IsOf, loads, stages, stage_fails, locks}
use Rattle.commit_machine.specs.Lawful.{standing, IsSound}
use Rattle.commit_machine.specs.Due.{settled_files, settled_locks}
use Rattle.commit_machine.proofs.standing.Known.{Knows}
use Rattle.commit_machine.proofs.records.Same.{same_or_not, put_here, put_there, at_end, before_end, end_or_before}
use Rattle.commit_machine.proofs.records.Names.{staged-one, lawful-staged}
use Rattle.commit_machine.proofs.records.InFile.{stands-valid}
use Rattle.commit_machine.proofs.standing.Settled.{keep_staged, record-staged}
use Rattle.commit_machine.proofs.standing.Sound.{sound_staged, sound_lock, lock_same, lock_own}
use Rattle.commit_machine.proofs.standing.Decided.{names_Mem}
use Rattle.commit_machine.proofs.standing.KnownNext.{names-prepare, knows_refusing, knows_staging, knows_loading, knows_locking, knows_wanted}
use Rattle.commit_machine.proofs.records.OfJob.{valid-distinct, valid-plain, one_edit}
use Rattle.commit_machine.proofs.steps.Shown.{Shows, Kept}

none_is : (l : Option ℕ) → is_none l ≡ true → l ≡ None
none_is None h = refl
none_is (Some u) h = absurd (cc)

free_after_lock : (l : Locks) (n m : List ℕ) (t u : ℕ) → m ≢ n → l m ≢ Some u → with_at l n (Some t) m ≢ Some u
free_after_lock l n m t u ne h e = h (sym (put_there l n m (Some t) ne) ∙ e)

lock_stays : (l : Locks) (n m : List ℕ) (t : ℕ) → l m ≡ Some t → with_at l n (Some t) m ≡ Some t
lock_stays l n m t h = elim (same_or_not m n) [ inl p ↦ ap (with_at l n (Some t)) p.0 ∙ put_here l n (Some t) | inr p ↦ put_there l n m (Some t) p.0 ∙ h ]

module _ (j : Job) (job : IsJob j) (d : Disk) (files : Files) (owners : Locks) (settles : (n : List ℕ) → settled_files j.actor d n ≡ files n)
    (locked : (n : List ℕ) → settled_locks j.actor d n ≡ owners n) (sound : IsSound j.actor d) where
  module _ (ls : List (List ℕ)) (e : Edit) (left : List Edit) (k : Knows j (Locking ls e left) d) where
    lock_mem : Mem e.name (all_of j)
    lock_mem = names_Mem (edits_of j) e (k.1.within e (inl refl))

    lock_shows : (failed : Bool) → is_none (d.locks e.name) ≡ true → Shows j (event.Lock e.name j.token true failed) d files owners
    lock_shows failed none = record {
      settles = settles;
      locked = λ q. lock_own j.actor d.files d.locks (prepare_of j) e.name q (Some j.token) k.0.closing.stands
          (subst (Mem e.name) (sym (names-prepare j)) lock_mem) (inl (none_is (d.locks e.name) none)) (inr refl) ∙ locked q;
      sound = sound_lock j.actor d.files d.locks (with_at d.locks e.name (Some j.token)) (prepare_of j) k.0.closing.stands refl sound;
    }

    lock_all : (m : List ℕ) → Mem m ls ⊎ ((x : Edit) × Mem x (e ∷ left) × (x.name ≡ m)) → Mem m (ls ++ (e.name ∷ [])) ⊎ ((x : Edit) × Mem x left × (x.name ≡ m))
    lock_all m (inl h) = inl (before_end ls e.name m h)
    lock_all m (inr (x, inl p, is)) = inl (at_end ls e.name m (sym is ∙ ap (λ (z : Edit). z.name) p))
    lock_all m (inr (x, inr h, is)) = inr (x, h, is)

    lock_free : (m : List ℕ) → ((m ≡ e.name) × (bytes_eq m e.name ≡ true)) ⊎ ((m ≢ e.name) × (bytes_eq m e.name ≡ false))
        → Mem m ls ⊎ (d.locks m ≢ Some j.token) → Mem m (ls ++ (e.name ∷ [])) ⊎ (with_at d.locks e.name (Some j.token) m ≢ Some j.token)
    lock_free m (inl p) h = inl (at_end ls e.name m p.0)
    lock_free m (inr p) (inl a) = inl (before_end ls e.name m a)
    lock_free m (inr p) (inr b) = inr (free_after_lock d.locks e.name m j.token j.token p.0 b)

    lock_rest : (m : List ℕ) → ((m ≡ e.name) × (bytes_eq m e.name ≡ true)) ⊎ ((m ≢ e.name) × (bytes_eq m e.name ≡ false))
        → Mem m (all_of j) ⊎ (d.locks m ≢ Some j.token) → Mem m (all_of j) ⊎ (with_at d.locks e.name (Some j.token) m ≢ Some j.token)
    lock_rest m (inl p) h = inl (subst (λ (z : List ℕ). Mem z (all_of j)) (sym p.0) lock_mem)
    lock_rest m (inr p) (inl a) = inl a
    lock_rest m (inr p) (inr b) = inr (free_after_lock d.locks e.name m j.token j.token p.0 b)

    lock_held : (m : List ℕ) → Mem m (ls ++ (e.name ∷ [])) → with_at d.locks e.name (Some j.token) m ≡ Some j.token
    lock_held m h = elim (end_or_before ls e.name m h) [
      | inl p ↦ ap (with_at d.locks e.name (Some j.token)) p ∙ put_here d.locks e.name (Some j.token)
      | inr a ↦ lock_stays d.locks e.name m j.token (k.0.locked m a)
    ]

    lock_back : (m : List ℕ) → Mem m (ls ++ (e.name ∷ [])) → Mem m (all_of j)
    lock_back m h = elim (end_or_before ls e.name m h) [ inl p ↦ subst (λ (z : List ℕ). Mem z (all_of j)) (sym p) lock_mem | inr a ↦ k.1.back m a ]

    lock_apart : (m : List ℕ) → Mem m (ls ++ (e.name ∷ [])) → (x : Edit) → Mem x left → m ≢ x.name
    lock_apart m h x n = elim (end_or_before ls e.name m h) [ inl p ↦ (λ same. k.1.distinct.0 x n (sym p ∙ same)) | inr a ↦ k.1.apart m a x (inr n) ]

    lock_knows : Knows j (locking j (ls ++ (e.name ∷ [])) left) (after d (event.Lock e.name j.token true false))
    lock_knows = knows_locking j (after d (event.Lock e.name j.token true false)) (ls ++ (e.name ∷ [])) left
        (record {
          closing = record { right = k.0.closing.right; stands = k.0.closing.stands; gone = k.0.closing.gone; free = λ m h. lock_free m (same_or_not m e.name) (k.0.closing.free m h) };
          rest = record { staged = k.0.rest.staged; locks = λ m. lock_rest m (same_or_not m e.name) (k.0.rest.locks m) };
          locked = lock_held;
          seen = λ x h. absurd h;
          staged = λ x h. absurd h;
        })
        (record { all = λ m h. lock_all m (k.1.all m h); back = lock_back; within = λ x h. k.1.within x (inr h); apart = lock_apart; distinct = k.1.distinct.1 })

  pub step_locking : (ls : List (List ℕ)) (x : Edit) (left : List Edit) {e : Event} → IsOf (ToLock x.name j.token) e → Agrees d e
      → Knows j (Locking ls x left) d → Kept j (Locking ls x left) e d files owners
  step_locking ls x left (locks {got = true} {failed = true}) agrees k = record { shows = lock_shows ls x left k true (agrees refl); knows = tt }
  step_locking ls x left (locks {got = false} {failed = true}) agrees k = record { shows = record { settles = settles; locked = locked; sound = sound }; knows = tt }
  step_locking ls x left (locks {got = false} {failed = false}) agrees k = record {
    shows = record { settles = settles; locked = locked; sound = sound };
    knows = knows_refusing j d [] ls (Refused (Busy x.name)) [] [] tt k.0 (record { each = λ m h. absurd h }) (record { each = k.1.back });
  }
  step_locking ls x left (locks {got = true} {failed = false}) agrees k = record { shows = lock_shows ls x left k false (sym agrees); knows = lock_knows ls x left k }

  module _ (made : List Made) (x : Edit) (left : List Edit) (k : Knows j (Loading made x left) d) where
    load_knows : (c : Option (List ℕ)) (v : Outcome) → d.files x.name ≡ c → x.by c ≡ v → Knows j (loaded j made x left c v) d
    load_knows c (Puts way content) is e = knows_loading j d (made ++ (record { edit = x; seen = c; way = way; content = content } ∷ [])) left
        (record {
          closing = k.0.closing;
          rest = k.0.rest;
          locked = k.0.locked;
          seen = λ y h. elim (end_or_before made (record { edit = x; seen = c; way = way; content = content }) y h) [
            | inl p ↦ subst
                (λ (z : Made). d.files z.edit.name ≡ z.seen) (sym p) is
            | inr a ↦ k.0.seen y a
          ];
          staged = λ y h. inl h;
        })
        (record {
          each = λ y h. elim (end_or_before made (record { edit = x; seen = c; way = way; content = content }) y h) [
            | inl p ↦ subst
                (λ (z : Made). Mem z.edit (edits_of j) × (z.edit.by z.seen ≡ Puts z.way z.content)) (sym p) (k.1.within x (inl refl), e)
            | inr a ↦ k.1.each y a
          ];
          all = λ z m. elim (k.1.all z m) [
            | inl a ↦ elim a [
              | inl p ↦ inr (
                record { edit = x; seen = c; way = way; content = content },
                at_end made (record { edit = x; seen = c; way = way; content = content })
                    (record { edit = x; seen = c; way = way; content = content }) refl,
                sym p,
              )
              | inr q ↦ inl q
            ]
            | inr w ↦ inr
                (w.0, before_end made (record { edit = x; seen = c; way = way; content = content }) w.0 w.1, w.2)
          ];
          within = λ z m. k.1.within z (inr m);
        })

  pub step_loading : (made : List Made) (x : Edit) (left : List Edit) {e : Event} → IsOf (ToLoad x.name) e → Agrees d e
      → Knows j (Loading made x left) d → Kept j (Loading made x left) e d files owners
  step_loading made x left (loads {s = seen.Bytes c held}) agrees k =
      record { shows = record { settles = settles; locked = locked; sound = sound }; knows = load_knows made x left k c (x.by c) (sym agrees.0) refl }
  step_loading made x left (loads {s = seen.TooLarge n}) agrees k = record {
    shows = record { settles = settles; locked = locked; sound = sound };
    knows = knows_refusing j d [] (all_of j) (Refused (TooLarge x.name n)) made made tt k.0 (record { each = λ m h. absurd h }) (record { each = λ m h. h });
  }
  step_loading made x left (loads {s = seen.Failed}) agrees k = record { shows = record { settles = settles; locked = locked; sound = sound }; knows = tt }
  step_loading made x left (loads {s = seen.Memory}) agrees k = record { shows = record { settles = settles; locked = locked; sound = sound }; knows = knows_wanted j d (Loading made x left) k }

  module _ (ns : List (List ℕ)) (made : List Made) (x : Made) (left : List Made) (k : Knows j (Staging ns made x left) d) where
    staged_mem : Mem x.edit.name (all_of j)
    staged_mem = names_Mem (edits_of j) x.edit (k.1.each x (k.3.each x (inl refl))).0

    stage_shows : (failed : Bool) (c : Option (List ℕ)) → Shows j (event.Stage (staged_name j.token x.edit.name) c failed) d files owners
    stage_shows failed c = record {
      settles = λ q. keep_staged j.actor d.files (prepare_of j) c x.edit.name q k.0.closing.stands refl (subst (Mem x.edit.name) (sym (names-prepare j)) staged_mem) ∙ settles q;
      locked = λ q. lock_same j.actor d.files (with_at d.files (staged_name j.token x.edit.name) c) d.locks q
          (put_there d.files (staged_name j.token x.edit.name) (record_name j.actor) c (record-staged j.token x.edit.name j.actor)) ∙ locked q;
      sound = sound_staged j.actor d.files d.locks (prepare_of j) c x.edit.name k.0.closing.stands refl sound;
    }

    now_staged : Files
    now_staged = with_at d.files (staged_name j.token x.edit.name) (Some x.content)

    still_there : (m : List ℕ) → m ≢ x.edit.name → with_at d.files (staged_name j.token x.edit.name) (Some x.content) (staged_name j.token m) ≡ d.files (staged_name j.token m)
    still_there m ne = put_there d.files (staged_name j.token x.edit.name) (staged_name j.token m) (Some x.content) (λ e. ne (staged-one j.token m x.edit.name e))

    stage_gone : (m : List ℕ) → ((m ≡ x.edit.name) × (bytes_eq m x.edit.name ≡ true)) ⊎ ((m ≢ x.edit.name) × (bytes_eq m x.edit.name ≡ false))
        → Mem m ns ⊎ (d.files (staged_name j.token m) ≡ None) → Mem m (ns ++ (x.edit.name ∷ [])) ⊎ (with_at d.files (staged_name j.token x.edit.name) (Some x.content) (staged_name j.token m) ≡ None)
    stage_gone m (inl p) h = inl (at_end ns x.edit.name m p.0)
    stage_gone m (inr p) (inl a) = inl (before_end ns x.edit.name m a)
    stage_gone m (inr p) (inr b) = inr (still_there m p.0 ∙ b)

    stage_rest : (m : List ℕ) → ((m ≡ x.edit.name) × (bytes_eq m x.edit.name ≡ true)) ⊎ ((m ≢ x.edit.name) × (bytes_eq m x.edit.name ≡ false))
        → Mem m (all_of j) ⊎ (d.files (staged_name j.token m) ≡ None) → Mem m (all_of j) ⊎ (with_at d.files (staged_name j.token x.edit.name) (Some x.content) (staged_name j.token m) ≡ None)
    stage_rest m (inl p) h = inl (subst (λ (z : List ℕ). Mem z (all_of j)) (sym p.0) staged_mem)
    stage_rest m (inr p) (inl a) = inl a
    stage_rest m (inr p) (inr b) = inr (still_there m p.0 ∙ b)

    content_of : Outcome → Option (List ℕ)
    content_of (Puts way content) = Some content

    stage_stays : (y : Made) → Mem y made → d.files (staged_name j.token y.edit.name) ≡ Some y.content
        → ((y.edit.name ≡ x.edit.name) × (bytes_eq y.edit.name x.edit.name ≡ true))
        ⊎ ((y.edit.name ≢ x.edit.name) × (bytes_eq y.edit.name x.edit.name ≡ false))
        → with_at d.files (staged_name j.token x.edit.name) (Some x.content) (staged_name j.token y.edit.name) ≡ Some y.content
    unfolding content_of
    stage_stays y h b (inr p) = still_there y.edit.name p.0 ∙ b
    stage_stays y h b (inl p) =
        let x_in = k.3.each x (inl refl) in
        let one : y.edit ≡ x.edit = one_edit (edits_of j) y.edit x.edit
        (valid-distinct j (stands-valid (d.files (record_name j.actor)) (prepare_of j) k.0.closing.stands).0) (k.1.each y h).0 (k.1.each x x_in).0 p.0 in
        let see : y.seen ≡ x.seen = sym (k.0.seen y h) ∙ ap d.files p.0 ∙ k.0.seen x x_in in
        let by : y.edit.by y.seen ≡ x.edit.by x.seen = ap (λ (z : Edit). z.by y.seen) one ∙ ap x.edit.by see in
        let same : Puts y.way y.content ≡ Puts x.way x.content = sym (k.1.each y h).1 ∙ by ∙ (k.1.each x x_in).1 in
        let content : Some y.content ≡ Some x.content = ap content_of same in
        ap (λ (z : List ℕ). with_at d.files (staged_name j.token x.edit.name) (Some x.content) (staged_name j.token z)) p.0
        ∙ put_here d.files (staged_name j.token x.edit.name) (Some x.content) ∙ sym content

    stage_left : (y : Made) → Mem y made → Mem y (x ∷ left) ⊎ (d.files (staged_name j.token y.edit.name) ≡ Some y.content)
        → Mem y left ⊎ (with_at d.files (staged_name j.token x.edit.name) (Some x.content) (staged_name j.token y.edit.name) ≡ Some y.content)
    stage_left y h (inl (inl p)) = inr (subst
        (λ (z : Made). with_at d.files (staged_name j.token x.edit.name) (Some x.content) (staged_name j.token z.edit.name) ≡ Some z.content) (sym p)
        (put_here d.files (staged_name j.token x.edit.name) (Some x.content)))
    stage_left y h (inl (inr a)) = inl a
    stage_left y h (inr b) = inr (stage_stays y h b (same_or_not y.edit.name x.edit.name))

    stage_seen : (y : Made) → Mem y made → with_at d.files (staged_name j.token x.edit.name) (Some x.content) y.edit.name ≡ y.seen
    stage_seen y h =
        let law : is_lawful y.edit.name ≡ true = (valid-plain j job (stands-valid (d.files (record_name j.actor)) (prepare_of j) k.0.closing.stands).0 y.edit (k.1.each y h).0).1 in
        put_there d.files (staged_name j.token x.edit.name) y.edit.name (Some x.content) (lawful-staged y.edit.name j.token x.edit.name law) ∙ k.0.seen y h

    stage_sub : (m : List ℕ) → Mem m (ns ++ (x.edit.name ∷ [])) → Mem m (all_of j)
    stage_sub m h = elim (end_or_before ns x.edit.name m h) [ inl p ↦ subst (λ (z : List ℕ). Mem z (all_of j)) (sym p) staged_mem | inr a ↦ k.2.each m a ]

    stage_stands : standing j.actor (after d (event.Stage (staged_name j.token x.edit.name) (Some x.content) false)) ≡ Some (prepare_of j)
    stage_stands = ap record_in (put_there d.files (staged_name j.token x.edit.name) (record_name j.actor) (Some x.content) (record-staged j.token x.edit.name j.actor)) ∙ k.0.closing.stands

    stage_knows : Knows j (staging (ns ++ (x.edit.name ∷ [])) made left) (after d (event.Stage (staged_name j.token x.edit.name) (Some x.content) false))
    stage_knows = knows_staging j (after d (event.Stage (staged_name j.token x.edit.name) (Some x.content) false)) (ns ++ (x.edit.name ∷ [])) made left
        (record {
          closing = record { right = k.0.closing.right; stands = stage_stands; gone = λ m h. stage_gone m (same_or_not m x.edit.name) (k.0.closing.gone m h); free = k.0.closing.free };
          rest = record { staged = λ m. stage_rest m (same_or_not m x.edit.name) (k.0.rest.staged m); locks = k.0.rest.locks };
          locked = k.0.locked;
          seen = stage_seen;
          staged = λ y h. stage_left y h (k.0.staged y h);
        })
        k.1 (record { each = stage_sub }) (record { each = λ y h. k.3.each y (inr h) })

  pub step_staging : (ns : List (List ℕ)) (made : List Made) (x : Made) (left : List Made) {e : Event}
      → IsOf (ToStage (staged_name j.token x.edit.name) x.content) e → Knows j (Staging ns made x left) d → Kept j (Staging ns made x left) e d files owners
  step_staging ns made x left stages k = record { shows = stage_shows ns made x left k false (Some x.content); knows = stage_knows ns made x left k }
  step_staging ns made x left (stage_fails {left = c}) k = record { shows = stage_shows ns made x left k true c; knows = tt }
