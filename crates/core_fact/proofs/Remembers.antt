-- An own call keeps it: what own calls saw and left is so.
use Rattle.std.proofs.Common.{◌≡◌, ◌≢◌, ◌⊎◌, ℕ, Bool, true, false, List, [], ◌∷◌, ◌++◌, Option, Some, None, refl, ap, sym, subst, inl, inr, ◌∙◌}
use Rattle.std.proofs.lemmas.Bool.{or_right}
use Rattle.commit_record.specs.Names.{is_lawful}
use Rattle.commit_record.specs.declared.record.Record.{Record}
use Rattle.host_port.specs.declared.event.Event.{Event}
use Rattle.host_port.specs.declared.event.Event.TheVariants as event
use Rattle.host_port.specs.declared.event.Holder.{Holder}
use Rattle.host_port.specs.declared.event.Holder.TheVariants.{Own, Other}
use Rattle.host_port.specs.Disk.{after}
use Rattle.host_port.specs.Ran.{Agrees}
use Rattle.commit_machine.specs.Names.{record_name, new_name, right_name, staged_name, is_record_name}
use Rattle.commit_machine.specs.Records.{names_of}
use Rattle.commit_machine.specs.Settled.{Mem}
use Rattle.commit_machine.specs.Machine.{next}
use Rattle.commit_machine.specs.Goes.{IsNext}
use Rattle.commit_machine.specs.Laws.{is_foreign}
use Rattle.commit_machine.proofs.records.InFile.{stands-lawful}
use Rattle.commit_machine.proofs.records.Names.{lawful-staged, staged-record, record-new}
use Rattle.commit_machine.proofs.records.Same.{same_refl}
use Rattle.core_steps.specs.declared.actor.Actor.{Actor}
use Rattle.core_steps.specs.declared.actor.Task.{Task}
use Rattle.core_steps.specs.declared.actor.Past.{Past}
use Rattle.core_steps.specs.declared.actor.Past.TheVariants.{Shown}
use Rattle.core_steps.specs.declared.actor.Doing.TheVariants.{Bracket}
use Rattle.core_steps.specs.Tasks.{job_of, state_of}
use Rattle.core_steps.specs.Cores.{CoreState, holder_for, seen_by, holder_then, disk_then, names_in}
use Rattle.core_steps.specs.Settling.{standing_in}
use Rattle.core_steps.proofs.Views.{own_holder}
use Rattle.core_steps.proofs.Settled.{both}
use Rattle.core_fact.proofs.Heart.{own_is}
use Rattle.core_steps.proofs.Touching.{Held, Touches}
use Rattle.core_steps.proofs.Fact.{IsActor, Sights, file_sights, lock_sights, files_seen, locks_seen, right_sights, no_sights}
use Rattle.core_steps.proofs.Ground.{Ground}
use Rattle.core_steps.proofs.Changed.{job_name}
use Rattle.core_fact.proofs.Around.{is_holder}
use Rattle.core_fact.proofs.Called.{own, known, mem, sound, touch, record_from}
use Rattle.core_fact.proofs.Late.{first_is_first}
use Rattle.core_fact.proofs.Sights.{IsSeen, FromIsSeen, seen_after, lock_seen_after, lock_told_after, sights_at_end, right_at_end, known_one}
use Rattle.core_fact.proofs.Told.{IsNotAt, told_after, locked_before}
use Rattle.core_fact.proofs.Published.{IsPublished, own_published, is_taking, taking_first, own_before, right_seen_after}
use Rattle.core_fact.proofs.Remembered.{IsRemembered, nothing_seen}

module _ (s : CoreState) (g : Ground s) (k : ℕ) (a : Actor) (t : Task) (past : List Past) (at : IsActor s k a (Bracket t past)) (e : Event)
    (is : IsNext (next (job_of a t) (state_of a t past)) e) (agrees : Agrees (seen_by k s.disk) e)
    (was : IsRemembered s.disk k a (right_sights false past) (files_seen past) (locks_seen past)) where
  mine : is_foreign e ≡ false
  mine = own s g k a t past at e is agrees

  touched : Touches a.name (seen_by k s.disk) e
  touched = touch s g k a t past at e is agrees

  among : Mem a.name (names_in s)
  among = mem s g k a t past at e is agrees

  published : IsPublished a.name (seen_by k s.disk) e
  published = subst (λ (z : List ℕ). IsPublished z (seen_by k s.disk) e) (job_name a t)
      (own_published (job_of a t) (seen_by k s.disk) (sound s g k a t past at e is agrees) (state_of a t past) e is agrees (known s g k a t past at e is agrees))

  lawful : (r : Record) (n : List ℕ) → Held a.name r (seen_by k s.disk) → Mem n (names_of r) → is_lawful n ≡ true
  lawful r n h m = stands-lawful (s.disk.files (record_name a.name)) r n h.stands m

  -- the right that is had then was had, or this is the first event
  held_before : holder_then k (s.disk.holders (right_name a.name)) ((after (seen_by k s.disk) e).rights (right_name a.name)) ≡ Some k → (s.disk.holders (right_name a.name) ≡ Some k) ⊎ (past ≡ [])
  held_before h = go (is_taking e) refl ((after (seen_by k s.disk) e).rights (right_name a.name)) refl h
    where
      go : (b : Bool) → is_taking e ≡ b → (o : Option Holder) → (after (seen_by k s.disk) e).rights (right_name a.name) ≡ o → holder_then k (s.disk.holders (right_name a.name)) o ≡ Some k
          → (s.disk.holders (right_name a.name) ≡ Some k) ⊎ (past ≡ [])
      go true y o p x = inr (first_is_first a t past (taking_first (job_of a t) (state_of a t past) e is y))
      go false y None p x = nothing_seen k x
      go false y (Some Own) p x = inl (is_holder k (s.disk.holders (right_name a.name)) (own_before (seen_by k s.disk) e (right_name a.name) mine y p))
      go false y (Some Other) p x = inl x

  none_seen : {A : Type 0} (old : List Past → Sights A) (n : List ℕ) → old [] n ≡ None → past ≡ [] → (now : List ℕ → Option A) → IsSeen (old past) now n
  none_seen {A} old n none first now c x = nothing_seen c (sym (ap (λ (z : List Past). old z n) first ∙ none) ∙ x)

  record_seen : (n : List ℕ) → is_record_name a.name n ≡ true → holder_then k (s.disk.holders (right_name a.name)) ((after (seen_by k s.disk) e).rights (right_name a.name)) ≡ Some k
      → IsSeen (files_seen past) s.disk.files n
  record_seen n so h = elim (held_before h) [
    | inl before ↦ (λ c x. was.record_stays n c before so x)
    | inr first ↦ none_seen files_seen n refl first s.disk.files
  ]

  apart_new : (from to : List ℕ) → from ≡ new_name a.name → to ≡ record_name a.name → from ≢ to
  apart_new from to f p q = record-new a.name (sym (sym f ∙ q ∙ p))

  apart_file : (r : Record) (from to : List ℕ) → Held a.name r (seen_by k s.disk) → Mem to (names_of r) → from ≡ staged_name r.token to → from ≢ to
  apart_file r from to h m f q = lawful-staged to r.token to (lawful r to h m) (sym q ∙ f)

  -- nothing is put in place at a staged name
  from_staged : (u : ℕ) (n : List ℕ) (e : Event) → IsPublished a.name (seen_by k s.disk) e → FromIsSeen (files_seen past) (seen_by k s.disk) (staged_name u n) e
  from_staged u n (event.Publish from to true failed) (inl (f, p)) = (apart_new from to f p, λ q. absurd (staged-record u n a.name (q ∙ p)))
  from_staged u n (event.Publish from to true failed) (inr (r, h, m, f, l)) = (apart_file r from to h m f, λ q. absurd (lawful-staged to u n (lawful r to h m) (sym q)))
  from_staged u n (event.Publish from to false failed) p = tt
  from_staged u n e p = tt

  -- at a record name the staging of the record
  from_record : (n : List ℕ) → is_record_name a.name n ≡ true → IsSeen (files_seen past) s.disk.files (new_name a.name) → (e : Event) → IsPublished a.name (seen_by k s.disk) e
      → FromIsSeen (files_seen past) (seen_by k s.disk) n e
  from_record n so new (event.Publish from to true failed) (inl (f, p)) = (apart_new from to f p, λ q. subst (λ (z : List ℕ). IsSeen (files_seen past) s.disk.files z) (sym f) new)
  from_record n so new (event.Publish from to true failed) (inr (r, h, m, f, l)) =
      (apart_file r from to h m f, λ q. absurd (both (is_record_name a.name to) (ap (is_record_name a.name) (sym q) ∙ so) (g.orderly.plain a.name a.name among among r to h.stands m)))
  from_record n so new (event.Publish from to false failed) p = tt
  from_record n so new e p = tt

  -- at a locked name what was staged for it
  from_locked : (n : List ℕ) → s.disk.locks n ≡ Some a.token → (e : Event) → IsPublished a.name (seen_by k s.disk) e → FromIsSeen (files_seen past) (seen_by k s.disk) n e
  from_locked n lock (event.Publish from to true failed) (inl (f, p)) = (
    apart_new from to f p,
    λ q.
        let w = g.lock_named k a (Bracket t past) n at lock in
        absurd (both (is_record_name a.name n) (ap (is_record_name a.name) (q ∙ p) ∙ own_is a.name) (g.orderly.plain a.name a.name among among w.0 n w.1 w.3)),
  )
  from_locked n lock (event.Publish from to true failed) (inr (r, h, m, f, l)) = (
    apart_file r from to h m f,
    λ q.
        let same : Some r.token ≡ Some a.token = sym l ∙ ap s.disk.locks (sym q) ∙ lock in
        let token : r.token ≡ a.token = cc in
        subst (λ (z : List ℕ). IsSeen (files_seen past) s.disk.files z) (sym (f ∙ ap (λ (u : ℕ). staged_name u to) token)) (λ c x. was.staged_stays to c x),
  )
  from_locked n lock (event.Publish from to false failed) p = tt
  from_locked n lock e p = tt

  not_at : (u : ℕ) (n : List ℕ) (e : Event) → IsPublished a.name (seen_by k s.disk) e → Touches a.name (seen_by k s.disk) e → IsNotAt (staged_name u n) e
  not_at u n (event.Publish from to true failed) (inl (f, p)) tc = (apart_new from to f p, λ q. staged-record u n a.name (q ∙ p))
  not_at u n (event.Publish from to true failed) (inr (r, h, m, f, l)) tc = (apart_file r from to h m f, λ q. lawful-staged to u n (lawful r to h m) (sym q))
  not_at u n (event.Publish from to false failed) p tc = tt
  not_at u n (event.Lock m v true failed) p tc = λ q. lawful-staged m u n (lawful tc.0 m tc.1 tc.2) (sym q)
  not_at u n (event.Lock m v false failed) p tc = tt
  not_at u n (event.Unlock m v true failed) p tc = λ q. lawful-staged m u n (lawful tc.0 m tc.1 tc.2) (sym q)
  not_at u n (event.Unlock m v false failed) p tc = tt
  not_at u n e p tc = tt

  staged_then : (n : List ℕ) → IsSeen (file_sights (files_seen past) e) (after (seen_by k s.disk) e).files (staged_name a.token n)
  staged_then n = seen_after (files_seen past) (seen_by k s.disk) e (staged_name a.token n) mine agrees (from_staged a.token n e published) (λ c x. was.staged_stays n c x)

  locked_then : (n : List ℕ) → lock_sights (locks_seen past) e n ≡ Some (Some a.token) → (after (seen_by k s.disk) e).locks n ≡ Some a.token
  locked_then n l = lock_seen_after (locks_seen past) (seen_by k s.disk) e n (Some a.token) mine (was.locked_stays n) l

  loaded_then : (n : List ℕ) (c : Option (List ℕ)) → lock_sights (locks_seen past) e n ≡ Some (Some a.token) → file_sights (files_seen past) e n ≡ Some c → (after (seen_by k s.disk) e).files n ≡ c
  loaded_then n c l f =
      let before : locks_seen past n ≡ Some (Some a.token) = locked_before (files_seen past) (locks_seen past) e n a.token c l f in
      seen_after (files_seen past) (seen_by k s.disk) e n mine agrees (from_locked n (was.locked_stays n before) e published) (λ c x. was.loaded_stays n c before x) c f

  own_lock_then : (n : List ℕ) → (after (seen_by k s.disk) e).locks n ≡ Some a.token → lock_sights (locks_seen past) e n ≡ Some (Some a.token)
  own_lock_then n l = lock_told_after (locks_seen past) (seen_by k s.disk) e n a.token (λ o. o ≡ Some (Some a.token)) mine refl (was.own_lock n) l

  module _ (h : holder_then k (s.disk.holders (right_name a.name)) ((after (seen_by k s.disk) e).rights (right_name a.name)) ≡ Some k) where
    record_then : (n : List ℕ) → is_record_name a.name n ≡ true → IsSeen (file_sights (files_seen past) e) (after (seen_by k s.disk) e).files n
    record_then n so = seen_after (files_seen past) (seen_by k s.disk) e n mine agrees
        (from_record n so (record_seen (new_name a.name) (or_right _ _ (same_refl (new_name a.name))) h) e published) (record_seen n so h)

    module _ (r : Record) (stands : standing_in (after (seen_by k s.disk) e).files a.name ≡ Some r) where
      lock_was : (n : List ℕ) → standing_in s.disk.files a.name ≡ Some r → s.disk.locks n ≡ Some r.token → (l : Option ℕ) → locks_seen past n ≡ Some l → l ≡ Some r.token
      lock_was n stood lock l x = elim (held_before h) [
        | inl before ↦ was.found_lock r n l before stood x lock
        | inr first ↦ nothing_seen l (sym (ap (λ (z : List Past). locks_seen z n) first) ∙ x)
      ]

      found_lock_then : (n : List ℕ) (l : Option ℕ) → lock_sights (locks_seen past) e n ≡ Some l → (after (seen_by k s.disk) e).locks n ≡ Some r.token → l ≡ Some r.token
      found_lock_then n l x lock = elim (record_from s g k a t past at e is agrees r stands) [
        | inl stood ↦ lock_told_after (locks_seen past) (seen_by k s.disk) e n r.token (λ o. (l : Option ℕ) → o ≡ Some l → l ≡ Some r.token) mine
            (λ l y. sym (known_one (Some r.token) l y)) (lock_was n stood) lock l x
        | inr token ↦ known_one l (Some r.token) (sym x ∙ own_lock_then n (lock ∙ ap Some token) ∙ ap (λ (u : ℕ). Some (Some u)) (sym token))
      ]

      staged_was : (n : List ℕ) → standing_in s.disk.files a.name ≡ Some r → IsSeen (files_seen past) s.disk.files (staged_name r.token n)
      staged_was n stood = elim (held_before h) [
        | inl before ↦ (λ c x. was.found_staged r n c before stood x)
        | inr first ↦ none_seen files_seen (staged_name r.token n) refl first s.disk.files
      ]

      found_staged_then : (n : List ℕ) → IsSeen (file_sights (files_seen past) e) (after (seen_by k s.disk) e).files (staged_name r.token n)
      found_staged_then n = elim (record_from s g k a t past at e is agrees r stands) [
        | inl stood ↦ seen_after (files_seen past) (seen_by k s.disk) e (staged_name r.token n) mine agrees (from_staged r.token n e published) (staged_was n stood)
        | inr token ↦ subst (λ (u : ℕ). IsSeen (file_sights (files_seen past) e) (after (seen_by k s.disk) e).files (staged_name u n)) (sym token) (staged_then n)
      ]

  right_kept : right_sights (right_sights false past) (Shown e ∷ []) ≡ true → holder_then k (s.disk.holders (right_name a.name)) ((after (seen_by k s.disk) e).rights (right_name a.name)) ≡ Some k
  right_kept x = ap (holder_then k (s.disk.holders (right_name a.name)))
      (right_seen_after a.name (seen_by k s.disk) (right_sights false past) e touched mine (λ y. ap (holder_for k) (was.has_right y) ∙ own_holder k) x)

  remembered_by : IsRemembered (disk_then k s.disk (after (seen_by k s.disk) e)) k a (right_sights (right_sights false past) (Shown e ∷ []))
      (file_sights (files_seen past) e) (lock_sights (locks_seen past) e)
  remembered_by = record {
    has_right = right_kept;
    record_stays = λ n c h so x. record_then h n so c x;
    locked_stays = locked_then;
    loaded_stays = loaded_then;
    staged_stays = λ n c x. staged_then n c x;
    found_lock = λ r n l h stands x lock. found_lock_then h r stands n l x lock;
    found_staged = λ r n c h stands x. found_staged_then h r stands n c x;
    own_lock = own_lock_then;
    own_staged = λ n some. told_after (files_seen past) (seen_by k s.disk) e (staged_name a.token n) mine agrees (not_at a.token n e published touched) (was.own_staged n) some;
  }

  pub remembered_then : IsRemembered (disk_then k s.disk (after (seen_by k s.disk) e)) k a (right_sights false (past ++ Shown e ∷ []))
      (files_seen (past ++ Shown e ∷ [])) (locks_seen (past ++ Shown e ∷ []))
  remembered_then =
      subst (λ (b : Bool). IsRemembered (disk_then k s.disk (after (seen_by k s.disk) e)) k a b (files_seen (past ++ Shown e ∷ []))
      (locks_seen (past ++ Shown e ∷ []))) (sym (right_at_end false past (Shown e)))
      (subst (λ (f : Sights (List ℕ)). IsRemembered (disk_then k s.disk (after (seen_by k s.disk) e)) k a
      (right_sights (right_sights false past) (Shown e ∷ [])) f (locks_seen (past ++ Shown e ∷ []))) (sym (sights_at_end file_sights no_sights past e))
      (subst (λ (l : Sights ℕ). IsRemembered (disk_then k s.disk (after (seen_by k s.disk) e)) k a
      (right_sights (right_sights false past) (Shown e ∷ [])) (file_sights (files_seen past) e) l) (sym (sights_at_end lock_sights no_sights past e)) remembered_by))
