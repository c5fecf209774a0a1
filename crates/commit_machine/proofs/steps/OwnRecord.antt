-- Each own event keeps what is known: a job's own record is staged and published.
use Rattle.std.proofs.Common.{◌≡◌, ℕ, Bool, true, false, List, [], Option, Some, None, refl, ap, sym, subst, inl, inr, ◌∙◌, ◌&&◌}
use Rattle.std.proofs.lemmas.Bool.{cases_Bool}
use Rattle.commit_record.specs.Format.{written}
use Rattle.commit_record.specs.declared.record.Record.{Record}
use Rattle.host_port.specs.declared.event.Event.{Event}
use Rattle.host_port.specs.declared.event.Event.TheVariants as event
use Rattle.host_port.specs.Disk.{Disk, with_at, after}
use Rattle.host_port.specs.Ran.{Agrees}
use Rattle.commit_machine.specs.Names.{record_name, new_name, staged_name}
use Rattle.commit_machine.specs.Records.{record_in, is_go}
use Rattle.commit_machine.specs.Settled.{Files, Locks}
use Rattle.commit_machine.specs.Jobs.{Found, Job, IsJob, prepare_of, edits_of}
use Rattle.commit_machine.specs.Machine.{Clearing, Preparing, ToStage, ToErase, Publishing, ToPublish, locking}
use Rattle.commit_machine.specs.Goes.{IsOf, stages, stage_fails, erases, publishes}
use Rattle.commit_machine.specs.Lawful.{IsSound}
use Rattle.commit_machine.specs.Due.{settled_files, settled_locks, files_then}
use Rattle.commit_machine.proofs.standing.Known.{Idle, Knows, Own}
use Rattle.commit_machine.proofs.records.Same.{put_here, put_there}
use Rattle.commit_machine.proofs.records.Names.{record-new, staged-record, staged-new}
use Rattle.commit_machine.proofs.standing.Settled.{keep_new, keep_prepare, renamed, renamed_to, renamed_other}
use Rattle.commit_machine.proofs.standing.Sound.{sound_new, lock_same, lock_prepare}
use Rattle.commit_machine.proofs.standing.KnownNext.{knows_mended, knows_locking}
use Rattle.std.specs.Str.{bytes_eq}
use Rattle.commit_machine.proofs.records.InFile.{record_of-written, stands-valid}
use Rattle.commit_machine.proofs.standing.Decided.{named}
use Rattle.commit_machine.proofs.records.OfJob.{valid-distinct}
use Rattle.commit_machine.proofs.steps.Shown.{Shows, Kept}

-- a publication of a record that isn't the decision
not_go : (j : Job) (d : Disk) (files : Files) (r : Record) (from to : List ℕ) (failed : Bool) (n : List ℕ)
    → record_in (d.files (new_name j.actor)) ≡ Some r → is_go r ≡ false → files_then j (event.Publish from to true failed) d files n ≡ files n
not_go j d files r from to failed n e go = rw (e, go) (elim (cases_Bool (bytes_eq from (new_name j.actor) && bytes_eq to (record_name j.actor))) [ inl y ↦ rw y refl | inr nay ↦ rw nay refl ])

module _ (j : Job) (job : IsJob j) (d : Disk) (files : Files) (owners : Locks) (settles : (n : List ℕ) → settled_files j.actor d n ≡ files n)
    (locked : (n : List ℕ) → settled_locks j.actor d n ≡ owners n) (sound : IsSound j.actor d) where
  -- what is written to the staging of the record
  pub new_shows : (e : Event) (c : Option (List ℕ)) → (after d e ≡ record d { files = with_at d.files (new_name j.actor) c })
      → ((n : List ℕ) → files_then j e d files n ≡ files n) → Shows j e d files owners
  new_shows e c is same = record {
    settles = λ q. ap (λ (z : Disk). settled_files j.actor z q) is ∙ keep_new j.actor d.files c q ∙ settles q ∙ sym (same q);
    locked = λ q. ap (λ (z : Disk). settled_locks j.actor z q) is
        ∙ lock_same j.actor d.files (with_at d.files (new_name j.actor) c) d.locks q (put_there d.files (new_name j.actor) (record_name j.actor) c (record-new j.actor)) ∙ locked q;
    sound = subst (λ (z : Disk). IsSound j.actor z) (sym is) (sound_new j.actor d.files d.locks c sound);
  }

  new_record : (c : Option (List ℕ)) → with_at d.files (new_name j.actor) c (record_name j.actor) ≡ d.files (record_name j.actor)
  new_record c = put_there d.files (new_name j.actor) (record_name j.actor) c (record-new j.actor)

  new_staged : (c : Option (List ℕ)) (u : ℕ) (m : List ℕ) → with_at d.files (new_name j.actor) c (staged_name u m) ≡ d.files (staged_name u m)
  new_staged c u m = put_there d.files (new_name j.actor) (staged_name u m) c (staged-new u m j.actor)

  new_idle : (c b : Option (List ℕ)) → Idle j None d → ((x : List ℕ) → c ≡ Some x → b ≡ Some x) → Idle j c (record d { files = with_at d.files (new_name j.actor) b })
  new_idle c b k h = record {
    clean = record {
      right = k.clean.right;
      fresh = record {
        staged = λ m. new_staged b j.token m ∙ k.clean.fresh.staged m;
        locks = k.clean.fresh.locks;
        record_other = λ r e. k.clean.fresh.record_other r (sym (ap record_in (new_record b)) ∙ e);
      };
    };
    none = new_record b ∙ k.none;
    new = λ x e. put_here d.files (new_name j.actor) b ∙ h x e;
  }

  pub step_clearing : (found : Found) {e : Event} → IsOf (ToErase (new_name j.actor)) e → Agrees d e → Knows j (Clearing found) d → Kept j (Clearing found) e d files owners
  step_clearing found (erases {done = true} {failed = true}) agrees k = record { shows = new_shows (event.Erase (new_name j.actor) true true) None refl (λ n. refl); knows = tt }
  step_clearing found (erases {done = false} {failed = true}) agrees k = record { shows = record { settles = settles; locked = locked; sound = sound }; knows = tt }
  step_clearing found (erases {done = false} {failed = false}) agrees k = absurd (cc)
  step_clearing found (erases {done = true} {failed = false}) agrees k = record {
    shows = new_shows (event.Erase (new_name j.actor) true false) None refl (λ n. refl);
    knows = knows_mended j (after d (event.Erase (new_name j.actor) true false)) job found (put_here d.files (new_name j.actor) None) (new_idle None None k (λ x e. absurd (cc)));
  }

  pub step_preparing : {e : Event} → IsOf (ToStage (new_name j.actor) (written (prepare_of j))) e → Knows j Preparing d → Kept j Preparing e d files owners
  step_preparing stages k = record {
    shows = new_shows (event.Stage (new_name j.actor) (Some (written (prepare_of j))) false) (Some (written (prepare_of j))) refl (λ n. refl);
    knows = (new_idle (Some (written (prepare_of j))) (Some (written (prepare_of j))) k.0 (λ x e. e), k.1);
  }
  step_preparing (stage_fails {left = c}) k = record { shows = new_shows (event.Stage (new_name j.actor) c true) c refl (λ n. refl); knows = tt }

  module _ (k : Knows j Publishing d) where
    new_holds : record_in (d.files (new_name j.actor)) ≡ Some (prepare_of j)
    new_holds = ap record_in (k.0.new (written (prepare_of j)) refl) ∙ record_of-written (written (prepare_of j)) (prepare_of j) k.1

    now_stands : record_in (renamed d.files (new_name j.actor) (record_name j.actor) (record_name j.actor)) ≡ Some (prepare_of j)
    now_stands = ap record_in (renamed_to d.files (new_name j.actor) (record_name j.actor)) ∙ new_holds

    not_decided_yet : (r : Record) → record_in (renamed d.files (new_name j.actor) (record_name j.actor) (record_name j.actor)) ≡ Some r → is_go r ≡ true → ⊥
    not_decided_yet r e g = let w : Some (prepare_of j) ≡ Some r = sym now_stands ∙ e in let v : prepare_of j ≡ r = cc in
        let x : is_go (prepare_of j) ≡ true = subst (λ (z : Record). is_go z ≡ true) (sym v) g in absurd (cc)

    publish_shows : (failed : Bool) → Shows j (event.Publish (new_name j.actor) (record_name j.actor) true failed) d files owners
    publish_shows failed = record {
      settles = λ q. keep_prepare j.actor d.files (prepare_of j) q (ap record_in k.0.none) refl new_holds k.0.clean.fresh.staged ∙ settles q
          ∙ sym (not_go j d files (prepare_of j) (new_name j.actor) (record_name j.actor) failed q new_holds refl);
      locked = λ q. lock_prepare j.actor d.files d.locks (prepare_of j) q (ap record_in k.0.none) new_holds k.0.clean.fresh.locks ∙ locked q;
      sound = record { plain = λ r n e g m. absurd (not_decided_yet r e g); locked = λ r n e g m s. absurd (not_decided_yet r e g); long = λ r n at e g m way s. absurd (not_decided_yet r e g) };
    }

    moved_staged : (m : List ℕ) → renamed d.files (new_name j.actor) (record_name j.actor) (staged_name j.token m) ≡ None
    moved_staged m = renamed_other d.files (new_name j.actor) (record_name j.actor) (staged_name j.token m) (staged-new j.token m j.actor) (staged-record j.token m j.actor) ∙ k.0.clean.fresh.staged m

    publish_own : Own j [] [] [] [] (after d (event.Publish (new_name j.actor) (record_name j.actor) true false))
    publish_own = record {
      closing = record {
        right = k.0.clean.right;
        stands = now_stands;
        gone = λ m h. inr (moved_staged m);
        free = λ m h. inr (k.0.clean.fresh.locks m);
      };
      rest = record { staged = λ m. inr (moved_staged m); locks = λ m. inr (k.0.clean.fresh.locks m) };
      locked = λ m h. absurd h;
      seen = λ x h. absurd h;
      staged = λ x h. absurd h;
    }

    publish_knows : Knows j (locking j [] (edits_of j)) (after d (event.Publish (new_name j.actor) (record_name j.actor) true false))
    publish_knows = knows_locking j (after d (event.Publish (new_name j.actor) (record_name j.actor) true false)) [] (edits_of j) publish_own
        (record {
          all = λ m h. inr (named (edits_of j) m h);
          back = λ m h. absurd h;
          within = λ e m. m;
          apart = λ m h. absurd h;
          distinct =
              valid-distinct j (stands-valid (renamed d.files (new_name j.actor) (record_name j.actor) (record_name j.actor)) (prepare_of j) now_stands).0;
        })

  pub step_publishing : {e : Event} → IsOf (ToPublish (new_name j.actor) (record_name j.actor)) e → Agrees d e → Knows j Publishing d → Kept j Publishing e d files owners
  step_publishing (publishes {done = true} {failed = true}) agrees k = record { shows = publish_shows k true; knows = tt }
  step_publishing (publishes {done = false} {failed = true}) agrees k = record { shows = record { settles = settles; locked = locked; sound = sound }; knows = tt }
  step_publishing (publishes {done = false} {failed = false}) agrees k = record { shows = record { settles = settles; locked = locked; sound = sound }; knows = k.0.clean.fresh }
  step_publishing (publishes {done = true} {failed = false}) agrees k = record { shows = publish_shows k false; knows = publish_knows k }
