-- Each own event keeps what is known: the decision is staged and published.
use Rattle.std.proofs.Common.{◌≡◌, ℕ, ◌<◌, ◌^◌, Bool, true, false, ◌==◌, List, [], ◌∷◌, Option, Some, None, refl, ap, sym, subst, inl, inr, ◌∙◌, arith, is_some}
use Rattle.std.proofs.lemmas.Grind.{common_steps}
use Rattle.commit_record.specs.Format.{written, is_valid}
use Rattle.commit_record.specs.declared.record.Record.{Record}
use Rattle.host_port.specs.declared.event.Event.{Event}
use Rattle.host_port.specs.declared.event.Event.TheVariants as event
use Rattle.host_port.specs.Disk.{Disk, with_at, reaches, after}
use Rattle.host_port.specs.Ran.{Agrees}
use Rattle.commit_machine.specs.Names.{record_name, new_name, staged_name, is_record_name}
use Rattle.commit_machine.specs.Records.{record_in, is_go, names_of, way_at, AreDistinct}
use Rattle.commit_machine.specs.Settled.{Files, Locks, Mem, put_in, IsSoundAt}
use Rattle.commit_machine.specs.Items.{Item, made_items, content_made}
use Rattle.commit_machine.specs.Jobs.{Puts, Edit, Job, Made, IsJob, edits_of, all_of, prepare_of, go_of, Done, made_at, way_made, file_after, outcome_of}
use Rattle.commit_machine.specs.Machine.{Deciding, Committing, ToStage, ToPublish, Answer, placing}
use Rattle.commit_machine.specs.Goes.{IsOf, stages, stage_fails, publishes}
use Rattle.commit_machine.specs.Lawful.{standing, IsSound}
use Rattle.commit_machine.specs.Due.{settled_files, settled_locks, files_then, applied}
use Rattle.commit_machine.proofs.standing.Known.{IsStaged, Knows, Subset}
use Rattle.commit_machine.proofs.records.Same.{same_refl, put_here, put_there}
use Rattle.commit_machine.proofs.records.Names.{record-new, staged-record, staged-new}
use Rattle.commit_machine.proofs.records.InFile.{record_of-written, stands-valid, stands-distinct}
use Rattle.commit_machine.proofs.standing.Settled.{renamed, renamed_to, renamed_other, record_name-not}
use Rattle.commit_machine.proofs.standing.Sound.{lock_commit}
use Rattle.commit_machine.proofs.standing.Decided.{named, names_Mem, decided}
use Rattle.commit_machine.proofs.standing.KnownNext.{names-prepare, knows_placing}
use Rattle.commit_machine.proofs.records.OfJob.{valid-distinct, valid-plain, one_edit, valid-go, made_first, made_at-Mem, way_of_entries, numbers-entries}
use Rattle.commit_machine.proofs.records.OfItems.{names-entries_for, names-made, made-is}
use Rattle.commit_record.specs.declared.way.Way.{Way}
use Rattle.commit_record.specs.declared.way.Way.TheVariants.{Extend}
use Rattle.commit_record.specs.Format.{fits_number}
use Rattle.std.specs.List.{list_all}
use Rattle.commit_machine.proofs.steps.Shown.{Shows, Kept, none_left}
use Rattle.commit_machine.proofs.steps.OwnRecord

some-one : {A : Type 0} (a b : A) → Some a ≡ Some b → a ≡ b
some-one a b e = cc

pub a_decision : (j : Job) (d : Disk) (files : Files) (r : Record) (failed : Bool) (n : List ℕ) → record_in (d.files (new_name j.actor)) ≡ Some r
    → is_go r ≡ true → r.token ≡ j.token → files_then j (event.Publish (new_name j.actor) (record_name j.actor) true failed) d files n ≡ applied (edits_of j) files n
a_decision j d files r failed n e go t =
    let same : (r.token == j.token) ≡ true = rw t (grind (arith, common_steps)) in
    rw (same_refl (new_name j.actor), same_refl (record_name j.actor), e, go, same) refl

module _ (j : Job) (job : IsJob j) (d : Disk) (files : Files) (owners : Locks) (settles : (n : List ℕ) → settled_files j.actor d n ≡ files n)
    (locked : (n : List ℕ) → settled_locks j.actor d n ≡ owners n) (sound : IsSound j.actor d) where
  module _ (made : List Made) (k : Knows j (Deciding made) d) where
    decide_seen : (y : Made) → Mem y made → with_at d.files (new_name j.actor) (Some (written (go_of j made))) y.edit.name ≡ y.seen
    decide_seen y h =
        let plain = job.plain y.edit (k.1.each y h).0 in
        put_there d.files (new_name j.actor) y.edit.name (Some (written (go_of j made))) (record_name-not j.actor y.edit.name plain).1 ∙ k.0.seen y h

    new_leaves : (u : ℕ) (m : List ℕ) → with_at d.files (new_name j.actor) (Some (written (go_of j made))) (staged_name u m) ≡ d.files (staged_name u m)
    new_leaves u m = put_there d.files (new_name j.actor) (staged_name u m) (Some (written (go_of j made))) (staged-new u m j.actor)

    decide_stands : standing j.actor (after d (event.Stage (new_name j.actor) (Some (written (go_of j made))) false)) ≡ Some (prepare_of j)
    decide_stands = ap record_in (put_there d.files (new_name j.actor) (record_name j.actor) (Some (written (go_of j made))) (record-new j.actor)) ∙ k.0.closing.stands

    decide_knows : Knows j (Committing made) (after d (event.Stage (new_name j.actor) (Some (written (go_of j made))) false))
    decide_knows = (
      record {
        closing = record {
          right = k.0.closing.right;
          stands = decide_stands;
          gone =
              λ m h. elim (k.0.closing.gone m h) [ inl a ↦ inl a | inr b ↦ inr (new_leaves j.token m ∙ b) ];
          free = k.0.closing.free;
        };
        rest = record { staged = λ m. elim (k.0.rest.staged m) [ inl a ↦ inl a | inr b ↦ inr (new_leaves j.token m ∙ b) ]; locks = k.0.rest.locks };
        locked = k.0.locked;
        seen = decide_seen;
        staged = λ y h. elim (k.0.staged y h) [ inl a ↦ inl a | inr b ↦ inr (new_leaves j.token y.edit.name ∙ b) ];
      },
      k.1,
      put_here d.files (new_name j.actor) (Some (written (go_of j made))),
    )

  pub step_deciding : (made : List Made) {e : Event} → IsOf (ToStage (new_name j.actor) (written (go_of j made))) e → Knows j (Deciding made) d → Kept j (Deciding made) e d files owners
  step_deciding made stages k = record {
    shows =
        OwnRecord.new_shows j job d files owners settles locked sound (event.Stage (new_name j.actor) (Some (written (go_of j made))) false)
        (Some (written (go_of j made))) refl (λ n. refl);
    knows = decide_knows made k;
  }
  step_deciding made (stage_fails {left = c}) k =
      record { shows = OwnRecord.new_shows j job d files owners settles locked sound (event.Stage (new_name j.actor) c true) c refl (λ n. refl); knows = tt }

  module _ (made : List Made) (k : Knows j (Committing made) d) where
    prepare_valid : is_valid (prepare_of j) ≡ true
    prepare_valid = (stands-valid (d.files (record_name j.actor)) (prepare_of j) k.0.closing.stands).0

    names_go : names_of (go_of j made) ≡ all_of j
    names_go = names-entries_for (λ n. way_made (made_at made n)) (all_of j)

    -- what was made for a name as an extension is one of a file that reaches so far
    made_extends : (n : List ℕ) (at : ℕ) → way_made (made_at made n) ≡ Extend at → (x : Made) × Mem x made × (made_at made n ≡ Some x) × (reaches at x.seen ≡ true) × (at < 2 ^ 64)
    made_extends n at e = go (made_at made n) refl e
      where
        go : (o : Option Made) → made_at made n ≡ o → way_made o ≡ Extend at → (x : Made) × Mem x made × (made_at made n ≡ Some x) × (reaches at x.seen ≡ true) × (at < 2 ^ 64)
        go None is way = absurd (cc)
        go (Some x) is way =
            let x_in : Mem x made = made_at-Mem made n x is in
            let p = k.1.each x x_in in
            let w = job.extends x.edit p.0 x.seen at x.content (p.1 ∙ ap (λ (v : Way). Puts v x.content) way) in
            (x, x_in, is, w.0, w.1)

    go_numbers : list_all fits_number (go_of j made).entries ≡ true
    go_numbers = numbers-entries (λ n. way_made (made_at made n)) (all_of j) (λ n at e. (made_extends n at e).4)

    pub new_go : record_in (d.files (new_name j.actor)) ≡ Some (go_of j made)
    new_go = ap record_in k.2 ∙ record_of-written (written (go_of j made)) (go_of j made)
        (record { valid = valid-go j made (stands-valid (d.files (record_name j.actor)) (prepare_of j) k.0.closing.stands).0; token_fits = job.token_fits; numbers_fit = go_numbers; is = refl })

    pub go_stands : record_in (renamed d.files (new_name j.actor) (record_name j.actor) (record_name j.actor)) ≡ Some (go_of j made)
    go_stands = ap record_in (renamed_to d.files (new_name j.actor) (record_name j.actor)) ∙ new_go

    -- the first that was made for an edit
    made_for : (e : Edit) → Mem e (edits_of j) → (x : Made) × Mem x made × (x.edit ≡ e) × (made_at made e.name ≡ Some x)
    made_for e m = elim (k.1.all e m) [
      | inl a ↦ absurd a
      | inr w ↦
          let (x, x_in, is, found) = made_first made w.0 w.1 in
          let one : x.edit ≡ e = one_edit (edits_of j) x.edit e (valid-distinct j prepare_valid) (k.1.each x x_in).0 m (is ∙ ap (λ (z : Edit). z.name) w.2) in
          (x, x_in, one, ap (made_at made) (sym (ap (λ (z : Edit). z.name) w.2)) ∙ found)
    ]

    outcomes : (e : Edit) → Mem e (edits_of j) → put_in (way_at (go_of j made) e.name) (d.files e.name) (d.files (staged_name j.token e.name)) ≡ outcome_of e (d.files e.name)
    outcomes e m =
        let (x, x_in, is, first) = made_for e m in
        let name : x.edit.name ≡ e.name = ap (λ (z : Edit). z.name) is in
        let file : d.files e.name ≡ x.seen = ap d.files (sym name) ∙ k.0.seen x x_in in
        let staged : d.files (staged_name j.token e.name) ≡ Some x.content = ap (λ (z : List ℕ). d.files (staged_name j.token z)) (sym name) ∙ none_left x _ (k.0.staged x x_in) in
        let way : way_at (go_of j made) e.name ≡ x.way = way_of_entries (all_of j) (λ n. way_made (made_at made n)) e.name (names_Mem (edits_of j) e m) ∙ ap way_made first in
        let by : e.by (d.files e.name) ≡ Puts x.way x.content = ap e.by file ∙ ap (λ (z : Edit). z.by x.seen) (sym is) ∙ (k.1.each x x_in).1 in
        ap (λ (z : Way). put_in z (d.files e.name) (d.files (staged_name j.token e.name))) way ∙ ap (put_in x.way (d.files e.name)) staged ∙ sym (ap (file_after (d.files e.name)) by)

    commit_files : (q : List ℕ) → settled_files j.actor (after d (event.Publish (new_name j.actor) (record_name j.actor) true false)) q ≡ applied (edits_of j) (settled_files j.actor d) q
    commit_files q = decided j.actor d.files (prepare_of j) (go_of j made) (edits_of j) q k.0.closing.stands refl new_go refl refl
        (names-prepare j ∙ sym names_go) names_go (valid-distinct j prepare_valid) (valid-plain j job prepare_valid) outcomes

    same_applied : (es : List Edit) (q : List ℕ) → applied es (settled_files j.actor d) q ≡ applied es files q
    same_applied [] q = settles q
    same_applied (e ∷ es) q = rw (settles q, same_applied es q) refl

    is_go_record : (r : Record) → record_in (renamed d.files (new_name j.actor) (record_name j.actor) (record_name j.actor)) ≡ Some r → r ≡ go_of j made
    is_go_record r e = let w : Some (go_of j made) ≡ Some r = sym go_stands ∙ e in cc

    -- a file that is extended has the bytes that stay
    go_reaches : (n : List ℕ) (at : ℕ) → Mem n (all_of j) → way_made (made_at made n) ≡ Extend at → reaches at (renamed d.files (new_name j.actor) (record_name j.actor) n) ≡ true
    go_reaches n at m way =
        let (x, x_in, found, reaches_so, fits) = made_extends n at way in
        let (e, e_in, is) = named (edits_of j) n m in
        let (y, y_in, one, first) = made_for e e_in in
        let same : Some y ≡ Some x = sym first ∙ ap (made_at made) is ∙ found in
        let name : x.edit.name ≡ n = ap (λ (z : Made). z.edit.name) (sym (some-one y x same)) ∙ ap (λ (z : Edit). z.name) one ∙ is in
        let plain = subst (λ (z : List ℕ). is_record_name j.actor z ≡ false) is (job.plain e e_in) in
        let moved : renamed d.files (new_name j.actor) (record_name j.actor) n ≡ d.files n =
        renamed_other d.files (new_name j.actor) (record_name j.actor) n (record_name-not j.actor n plain).1 (record_name-not j.actor n plain).0 in
        let seen : d.files n ≡ x.seen = ap d.files (sym name) ∙ k.0.seen x x_in in
        ap (reaches at) (moved ∙ seen) ∙ reaches_so

    commit_sound : IsSoundAt j.actor (renamed d.files (new_name j.actor) (record_name j.actor)) d.locks
    commit_sound = record {
      plain = λ r n e g m.
          let in_all : Mem n (all_of j) = subst (Mem n) names_go (subst (λ (z : Record). Mem n (names_of z)) (is_go_record r e) m) in
          let (x, x_in, is) = named (edits_of j) n in_all in
          subst (λ (z : List ℕ). is_record_name j.actor z ≡ false) is (job.plain x x_in);
      locked = λ r n e g m s.
          let w = is_go_record r e in
          k.0.locked n (subst (Mem n) names_go (subst (λ (z : Record). Mem n (names_of z)) w m)) ∙ ap (λ (z : Record). Some z.token) (sym w);
      long = λ r n at e g m way s.
          let w = is_go_record r e in
          let in_all : Mem n (all_of j) = subst (Mem n) names_go (subst (λ (z : Record). Mem n (names_of z)) w m) in
          let made_so : way_made (made_at made n) ≡ Extend at = sym (way_of_entries (all_of j) (λ n. way_made (made_at made n)) n in_all) ∙ subst (λ (z : Record). way_at z n ≡ Extend at) w way in
          go_reaches n at in_all made_so;
    }

    commit_shows : (failed : Bool) → Shows j (event.Publish (new_name j.actor) (record_name j.actor) true failed) d files owners
    commit_shows failed = record {
      settles = λ q. commit_files q ∙ same_applied (edits_of j) q ∙ sym (a_decision j d files (go_of j made) failed q new_go refl refl);
      locked = λ q. lock_commit j.actor d.files d.locks (prepare_of j) (go_of j made) q k.0.closing.stands new_go refl (names-prepare j ∙ sym names_go) ∙ locked q;
      sound = commit_sound;
    }

    commit_staged : (m : List ℕ) → renamed d.files (new_name j.actor) (record_name j.actor) (staged_name j.token m) ≡ d.files (staged_name j.token m)
    commit_staged m = renamed_other d.files (new_name j.actor) (record_name j.actor) (staged_name j.token m) (staged-new j.token m j.actor) (staged-record j.token m j.actor)

    -- the file is staged as it was made
    name_staged : (m : List ℕ) → Mem m (all_of j)
        → (renamed d.files (new_name j.actor) (record_name j.actor) (staged_name j.token m) ≡ content_made (made_at made m)) × (is_some (content_made (made_at made m)) ≡ true)
    name_staged m h =
        let (e, e_in, is) = named (edits_of j) m h in
        let (x, x_in, one, first) = made_for e e_in in
        let name : x.edit.name ≡ m = ap (λ (z : Edit). z.name) one ∙ is in
        let staged : d.files (staged_name j.token m) ≡ Some x.content = ap (λ (z : List ℕ). d.files (staged_name j.token z)) (sym name) ∙ none_left x _ (k.0.staged x x_in) in
        let made_so : content_made (made_at made m) ≡ Some x.content = ap content_made (ap (made_at made) (sym is) ∙ first) in
        (commit_staged m ∙ staged ∙ sym made_so, ap is_some made_so)

    all_staged : (x : Item) → Mem x (made_items j made) → IsStaged (go_of j made) x (after d (event.Publish (new_name j.actor) (record_name j.actor) true false))
    all_staged x h =
        let w = made-is made (all_of j) x h in
        let p = name_staged x.name w.0 in
        let known : x.staged ≡ content_made (made_at made x.name) = ap (λ (z : Item). z.staged) w.1 in
        (p.0 ∙ sym known, ap is_some known ∙ p.1)

    all_ways : (x : Item) → Mem x (made_items j made) → way_at (go_of j made) x.name ≡ x.way
    all_ways x h =
        let w = made-is made (all_of j) x h in
        way_of_entries (all_of j) (λ n. way_made (made_at made n)) x.name w.0 ∙ sym (ap (λ (z : Item). z.way) w.1)

    in_go : Subset (all_of j) (names_of (go_of j made))
    in_go = record { each = λ m h. subst (Mem m) (sym names_go) h }

    commit_knows : Knows j (placing (go_of j made) (made_items j made) (all_of j) (Answer Done)) (after d (event.Publish (new_name j.actor) (record_name j.actor) true false))
    commit_knows = knows_placing j (after d (event.Publish (new_name j.actor) (record_name j.actor) true false)) (go_of j made) (made_items j made) (all_of j) (Answer Done)
        (record {
          closing = record {
            right = k.0.closing.right;
            stands = go_stands;
            gone =
                λ m h. inl (subst (Mem m) (sym (names-made j made)) (subst (Mem m) names_go h));
            free = λ m h. inl (subst (Mem m) names_go h);
          };
          go = refl;
          within = subst (λ (ns : List (List ℕ)). Subset ns (names_of (go_of j made))) (sym (names-made j made)) in_go;
          locks_within = in_go;
          distinct = subst AreDistinct (sym (names-made j made)) (subst AreDistinct (names-prepare j) (stands-distinct (d.files (record_name j.actor)) (prepare_of j) k.0.closing.stands));
          ways = all_ways;
          staged = all_staged;
        })
        (record {
          token = refl;
          names = names_go;
          own_end = tt;
          rest = record { staged = λ m. elim (k.0.rest.staged m) [ inl a ↦ inl a | inr b ↦ inr (commit_staged m ∙ b) ]; locks = k.0.rest.locks };
        })

  pub step_committing : (made : List Made) {e : Event} → IsOf (ToPublish (new_name j.actor) (record_name j.actor)) e → Agrees d e
      → Knows j (Committing made) d → Kept j (Committing made) e d files owners
  step_committing made (publishes {done = true} {failed = true}) agrees k = record { shows = commit_shows made k true; knows = tt }
  step_committing made (publishes {done = false} {failed = true}) agrees k = record { shows = record { settles = settles; locked = locked; sound = sound }; knows = tt }
  step_committing made (publishes {done = false} {failed = false}) agrees k = absurd (let w : is_some (d.files (new_name j.actor)) ≡ true = rw k.2 refl in cc)
  step_committing made (publishes {done = true} {failed = false}) agrees k = record { shows = commit_shows made k false; knows = commit_knows made k }
