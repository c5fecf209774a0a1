-- Each own event keeps what is known: a file that is removed or extended.
use Rattle.std.proofs.Common.{◌≡◌, ◌≢◌, ◌⊎◌, ℕ, Bool, true, false, List, ◌∷◌, Option, Some, None, is_some, refl, ap, sym, subst, inl, inr, ◌∙◌}
use Rattle.commit_record.specs.Names.{is_lawful}
use Rattle.commit_record.specs.declared.record.Record.{Record}
use Rattle.commit_record.specs.declared.way.Way.{Way}
use Rattle.commit_record.specs.declared.way.Way.TheVariants.{Replace, Remove, Extend}
use Rattle.host_port.specs.declared.event.Event.{Event}
use Rattle.host_port.specs.declared.event.Event.TheVariants as event
use Rattle.host_port.specs.declared.event.Seen.TheVariants as seen
use Rattle.host_port.specs.Disk.{Disk, with_at, reaches, extended, after}
use Rattle.folder_change.specs.Outcomes.{bytes_of}
use Rattle.host_port.specs.Ran.{Agrees}
use Rattle.commit_machine.specs.Names.{record_name, staged_name}
use Rattle.commit_machine.specs.Records.{record_in, names_of, way_at}
use Rattle.commit_machine.specs.Settled.{Files, Locks, Mem, put_in}
use Rattle.commit_machine.specs.Items.{Item, item_names}
use Rattle.commit_machine.specs.Jobs.{Job, IsJob}
use Rattle.commit_machine.specs.Machine.{Then, GoOn, Testing, Removing, Extending, Discarding, ToLoad, ToExtend, ToErase, place_known, stay, tested, placing}
use Rattle.commit_machine.specs.Goes.{IsOf, loads, extends, extend_fails, erases}
use Rattle.commit_machine.specs.Lawful.{IsSound}
use Rattle.commit_machine.specs.Due.{settled_files, settled_locks}
use Rattle.commit_machine.proofs.standing.Known.{IsLooked, IsStaged, ThenOk, PartPlaced, Knows}
use Rattle.commit_machine.proofs.records.Same.{put_here, put_there}
use Rattle.commit_machine.proofs.records.Names.{staged-one, lawful-staged}
use Rattle.commit_machine.proofs.records.InFile.{stands-lawful}
use Rattle.commit_machine.proofs.records.OfItems.{item-named}
use Rattle.commit_machine.proofs.standing.Settled.{keep_file, keep_clear, put_in_remove, put_in_gone, put_in_extended, extended_done, extended_reaches, record-staged, record_name-not}
use Rattle.commit_machine.proofs.standing.Sound.{keeps_way, sound_file, sound_clear, lock_same}
use Rattle.commit_machine.proofs.standing.KnownNext.{knows_placing}
use Rattle.commit_machine.proofs.steps.Shown.{Shows, Kept, absent_more}
use Rattle.commit_machine.proofs.steps.Mending.{another, staged_left, passed_placed}
use Rattle.commit_machine.proofs.steps.Shown

-- what is known of a staged file is what was seen of it
seen_placed : (actor : List ℕ) (r : Record) (x : Item) (xs : List Item) (ls : List (List ℕ)) (c : Option (List ℕ)) (d : Disk)
    → PartPlaced actor r (x ∷ xs) ls GoOn d → PartPlaced actor r (record x { staged = c } ∷ xs) ls GoOn d
seen_placed actor r x xs ls c d k = record {
  closing = k.closing;
  go = k.go;
  within = k.within;
  locks_within = k.locks_within;
  distinct = k.distinct;
  ways = λ y h. elim h [ inl e ↦ subst (λ (z : Item). way_at r z.name ≡ z.way) (sym e) (k.ways x (inl refl)) | inr m ↦ k.ways y (inr m) ];
  staged = tt;
}

-- its staged file stands, so it is put in place
known_placed : (j : Job) (d : Disk) (r : Record) (way : Way) (x : Item) (xs : List Item) (ls : List (List ℕ)) → x.way ≡ way → IsLooked way
    → PartPlaced j.actor r (x ∷ xs) ls GoOn d → ThenOk j r GoOn d → IsStaged r x d → Knows j (place_known way r x xs ls GoOn) d
known_placed j d r Replace x xs ls is looked k t s = absurd looked
known_placed j d r Remove x xs ls is looked k t s = (k, t, is, s)
known_placed j d r (Extend at) x xs ls is looked k t s = (k, t, (at, is), s)

module _ (j : Job) (job : IsJob j) (d : Disk) (files : Files) (locks : Locks) (settles : (n : List ℕ) → settled_files j.actor d n ≡ files n)
    (locked : (n : List ℕ) → settled_locks j.actor d n ≡ locks n) (sound : IsSound j.actor d) where
  tested_knows : (r : Record) (x : Item) (xs : List Item) (ls : List (List ℕ)) → Knows j (Testing r x xs ls) d → (c : Option (List ℕ))
      → d.files (staged_name r.token x.name) ≡ c → Knows j (tested r x xs ls c) d
  tested_knows r x xs ls k None is = knows_placing j d r xs ls GoOn (passed_placed j d r x xs ls GoOn k.0 is) k.1
  tested_knows r x xs ls k (Some bytes) is = known_placed j d r x.way (record x { staged = Some bytes }) xs ls refl k.2 (seen_placed j.actor r x xs ls (Some bytes) d k.0) k.1 (is, refl)

  pub step_testing : (r : Record) (x : Item) (xs : List Item) (ls : List (List ℕ)) {e : Event} → IsOf (ToLoad (staged_name r.token x.name)) e
      → Agrees d e → Knows j (Testing r x xs ls) d → Kept j (Testing r x xs ls) e d files locks
  step_testing r x xs ls (loads {s = seen.Bytes c held}) agrees k = record { shows = record { settles = settles; locked = locked; sound = sound }; knows = tested_knows r x xs ls k c (sym agrees.0) }
  step_testing r x xs ls (loads {s = seen.TooLarge m}) agrees k = record { shows = record { settles = settles; locked = locked; sound = sound }; knows = k.1 }
  step_testing r x xs ls (loads {s = seen.Failed}) agrees k = record { shows = record { settles = settles; locked = locked; sound = sound }; knows = tt }
  step_testing r x xs ls (loads {s = seen.Memory}) agrees k = record { shows = record { settles = settles; locked = locked; sound = sound }; knows = k.1 }

  -- the file is taken away
  module _ (r : Record) (x : Item) (xs : List Item) (ls : List (List ℕ)) (th : Then) (k : Knows j (Removing r x xs ls th) d) where
    mem : Mem x.name (names_of r)
    mem = k.0.within.each x.name (inl refl)

    law : is_lawful x.name ≡ true
    law = stands-lawful (d.files (record_name j.actor)) r x.name k.0.closing.stands (k.0.within.each x.name (inl refl))

    plain : x.name ≢ record_name j.actor
    plain = (record_name-not j.actor x.name (sound.plain r x.name k.0.closing.stands k.0.go (k.0.within.each x.name (inl refl)))).0

    removed_record : with_at d.files x.name None (record_name j.actor) ≡ d.files (record_name j.actor)
    removed_record = put_there d.files x.name (record_name j.actor) None (λ e. plain (sym e))

    removed_staged : (u : ℕ) (m : List ℕ) → with_at d.files x.name None (staged_name u m) ≡ d.files (staged_name u m)
    removed_staged u m = put_there d.files x.name (staged_name u m) None (λ w. lawful-staged x.name u m law (sym w))

    stands : is_some (d.files (staged_name r.token x.name)) ≡ true
    stands = ap is_some k.3.0 ∙ k.3.1

    is_way : way_at r x.name ≡ Remove
    is_way = k.0.ways x (inl refl) ∙ k.2

    way : put_in (way_at r x.name) None (d.files (staged_name r.token x.name)) ≡ put_in (way_at r x.name) (d.files x.name) (d.files (staged_name r.token x.name))
    way = put_in_remove (way_at r x.name) None (d.files (staged_name r.token x.name)) stands is_way
        ∙ sym (put_in_remove (way_at r x.name) (d.files x.name) (d.files (staged_name r.token x.name)) stands is_way)

    -- the file has become what it is to be
    become : put_in x.way (with_at d.files x.name None x.name) (with_at d.files x.name None (staged_name r.token x.name)) ≡ with_at d.files x.name None x.name
    become =
        ap (λ (c : Option (List ℕ)). put_in x.way c (with_at d.files x.name None (staged_name r.token x.name))) (put_here d.files x.name None)
        ∙ put_in_gone x.way (with_at d.files x.name None (staged_name r.token x.name)) k.2
        ∙ sym (put_here d.files x.name None)

    removed_shows : (failed : Bool) → Shows j (event.Erase x.name true failed) d files locks
    removed_shows failed = record {
      settles = λ q. keep_file j.actor d.files r None x.name q k.0.closing.stands k.0.go mem plain law way ∙ settles q;
      locked = λ q. lock_same j.actor d.files (with_at d.files x.name None) d.locks q removed_record ∙ locked q;
      sound = sound_file j.actor d.files d.locks None x.name plain law (keeps_way j.actor d.files (with_at d.files x.name None) r x.name Remove (λ at e. absurd (cc)) k.0.closing.stands is_way) sound;
    }

    removed_knows : Knows j (Discarding r x xs ls th) (after d (event.Erase x.name true false))
    removed_knows = (
      record {
        closing = record {
          right = k.0.closing.right;
          stands = ap record_in removed_record ∙ k.0.closing.stands;
          gone = λ m h. elim (k.0.closing.gone m h) [ inl a ↦ inl a | inr b ↦ inr (removed_staged r.token m ∙ b) ];
          free = k.0.closing.free;
        };
        go = k.0.go;
        within = k.0.within;
        locks_within = k.0.locks_within;
        distinct = k.0.distinct;
        ways = k.0.ways;
        staged = staged_left th r (x ∷ xs) (x ∷ xs) d (after d (event.Erase x.name true false)) (λ y h. (h, removed_staged r.token y.name)) k.0.staged;
      },
      Shown.then_moves j job d files locks settles locked sound (after d (event.Erase x.name true false)) r th (λ m h. removed_staged j.token m ∙ h) (λ m h. h) (ap record_in removed_record) k.1,
      sound.locked r x.name k.0.closing.stands k.0.go mem stands,
      become,
    )

  pub step_removing : (r : Record) (x : Item) (xs : List Item) (ls : List (List ℕ)) (th : Then) {e : Event} → IsOf (ToErase x.name) e → Agrees d e
      → Knows j (Removing r x xs ls th) d → Kept j (Removing r x xs ls th) e d files locks
  step_removing r x xs ls th (erases {done = true} {failed = true}) agrees k = record { shows = removed_shows r x xs ls th k true; knows = tt }
  step_removing r x xs ls th (erases {done = false} {failed = true}) agrees k = record { shows = record { settles = settles; locked = locked; sound = sound }; knows = tt }
  step_removing r x xs ls th (erases {done = false} {failed = false}) agrees k = absurd (cc)
  step_removing r x xs ls th (erases {done = true} {failed = false}) agrees k = record { shows = removed_shows r x xs ls th k false; knows = removed_knows r x xs ls th k }

  -- the file gets its tail
  module _ (r : Record) (x : Item) (xs : List Item) (ls : List (List ℕ)) (th : Then) (k : Knows j (Extending r x xs ls th) d) where
    extended_mem : Mem x.name (names_of r)
    extended_mem = k.0.within.each x.name (inl refl)

    extended_law : is_lawful x.name ≡ true
    extended_law = stands-lawful (d.files (record_name j.actor)) r x.name k.0.closing.stands (k.0.within.each x.name (inl refl))

    extended_plain : x.name ≢ record_name j.actor
    extended_plain = (record_name-not j.actor x.name (sound.plain r x.name k.0.closing.stands k.0.go (k.0.within.each x.name (inl refl)))).0

    extended_stands : is_some (d.files (staged_name r.token x.name)) ≡ true
    extended_stands = ap is_some k.3.0 ∙ k.3.1

    extended_way : way_at r x.name ≡ Extend k.2.0
    extended_way = k.0.ways x (inl refl) ∙ k.2.1

    stay_is : stay x.way ≡ k.2.0
    stay_is = ap stay k.2.1

    -- the file with this tail
    abbrev with_tail : List ℕ → Option (List ℕ)
    with_tail tail = extended (d.files x.name) (stay x.way) tail

    extended_record : (tail : List ℕ) → with_at d.files x.name (with_tail tail) (record_name j.actor) ≡ d.files (record_name j.actor)
    extended_record tail = put_there d.files x.name (record_name j.actor) (with_tail tail) (λ e. extended_plain (sym e))

    extended_staged : (tail : List ℕ) (u : ℕ) (m : List ℕ) → with_at d.files x.name (with_tail tail) (staged_name u m) ≡ d.files (staged_name u m)
    extended_staged tail u m = put_there d.files x.name (staged_name u m) (with_tail tail) (λ w. lawful-staged x.name u m extended_law (sym w))

    extended_same : (tail : List ℕ) → put_in (way_at r x.name) (with_tail tail) (d.files (staged_name r.token x.name))
        ≡ put_in (way_at r x.name) (d.files x.name) (d.files (staged_name r.token x.name))
    extended_same tail = put_in_extended (way_at r x.name) (stay x.way) (d.files x.name) (d.files (staged_name r.token x.name)) tail extended_stands (extended_way ∙ ap Extend (sym stay_is))

    extended_keeps : (tail : List ℕ) (q : Record) (n : ℕ) → record_in (d.files (record_name j.actor)) ≡ Some q → way_at q x.name ≡ Extend n
        → reaches n (d.files x.name) ≡ true → reaches n (with_at d.files x.name (with_tail tail) x.name) ≡ true
    extended_keeps tail q n is way h =
        let so : Some r ≡ Some q = sym k.0.closing.stands ∙ is in
        let same : r ≡ q = cc in
        let again : Extend n ≡ Extend k.2.0 = sym way ∙ ap (λ (z : Record). way_at z x.name) (sym same) ∙ extended_way in
        let number : n ≡ k.2.0 = ap stay again in
        ap (reaches n) (put_here d.files x.name (with_tail tail)) ∙ extended_reaches (stay x.way) n (d.files x.name) tail (number ∙ sym stay_is) h

    extended_shows : (failed : Bool) (tail : List ℕ) → Shows j (event.Extend x.name (stay x.way) tail failed) d files locks
    extended_shows failed tail = record {
      settles = λ q. keep_file j.actor d.files r (with_tail tail) x.name q k.0.closing.stands k.0.go extended_mem extended_plain extended_law (extended_same tail) ∙ settles q;
      locked = λ q. lock_same j.actor d.files (with_at d.files x.name (with_tail tail)) d.locks q (extended_record tail) ∙ locked q;
      sound = sound_file j.actor d.files d.locks (with_tail tail) x.name extended_plain extended_law (extended_keeps tail) sound;
    }

    -- the tail that is staged
    abbrev own_tail : List ℕ
    own_tail = bytes_of x.staged

    tail_staged : d.files (staged_name r.token x.name) ≡ Some (bytes_of x.staged)
    tail_staged = k.3.0 ∙ some_is x.staged k.3.1
      where
        some_is : (c : Option (List ℕ)) → is_some c ≡ true → c ≡ Some (bytes_of c)
        some_is None h = absurd (cc)
        some_is (Some b) h = refl

    extended_become : reaches (stay x.way) (d.files x.name) ≡ true
        → put_in x.way (with_at d.files x.name (with_tail own_tail) x.name) (with_at d.files x.name (with_tail own_tail) (staged_name r.token x.name))
        ≡ with_at d.files x.name (with_tail own_tail) x.name
    extended_become h =
        ap (λ (c : Option (List ℕ)). put_in x.way c (with_at d.files x.name (with_tail own_tail) (staged_name r.token x.name))) (put_here d.files x.name (with_tail own_tail))
        ∙ ap (put_in x.way (with_tail own_tail)) (extended_staged own_tail r.token x.name ∙ tail_staged)
        ∙ ap (λ (w : Way). put_in w (with_tail own_tail) (Some own_tail)) (k.2.1 ∙ ap Extend (sym stay_is))
        ∙ extended_done (stay x.way) (d.files x.name) own_tail h
        ∙ sym (put_here d.files x.name (with_tail own_tail))

    extended_knows : reaches (stay x.way) (d.files x.name) ≡ true → Knows j (Discarding r x xs ls th) (after d (event.Extend x.name (stay x.way) own_tail false))
    extended_knows h = (
      record {
        closing = record {
          right = k.0.closing.right;
          stands = ap record_in (extended_record own_tail) ∙ k.0.closing.stands;
          gone = λ m h. elim (k.0.closing.gone m h) [ inl a ↦ inl a | inr b ↦ inr (extended_staged own_tail r.token m ∙ b) ];
          free = k.0.closing.free;
        };
        go = k.0.go;
        within = k.0.within;
        locks_within = k.0.locks_within;
        distinct = k.0.distinct;
        ways = k.0.ways;
        staged = staged_left th r (x ∷ xs) (x ∷ xs) d (after d (event.Extend x.name (stay x.way) own_tail false)) (λ y h. (h, extended_staged own_tail r.token y.name)) k.0.staged;
      },
      Shown.then_moves j job d files locks settles locked sound (after d (event.Extend x.name (stay x.way) own_tail false)) r th
          (λ m h. extended_staged own_tail j.token m ∙ h) (λ m h. h) (ap record_in (extended_record own_tail)) k.1,
      sound.locked r x.name k.0.closing.stands k.0.go extended_mem extended_stands,
      extended_become h,
    )

  pub step_extending : (r : Record) (x : Item) (xs : List Item) (ls : List (List ℕ)) (th : Then) {e : Event}
      → IsOf (ToExtend x.name (stay x.way) (bytes_of x.staged)) e → Agrees d e → Knows j (Extending r x xs ls th) d → Kept j (Extending r x xs ls th) e d files locks
  step_extending r x xs ls th extends agrees k = record { shows = extended_shows r x xs ls th k false (bytes_of x.staged); knows = extended_knows r x xs ls th k (agrees refl) }
  step_extending r x xs ls th (extend_fails {left = tail}) agrees k = record { shows = extended_shows r x xs ls th k true tail; knows = tt }

  -- its staged file is taken away
  module _ (r : Record) (x : Item) (xs : List Item) (ls : List (List ℕ)) (th : Then) (k : Knows j (Discarding r x xs ls th) d) where
    done : put_in (way_at r x.name) (d.files x.name) (d.files (staged_name r.token x.name)) ≡ d.files x.name
    done = ap (λ (w : Way). put_in w (d.files x.name) (d.files (staged_name r.token x.name))) (k.0.ways x (inl refl)) ∙ k.3

    discarded_record : with_at d.files (staged_name r.token x.name) None (record_name j.actor) ≡ d.files (record_name j.actor)
    discarded_record = put_there d.files (staged_name r.token x.name) (record_name j.actor) None (record-staged r.token x.name j.actor)

    discarded_shows : (failed : Bool) → Shows j (event.Erase (staged_name r.token x.name) true failed) d files locks
    discarded_shows failed = record {
      settles = λ q. keep_clear j.actor d.files r x.name q k.0.closing.stands k.0.go (k.0.within.each x.name (inl refl)) done ∙ settles q;
      locked = λ q. lock_same j.actor d.files (with_at d.files (staged_name r.token x.name) None) d.locks q discarded_record ∙ locked q;
      sound = sound_clear j.actor d.files d.locks r.token x.name sound;
    }

    discarded_gone : (m : List ℕ) → Mem m (x.name ∷ item_names xs) ⊎ (d.files (staged_name r.token m) ≡ None)
        → Mem m (item_names xs) ⊎ (with_at d.files (staged_name r.token x.name) None (staged_name r.token m) ≡ None)
    discarded_gone m (inl (inl e)) = inr (ap (λ (z : List ℕ). with_at d.files (staged_name r.token x.name) None (staged_name r.token z)) e ∙ put_here d.files (staged_name r.token x.name) None)
    discarded_gone m (inl (inr h)) = inl h
    discarded_gone m (inr h) = inr (absent_more d.files (staged_name r.token x.name) (staged_name r.token m) h)

    discarded_left : (y : Item) → Mem y xs → with_at d.files (staged_name r.token x.name) None (staged_name r.token y.name) ≡ d.files (staged_name r.token y.name)
    discarded_left y h = put_there d.files (staged_name r.token x.name) (staged_name r.token y.name) None
        (λ w. another x.name y.name (item_names xs) k.0.distinct.0 (item-named xs y h) (staged-one r.token y.name x.name w))

    discarded_knows : Knows j (placing r xs ls th) (after d (event.Erase (staged_name r.token x.name) true false))
    discarded_knows = knows_placing j (after d (event.Erase (staged_name r.token x.name) true false)) r xs ls th
        (record {
          closing = record {
            right = k.0.closing.right;
            stands = ap record_in discarded_record ∙ k.0.closing.stands;
            gone = λ m h. discarded_gone m (k.0.closing.gone m h);
            free = k.0.closing.free;
          };
          go = k.0.go;
          within = record { each = λ m h. k.0.within.each m (inr h) };
          locks_within = k.0.locks_within;
          distinct = k.0.distinct.1;
          ways = λ y h. k.0.ways y (inr h);
          staged = staged_left th r (x ∷ xs) xs d (after d (event.Erase (staged_name r.token x.name) true false)) (λ y h. (inr h, discarded_left y h)) k.0.staged;
        })
        (Shown.then_moves j job d files locks settles locked sound (after d (event.Erase (staged_name r.token x.name) true false)) r th
        (λ m h. absent_more d.files (staged_name r.token x.name) (staged_name j.token m) h) (λ m h. h) (ap record_in discarded_record) k.1)

  pub step_discarding : (r : Record) (x : Item) (xs : List Item) (ls : List (List ℕ)) (th : Then) {e : Event}
      → IsOf (ToErase (staged_name r.token x.name)) e → Agrees d e → Knows j (Discarding r x xs ls th) d → Kept j (Discarding r x xs ls th) e d files locks
  step_discarding r x xs ls th (erases {done = true} {failed = true}) agrees k = record { shows = discarded_shows r x xs ls th k true; knows = tt }
  step_discarding r x xs ls th (erases {done = false} {failed = true}) agrees k = record { shows = record { settles = settles; locked = locked; sound = sound }; knows = tt }
  step_discarding r x xs ls th (erases {done = false} {failed = false}) agrees k = absurd (cc)
  step_discarding r x xs ls th (erases {done = true} {failed = false}) agrees k = record { shows = discarded_shows r x xs ls th k false; knows = discarded_knows r x xs ls th k }
