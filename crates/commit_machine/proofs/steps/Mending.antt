-- Each own event keeps what is known: the staged files of a record that stands are erased, or put in place.
use Rattle.std.proofs.Common.{◌≡◌, ◌≢◌, ◌⊎◌, ℕ, Bool, true, false, List, ◌∷◌, None, is_some, refl, ap, sym, subst, inl, inr, ◌∙◌}
use Rattle.commit_record.specs.Names.{is_lawful}
use Rattle.commit_record.specs.declared.record.Record.{Record}
use Rattle.commit_record.specs.declared.way.Way.TheVariants.{Replace}
use Rattle.host_port.specs.declared.event.Event.{Event}
use Rattle.host_port.specs.declared.event.Event.TheVariants as event
use Rattle.host_port.specs.Disk.{Disk, with_at, after}
use Rattle.host_port.specs.Ran.{Agrees}
use Rattle.commit_machine.specs.Names.{record_name, new_name, staged_name}
use Rattle.commit_machine.specs.Records.{record_in, names_of, has}
use Rattle.commit_machine.specs.Settled.{Files, Locks, Mem}
use Rattle.commit_machine.specs.Items.{Item, item_names}
use Rattle.commit_machine.specs.Jobs.{Job, IsJob}
use Rattle.commit_machine.specs.Machine.{Then, GoOn, Answer, Undoing, Placing, ToPublish, ToErase, undoing, placing}
use Rattle.commit_machine.specs.Goes.{IsOf, publishes, erases}
use Rattle.commit_machine.specs.Lawful.{standing, IsSound}
use Rattle.commit_machine.specs.Due.{settled_files, settled_locks, files_then}
use Rattle.commit_machine.proofs.standing.Known.{AreStaged, PartPlaced, Knows}
use Rattle.commit_machine.proofs.records.Same.{same_false, put_here, put_there, Mem_has}
use Rattle.commit_machine.proofs.records.Names.{staged-one, staged-new, lawful-staged}
use Rattle.commit_machine.proofs.records.InFile.{stands-lawful}
use Rattle.commit_machine.proofs.records.OfItems.{item-named}
use Rattle.commit_machine.proofs.standing.Settled.{keep_staged, keep_place, renamed, renamed_from, renamed_other, record-staged, record_name-not}
use Rattle.commit_machine.proofs.standing.Sound.{keeps_way, sound_staged, sound_place, lock_same}
use Rattle.commit_machine.proofs.standing.KnownNext.{knows_placing, knows_undoing}
use Rattle.commit_machine.proofs.steps.Shown
use Rattle.commit_machine.proofs.steps.Shown.{Shows, Kept, none_of, absent_more, absent_renamed}

-- a name after the first is left, or the staged file is gone
gone_there : (r : Record) (n : List ℕ) (ns : List (List ℕ)) (f : Files) (m : List ℕ) → Mem m (n ∷ ns) ⊎ (f (staged_name r.token m) ≡ None)
    → f (staged_name r.token n) ≡ None → Mem m ns ⊎ (f (staged_name r.token m) ≡ None)
gone_there r n ns f m (inl (inl e)) h = inr (ap (λ (z : List ℕ). f (staged_name r.token z)) e ∙ h)
gone_there r n ns f m (inl (inr a)) h = inl a
gone_there r n ns f m (inr b) h = inr b

-- a name after the first is another
pub another : (n m : List ℕ) (ns : List (List ℕ)) → has ns n ≡ false → Mem m ns → m ≢ n
another n m ns h mem e = let w : has ns n ≡ true = Mem_has ns n (subst (λ (z : List ℕ). Mem z ns) e mem) in absurd (cc)

-- the staged files of the names that are left stay
pub staged_left : (th : Then) (r : Record) (xs ys : List Item) (d d' : Disk)
    → ((x : Item) → Mem x ys → Mem x xs × (d'.files (staged_name r.token x.name) ≡ d.files (staged_name r.token x.name))) → AreStaged th r xs d → AreStaged th r ys d'
staged_left GoOn r xs ys d d' h k = tt
staged_left (Answer e) r xs ys d d' h k = λ x mem. let w = h x mem in let p = k x w.0 in (w.1 ∙ p.0, p.1)

-- a publication from another name is no decision
pub not_decided : (j : Job) (d : Disk) (files : Files) (from to : List ℕ) (failed : Bool) (n : List ℕ) → from ≢ new_name j.actor → files_then j (event.Publish from to true failed) d files n ≡ files n
not_decided j d files from to failed n ne = rw (same_false from (new_name j.actor) ne) refl

-- an entry whose staged file is gone is in place
pub passed_placed : (j : Job) (d : Disk) (r : Record) (x : Item) (xs : List Item) (ls : List (List ℕ)) (th : Then)
    → PartPlaced j.actor r (x ∷ xs) ls th d → d.files (staged_name r.token x.name) ≡ None → PartPlaced j.actor r xs ls th d
passed_placed j d r x xs ls th k none = record {
  closing = record { right = k.closing.right; stands = k.closing.stands; gone = λ m h. gone_there r x.name (item_names xs) d.files m (k.closing.gone m h) none; free = k.closing.free };
  go = k.go;
  within = record { each = λ m h. k.within.each m (inr h) };
  locks_within = k.locks_within;
  distinct = k.distinct.1;
  ways = λ y h. k.ways y (inr h);
  staged = staged_left th r (x ∷ xs) xs d d (λ y h. (inr h, refl)) k.staged;
}

module _ (j : Job) (job : IsJob j) (d : Disk) (files : Files) (owners : Locks) (settles : (n : List ℕ) → settled_files j.actor d n ≡ files n)
    (locked : (n : List ℕ) → settled_locks j.actor d n ≡ owners n) (sound : IsSound j.actor d) where
  -- a staged file of an undecided record is erased
  module _ (r : Record) (n : List ℕ) (ns ls : List (List ℕ)) (th : Then) (k : Knows j (Undoing r n ns ls th) d) where
    undone : (failed : Bool) → Shows j (event.Erase (staged_name r.token n) true failed) d files owners
    undone failed = record {
      settles = λ q. keep_staged j.actor d.files r None n q k.0.stands k.1 (k.2.each n (inl refl)) ∙ settles q;
      locked = λ q. lock_same j.actor d.files (with_at d.files (staged_name r.token n) None) d.locks q
          (put_there d.files (staged_name r.token n) (record_name j.actor) None (record-staged r.token n j.actor)) ∙ locked q;
      sound = sound_staged j.actor d.files d.locks r None n k.0.stands k.1 sound;
    }

    undone_stands : standing j.actor (after d (event.Erase (staged_name r.token n) true false)) ≡ standing j.actor d
    undone_stands = ap record_in (put_there d.files (staged_name r.token n) (record_name j.actor) None (record-staged r.token n j.actor))

    undone_gone : (m : List ℕ) → Mem m (n ∷ ns) ⊎ (d.files (staged_name r.token m) ≡ None) → Mem m ns ⊎ (with_at d.files (staged_name r.token n) None (staged_name r.token m) ≡ None)
    undone_gone m (inl (inl e)) = inr (ap (λ (z : List ℕ). with_at d.files (staged_name r.token n) None (staged_name r.token z)) e ∙ put_here d.files (staged_name r.token n) None)
    undone_gone m (inl (inr h)) = inl h
    undone_gone m (inr h) = inr (absent_more d.files (staged_name r.token n) (staged_name r.token m) h)

    undone_knows : Knows j (undoing r ns ls th) (after d (event.Erase (staged_name r.token n) true false))
    undone_knows = knows_undoing j (after d (event.Erase (staged_name r.token n) true false)) r ns ls th
        (record { right = k.0.right; stands = undone_stands ∙ k.0.stands; gone = λ m h. undone_gone m (k.0.gone m h); free = k.0.free })
        k.1 (record { each = λ m h. k.2.each m (inr h) }) k.3
        (Shown.then_moves j job d files owners settles locked sound (after d (event.Erase (staged_name r.token n) true false)) r th
        (λ m h. absent_more d.files (staged_name r.token n) (staged_name j.token m) h) (λ m h. h) undone_stands k.4)

  pub step_undoing : (r : Record) (n : List ℕ) (ns ls : List (List ℕ)) (th : Then) {e : Event} → IsOf (ToErase (staged_name r.token n)) e → Agrees d e
      → Knows j (Undoing r n ns ls th) d → Kept j (Undoing r n ns ls th) e d files owners
  step_undoing r n ns ls th (erases {done = true} {failed = true}) agrees k = record { shows = undone r n ns ls th k true; knows = tt }
  step_undoing r n ns ls th (erases {done = false} {failed = true}) agrees k = record { shows = record { settles = settles; locked = locked; sound = sound }; knows = tt }
  step_undoing r n ns ls th (erases {done = false} {failed = false}) agrees k = absurd (cc)
  step_undoing r n ns ls th (erases {done = true} {failed = false}) agrees k = record { shows = undone r n ns ls th k false; knows = undone_knows r n ns ls th k }

  -- a staged file of a decided record is put in place
  module _ (r : Record) (x : Item) (xs : List Item) (ls : List (List ℕ)) (th : Then) (k : Knows j (Placing r x xs ls th) d) where
    mem : Mem x.name (names_of r)
    mem = k.0.within.each x.name (inl refl)

    law : is_lawful x.name ≡ true
    law = stands-lawful (d.files (record_name j.actor)) r x.name k.0.closing.stands (k.0.within.each x.name (inl refl))

    plain : x.name ≢ record_name j.actor
    plain = (record_name-not j.actor x.name (sound.plain r x.name k.0.closing.stands k.0.go (k.0.within.each x.name (inl refl)))).0

    placed_files : Files
    placed_files = renamed d.files (staged_name r.token x.name) x.name

    placed_record : renamed d.files (staged_name r.token x.name) x.name (record_name j.actor) ≡ d.files (record_name j.actor)
    placed_record = renamed_other d.files (staged_name r.token x.name) x.name (record_name j.actor) (record-staged r.token x.name j.actor) (λ e. plain (sym e))

    placed_shows : (failed : Bool) → is_some (d.files (staged_name r.token x.name)) ≡ true → Shows j (event.Publish (staged_name r.token x.name) x.name true failed) d files owners
    placed_shows failed stands = record {
      settles = λ q. keep_place j.actor d.files r x.name q k.0.closing.stands k.0.go mem plain law (k.0.ways x (inl refl) ∙ k.2) stands ∙ settles q
          ∙ sym (not_decided j d files (staged_name r.token x.name) x.name failed q (staged-new r.token x.name j.actor));
      locked = λ q. lock_same j.actor d.files (renamed d.files (staged_name r.token x.name) x.name) d.locks q placed_record ∙ locked q;
      sound = sound_place j.actor d.files d.locks r.token x.name plain law
          (keeps_way j.actor d.files (renamed d.files (staged_name r.token x.name) x.name) r x.name Replace (λ at e. absurd (cc)) k.0.closing.stands (k.0.ways x (inl refl) ∙ k.2)) sound;
    }

    placed_gone : (m : List ℕ) → Mem m (x.name ∷ item_names xs) ⊎ (d.files (staged_name r.token m) ≡ None)
        → Mem m (item_names xs) ⊎ (renamed d.files (staged_name r.token x.name) x.name (staged_name r.token m) ≡ None)
    placed_gone m (inl (inl e)) = inr (ap (λ (z : List ℕ). renamed d.files (staged_name r.token x.name) x.name (staged_name r.token z)) e
        ∙ renamed_from d.files (staged_name r.token x.name) x.name (λ w. lawful-staged x.name r.token x.name law (sym w)))
    placed_gone m (inl (inr h)) = inl h
    placed_gone m (inr h) = inr (absent_renamed d.files (staged_name r.token x.name) x.name (staged_name r.token m) (λ w. lawful-staged x.name r.token m law (sym w)) h)

    placed_left : (y : Item) → Mem y xs → renamed d.files (staged_name r.token x.name) x.name (staged_name r.token y.name) ≡ d.files (staged_name r.token y.name)
    placed_left y h = renamed_other d.files (staged_name r.token x.name) x.name (staged_name r.token y.name)
        (λ w. another x.name y.name (item_names xs) k.0.distinct.0 (item-named xs y h) (staged-one r.token y.name x.name w)) (λ w. lawful-staged x.name r.token y.name law (sym w))

    placed_knows : Knows j (placing r xs ls th) (after d (event.Publish (staged_name r.token x.name) x.name true false))
    placed_knows = knows_placing j (after d (event.Publish (staged_name r.token x.name) x.name true false)) r xs ls th
        (record {
          closing = record { right = k.0.closing.right; stands = ap record_in placed_record ∙ k.0.closing.stands; gone = λ m h. placed_gone m (k.0.closing.gone m h); free = k.0.closing.free };
          go = k.0.go;
          within = record { each = λ m h. k.0.within.each m (inr h) };
          locks_within = k.0.locks_within;
          distinct = k.0.distinct.1;
          ways = λ y h. k.0.ways y (inr h);
          staged = staged_left th r (x ∷ xs) xs d (after d (event.Publish (staged_name r.token x.name) x.name true false)) (λ y h. (inr h, placed_left y h)) k.0.staged;
        })
        (Shown.then_moves j job d files owners settles locked sound (after d (event.Publish (staged_name r.token x.name) x.name true false)) r th
        (λ m h. absent_renamed d.files (staged_name r.token x.name) x.name (staged_name j.token m) (λ w. lawful-staged x.name j.token m law (sym w)) h) (λ m h. h) (ap record_in placed_record) k.1)

    passed_knows : d.files (staged_name r.token x.name) ≡ None → Knows j (placing r xs ls th) d
    passed_knows none = knows_placing j d r xs ls th (passed_placed j d r x xs ls th k.0 none) k.1

  pub step_placing : (r : Record) (x : Item) (xs : List Item) (ls : List (List ℕ)) (th : Then) {e : Event}
      → IsOf (ToPublish (staged_name r.token x.name) x.name) e → Agrees d e → Knows j (Placing r x xs ls th) d → Kept j (Placing r x xs ls th) e d files owners
  step_placing r x xs ls th (publishes {done = true} {failed = true}) agrees k = record { shows = placed_shows r x xs ls th k true (agrees refl); knows = tt }
  step_placing r x xs ls th (publishes {done = false} {failed = true}) agrees k = record { shows = record { settles = settles; locked = locked; sound = sound }; knows = tt }
  step_placing r x xs ls th (publishes {done = false} {failed = false}) agrees k =
      record { shows = record { settles = settles; locked = locked; sound = sound }; knows = passed_knows r x xs ls th k (none_of (d.files (staged_name r.token x.name)) (sym agrees)) }
  step_placing r x xs ls th (publishes {done = true} {failed = false}) agrees k = record { shows = placed_shows r x xs ls th k false (sym agrees); knows = placed_knows r x xs ls th k }
