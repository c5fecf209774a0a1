-- A change by others keeps what the run knows at each state.
use Rattle.std.proofs.Common.{◌≡◌, ℕ, true, List, [], ◌∷◌, Option, Some, None, refl, ap, sym, inl, inr, ◌∙◌}
use Rattle.commit_record.specs.Format.{written}
use Rattle.commit_record.specs.declared.record.Record.{Record}
use Rattle.host_port.specs.Disk.{Disk}
use Rattle.commit_machine.specs.Names.{record_name, new_name, staged_name, is_record_name}
use Rattle.commit_machine.specs.Records.{record_in, names_of}
use Rattle.commit_machine.specs.Settled.{Mem, put_in}
use Rattle.commit_machine.specs.Items.{Item, item_names}
use Rattle.commit_machine.specs.Jobs.{Ending, Done, Recovered, Refused, Failed, NoMemory, Job, Made, edits_of, all_of, prepare_of}
use Rattle.commit_machine.specs.Machine.{Then, GoOn, Answer, State, Seizing, Timing, Looking, Undoing, Placing, Testing, Removing, Extending, Discarding, Unlocking, Erasing, Clearing, Preparing, Publishing, Locking, Loading, Staging, Deciding, Committing, Checking, Releasing, Ended}
use Rattle.commit_machine.specs.Lawful.{standing, HasRight, IsFresh}
use Rattle.commit_machine.proofs.standing.Decided.{names_Mem}
use Rattle.commit_machine.proofs.standing.Known.{Closing, Rest, Own, Clean, Idle, ThenOk, AllDone, Over, Ends, IsStaged, AreStaged, PartPlaced, Keeps, KeepsRecord, Knows}
use Rattle.commit_machine.proofs.records.Same.{same_refl}
use Rattle.std.proofs.lemmas.Bool.{or_left, or_right}

module _ (j : Job) (d d' : Disk) (keep : Keeps j.actor j.token d d') where
  record_is : is_record_name j.actor (record_name j.actor) ≡ true
  record_is = or_left _ _ (same_refl (record_name j.actor))

  new_is : is_record_name j.actor (new_name j.actor) ≡ true
  new_is = or_right _ _ (same_refl (new_name j.actor))

  record_stays : HasRight j.actor d → d'.files (record_name j.actor) ≡ d.files (record_name j.actor)
  record_stays right = keep.records (record_name j.actor) right record_is

  new_stays : HasRight j.actor d → d'.files (new_name j.actor) ≡ d.files (new_name j.actor)
  new_stays right = keep.records (new_name j.actor) right new_is

  pub others_fresh : IsFresh j.actor j.token d → IsFresh j.actor j.token d'
  others_fresh k = record {
    staged = λ m. keep.own.staged m ∙ k.staged m;
    locks = λ m. keep.own.free m (k.locks m);
    record_other = λ r. keep.fresh r (k.record_other r);
  }

  others_closing : (r : Record) (ns ls : List (List ℕ)) → Closing j.actor r ns ls d → Closing j.actor r ns ls d'
  others_closing r ns ls k =
      let found : KeepsRecord r d d' = keep.found r k.right k.stands in
      record {
        right = keep.right k.right;
        stands = ap record_in (record_stays k.right) ∙ k.stands;
        gone = λ m h. elim (k.gone m h) [ inl a ↦ inl a | inr b ↦ inr (found.staged m ∙ b) ];
        free = λ m h. elim (k.free m h) [ inl a ↦ inl a | inr b ↦ inr (found.free m b) ];
      }

  others_clean : Clean j d → Clean j d'
  others_clean k = record { right = keep.right k.right; fresh = others_fresh k.fresh }

  others_idle : (c : Option (List ℕ)) → Idle j c d → Idle j c d'
  others_idle c k = record {
    clean = others_clean k.clean;
    none = record_stays k.clean.right ∙ k.none;
    new = λ b e. new_stays k.clean.right ∙ k.new b e;
  }

  others_rest : Rest j d → Rest j d'
  others_rest k = record {
    staged = λ m. elim (k.staged m) [ inl a ↦ inl a | inr b ↦ inr (keep.own.staged m ∙ b) ];
    locks = λ m. elim (k.locks m) [ inl a ↦ inl a | inr b ↦ inr (keep.own.free m b) ];
  }

  others_own : (ns ls : List (List ℕ)) (made left : List Made) → ((x : Made) → Mem x made → Mem x.edit.name ls) → Own j ns ls made left d → Own j ns ls made left d'
  others_own ns ls made left cover k =
      record {
        closing = others_closing (prepare_of j) ns ls k.closing;
        rest = others_rest k.rest;
        locked = λ m h. keep.own.lock m (k.locked m h);
        seen = λ x h. keep.own.file x.edit.name (k.locked x.edit.name (cover x h)) ∙ k.seen x h;
        staged = λ x h. elim (k.staged x h) [ inl a ↦ inl a | inr b ↦ inr (keep.own.staged x.edit.name ∙ b) ];
      }

  others_then : (r : Record) (th : Then) → ThenOk j r th d → ThenOk j r th d'
  others_then r GoOn k = others_fresh k
  others_then r (Answer e) k = record { token = k.token; names = k.names; rest = others_rest k.rest; own_end = k.own_end }

  others_one : (r : Record) (x : Item) → HasRight j.actor d → standing j.actor d ≡ Some r → IsStaged r x d → IsStaged r x d'
  others_one r x right e h = ((keep.found r right e).staged x.name ∙ h.0, h.1)

  others_staged : (r : Record) (xs : List Item) (th : Then) → HasRight j.actor d → standing j.actor d ≡ Some r → AreStaged th r xs d → AreStaged th r xs d'
  others_staged r xs GoOn right e h = tt
  others_staged r xs (Answer a) right e h = λ x mem. others_one r x right e (h x mem)

  others_placed : (r : Record) (xs : List Item) (ls : List (List ℕ)) (th : Then) → PartPlaced j.actor r xs ls th d → PartPlaced j.actor r xs ls th d'
  others_placed r xs ls th k = record {
    closing = others_closing r (item_names xs) ls k.closing;
    go = k.go;
    within = k.within;
    locks_within =
        k.locks_within;
    distinct = k.distinct;
    ways = k.ways;
    staged = others_staged r xs th k.closing.right k.closing.stands k.staged;
  }

  -- a file that is locked with the record's token stays what it has become
  others_become : (r : Record) (x : Item) → Mem x.name (names_of r) → HasRight j.actor d → standing j.actor d ≡ Some r → d.locks x.name ≡ Some r.token
      → put_in x.way (d.files x.name) (d.files (staged_name r.token x.name)) ≡ d.files x.name
      → put_in x.way (d'.files x.name) (d'.files (staged_name r.token x.name)) ≡ d'.files x.name
  others_become r x mem right e lock done =
      let found : KeepsRecord r d d' = keep.found r right e in
      let file : d'.files x.name ≡ d.files x.name = found.file x.name mem lock in
      ap (λ (c : Option (List ℕ)). put_in x.way c (d'.files (staged_name r.token x.name))) file
      ∙ ap (put_in x.way (d.files x.name)) (found.staged x.name)
      ∙ done
      ∙ sym file

  others_done : HasRight j.actor d → AllDone j d → AllDone j d'
  others_done right k = record { fresh = others_fresh k.fresh; none = record_stays right ∙ k.none }

  others_ends : (e : Ending) → Ends e j d → Ends e j d'
  others_ends Done k = (others_done k.1 k.0, keep.right k.1)
  others_ends (Recovered found) k = (record { done = others_done k.1 k.0.done; no_new = new_stays k.1 ∙ k.0.no_new }, keep.right k.1)
  others_ends (Refused why) k = others_fresh k
  others_ends (Failed passed) k = tt
  others_ends NoMemory k = others_fresh k

  others_over : (e : Ending) → Over e j d → Over e j d'
  others_over Done k = others_fresh k
  others_over (Recovered found) k = others_fresh k
  others_over (Refused why) k = others_fresh k
  others_over (Failed passed) k = tt
  others_over NoMemory k = others_fresh k

  pub others_knows : (s : State) → Knows j s d → Knows j s d'
  others_knows Seizing k = others_fresh k
  others_knows (Timing time) k = others_clean k
  others_knows Looking k = others_clean k
  others_knows (Undoing r n ns ls th) k = (others_closing r (n ∷ ns) ls k.0, k.1, k.2, k.3, others_then r th k.4)
  others_knows (Placing r x xs ls th) k = (others_placed r (x ∷ xs) ls th k.0, others_then r th k.1, k.2)
  others_knows (Testing r x xs ls) k = (others_placed r (x ∷ xs) ls GoOn k.0, others_fresh k.1, k.2)
  others_knows (Removing r x xs ls th) k = (others_placed r (x ∷ xs) ls th k.0, others_then r th k.1, k.2, others_one r x k.0.closing.right k.0.closing.stands k.3)
  others_knows (Extending r x xs ls th) k = (others_placed r (x ∷ xs) ls th k.0, others_then r th k.1, k.2, others_one r x k.0.closing.right k.0.closing.stands k.3)
  others_knows (Discarding r x xs ls th) k = (
    others_placed r (x ∷ xs) ls th k.0,
    others_then r th k.1,
    (keep.found r k.0.closing.right k.0.closing.stands).lock x.name k.2,
    others_become r x (k.0.within.each x.name (inl refl)) k.0.closing.right k.0.closing.stands k.2 k.3,
  )
  others_knows (Unlocking r n ns th) k = (others_closing r [] (n ∷ ns) k.0, k.1, others_then r th k.2)
  others_knows (Erasing r th) k = (others_closing r [] [] k.0, others_then r th k.1)
  others_knows (Clearing found) k = others_idle None k
  others_knows Preparing k = (others_idle None k.0, k.1)
  others_knows Publishing k = (others_idle (Some (written (prepare_of j))) k.0, k.1)
  others_knows (Locking ls e left) k = (others_own [] ls [] [] (λ x h. absurd h) k.0, k.1)
  others_knows (Loading made e left) k = (others_own [] (all_of j) made made (λ x h. names_Mem (edits_of j) x.edit (k.1.each x h).0) k.0, k.1)
  others_knows (Staging ns made x left) k = (others_own ns (all_of j) made (x ∷ left) (λ y h. names_Mem (edits_of j) y.edit (k.1.each y h).0) k.0, k.1, k.2, k.3)
  others_knows (Deciding made) k = (others_own (all_of j) (all_of j) made [] (λ x h. names_Mem (edits_of j) x.edit (k.1.each x h).0) k.0, k.1)
  others_knows (Committing made) k = (others_own (all_of j) (all_of j) made [] (λ x h. names_Mem (edits_of j) x.edit (k.1.each x h).0) k.0, k.1, new_stays k.0.closing.right ∙ k.2)
  others_knows Checking k = tt
  others_knows (Releasing e) k = others_ends e k
  others_knows (Ended e) k = others_over e k
