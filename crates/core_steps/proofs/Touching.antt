-- What an own call touches: the actor's record names, and what belongs to the record that stands, while it has the right.
use Rattle.std.proofs.Common.{◌≡◌, ◌⊎◌, ℕ, Bool, true, false, List, [], ◌∷◌, Some, is_some, refl, ap, sym, subst, inl, inr, ◌∙◌}
use Rattle.std.proofs.lemmas.Bool.{or_left, or_right}
use Rattle.commit_record.specs.declared.record.Record.{Record}
use Rattle.host_port.specs.declared.event.Event.{Event}
use Rattle.host_port.specs.declared.event.Event.TheVariants as event
use Rattle.host_port.specs.Disk.{Disk}
use Rattle.host_port.specs.Ran.{Agrees}
use Rattle.commit_machine.specs.Names.{record_name, new_name, right_name, staged_name, is_record_name}
use Rattle.commit_machine.specs.Records.{names_of}
use Rattle.commit_machine.specs.Settled.{Mem}
use Rattle.commit_machine.specs.Items.{Item, item_names}
use Rattle.commit_machine.specs.Jobs.{Edit, Job, edits_of, all_of, prepare_of}
use Rattle.commit_machine.specs.Machine.{Then, State, Seizing, Timing, Looking, Undoing, Placing, Testing, Removing, Extending, Discarding, Unlocking, Erasing, Clearing, Preparing, Publishing, Locking, Loading, Staging, Deciding, Committing, Checking, Releasing, Ended, next}
use Rattle.commit_machine.specs.Goes.{IsNext, asks, loads, stages, stage_fails, publishes, extends, extend_fails, erases, locks, unlocks, seizes, releases}
use Rattle.commit_machine.specs.Lawful.{standing, HasRight, IsSound}
use Rattle.commit_machine.proofs.standing.Decided.{names_Mem}
use Rattle.commit_machine.proofs.standing.Known.{Closing, PartPlaced, Knows}
use Rattle.commit_machine.proofs.standing.KnownNext.{names-prepare}
use Rattle.commit_machine.proofs.records.Same.{same_refl}

-- the record that stands, while the actor has its right
pub record Held (actor : List ℕ) (r : Record) (d : Disk) : Type 0 where
  pub right : HasRight actor d
  pub stands : standing actor d ≡ Some r

-- a record name of the actor's, while it has its right
abbrev pub IsOwnRecord : List ℕ → Disk → List ℕ → Type 0
IsOwnRecord actor d n = (is_record_name actor n ≡ true) × HasRight actor d

-- a staged name of the record that stands
abbrev pub IsOwnStaged : List ℕ → Disk → List ℕ → Type 0
IsOwnStaged actor d n = (r : Record) × Held actor r d × ((m : List ℕ) × Mem m (names_of r) × (n ≡ staged_name r.token m))

-- a file of the record that stands, with its lock
abbrev pub IsOwnFile : List ℕ → Disk → List ℕ → Type 0
IsOwnFile actor d n = (r : Record) × Held actor r d × Mem n (names_of r) × (d.locks n ≡ Some r.token)

abbrev pub IsOwnName : List ℕ → Disk → List ℕ → Type 0
IsOwnName actor d n = IsOwnRecord actor d n ⊎ (IsOwnStaged actor d n ⊎ IsOwnFile actor d n)

-- a lock of the record that stands
abbrev pub IsOwnLock : List ℕ → Disk → List ℕ → ℕ → Type 0
IsOwnLock actor d n t = (r : Record) × Held actor r d × Mem n (names_of r) × (t ≡ r.token)

abbrev pub Touches : List ℕ → Disk → Event → Type 0
Touches actor d (event.In bytes failed) = Unit {0}
Touches actor d (event.Out bytes failed) = Unit {0}
Touches actor d (event.Load n seen) = Unit {0}
Touches actor d (event.Stage n c failed) = IsOwnName actor d n
Touches actor d (event.Publish from to done failed) = done ≡ true → IsOwnName actor d from × IsOwnName actor d to
Touches actor d (event.Extend n at c failed) = IsOwnName actor d n
Touches actor d (event.Erase n done failed) = IsOwnName actor d n
Touches actor d (event.Lock n t got failed) = IsOwnLock actor d n t
Touches actor d (event.Unlock n t done failed) = IsOwnLock actor d n t
Touches actor d (event.Seize n got failed) = n ≡ right_name actor
Touches actor d (event.Release n) = n ≡ right_name actor
Touches actor d (event.Child program args input answer failed) = Unit {0}
Touches actor d (event.Edit name shell command text answer failed) = Unit {0}
Touches actor d (event.Now seconds) = Unit {0}
Touches actor d (event.Foreign f) = ⊥

done_if : (from to : List ℕ) (d : Disk) (done failed : Bool) → Agrees d (event.Publish from to done failed) → done ≡ true → is_some (d.files from) ≡ true
done_if from to d done true agrees e = agrees e
done_if from to d done false agrees e = sym agrees ∙ e

module _ (j : Job) (d : Disk) where
  the_record : HasRight j.actor d → IsOwnName j.actor d (record_name j.actor)
  the_record right = inl (or_left _ _ (same_refl (record_name j.actor)), right)

  the_new : HasRight j.actor d → IsOwnName j.actor d (new_name j.actor)
  the_new right = inl (or_right _ _ (same_refl (new_name j.actor)), right)

  held : (r : Record) (ns ls : List (List ℕ)) → Closing j.actor r ns ls d → Held j.actor r d
  held r ns ls k = record { right = k.right; stands = k.stands }

  staged : (r : Record) (n : List ℕ) → Held j.actor r d → Mem n (names_of r) → IsOwnName j.actor d (staged_name r.token n)
  staged r n h m = inr (inl (r, h, (n, m, refl)))

  file : (r : Record) (n : List ℕ) → Held j.actor r d → Mem n (names_of r) → d.locks n ≡ Some r.token → IsOwnName j.actor d n
  file r n h m l = inr (inr (r, h, m, l))

  placed_file : IsSound j.actor d → (r : Record) (x : Item) (xs : List Item) (ls : List (List ℕ)) (th : Then) → PartPlaced j.actor r (x ∷ xs) ls th d
      → is_some (d.files (staged_name r.token x.name)) ≡ true → IsOwnName j.actor d x.name
  placed_file sound r x xs ls th k stands =
      file r x.name (held r _ ls k.closing) (k.within.each x.name (inl refl)) (sound.locked r x.name k.closing.stands k.go (k.within.each x.name (inl refl)) stands)

  own_name : (e : Edit) → Mem e (edits_of j) → Mem e.name (names_of (prepare_of j))
  own_name e m = subst (λ (z : List (List ℕ)). Mem e.name z) (sym (names-prepare j)) (names_Mem (edits_of j) e m)

  pub own_touches : IsSound j.actor d → (s : State) (e : Event) → IsNext (next j s) e → Agrees d e → Knows j s d → Touches j.actor d e
  own_touches sound Seizing _ seizes agrees k = refl
  own_touches sound (Timing time) _ asks agrees k = tt
  own_touches sound Looking _ loads agrees k = tt
  own_touches sound (Undoing r n ns ls th) _ erases agrees k = staged r n (held r (n ∷ ns) ls k.0) (k.2.each n (inl refl))
  own_touches sound (Placing r x xs ls th) _ (publishes {done = done} {failed = failed}) agrees k = λ e.
      let stands = done_if (staged_name r.token x.name) x.name d done failed agrees e in
      (staged r x.name (held r (item_names (x ∷ xs)) ls k.0.closing) (k.0.within.each x.name (inl refl)), placed_file sound r x xs ls th k.0 stands)
  own_touches sound (Testing r x xs ls) _ loads agrees k = tt
  own_touches sound (Removing r x xs ls th) _ erases agrees k = placed_file sound r x xs ls th k.0 (ap is_some k.3.0 ∙ k.3.1)
  own_touches sound (Extending r x xs ls th) _ extends agrees k = placed_file sound r x xs ls th k.0 (ap is_some k.3.0 ∙ k.3.1)
  own_touches sound (Extending r x xs ls th) _ extend_fails agrees k = placed_file sound r x xs ls th k.0 (ap is_some k.3.0 ∙ k.3.1)
  own_touches sound (Discarding r x xs ls th) _ erases agrees k = staged r x.name (held r (item_names (x ∷ xs)) ls k.0.closing) (k.0.within.each x.name (inl refl))
  own_touches sound (Unlocking r n ns th) _ unlocks agrees k = (r, held r [] (n ∷ ns) k.0, k.1.each n (inl refl), refl)
  own_touches sound (Erasing r th) _ erases agrees k = the_record k.0.right
  own_touches sound (Clearing found) _ erases agrees k = the_new k.clean.right
  own_touches sound Preparing _ stages agrees k = the_new k.0.clean.right
  own_touches sound Preparing _ stage_fails agrees k = the_new k.0.clean.right
  own_touches sound Publishing _ publishes agrees k = λ e. (the_new k.0.clean.right, the_record k.0.clean.right)
  own_touches sound (Locking ls x left) _ locks agrees k = (prepare_of j, held (prepare_of j) [] ls k.0.closing, own_name x (k.1.within x (inl refl)), refl)
  own_touches sound (Loading made x left) _ loads agrees k = tt
  own_touches sound (Staging ns made x left) _ stages agrees k =
      staged (prepare_of j) x.edit.name (held (prepare_of j) ns (all_of j) k.0.closing) (own_name x.edit (k.1.each x (k.3.each x (inl refl))).0)
  own_touches sound (Staging ns made x left) _ stage_fails agrees k =
      staged (prepare_of j) x.edit.name (held (prepare_of j) ns (all_of j) k.0.closing) (own_name x.edit (k.1.each x (k.3.each x (inl refl))).0)
  own_touches sound (Deciding made) _ stages agrees k = the_new k.0.closing.right
  own_touches sound (Deciding made) _ stage_fails agrees k = the_new k.0.closing.right
  own_touches sound (Committing made) _ publishes agrees k = λ e. (the_new k.0.closing.right, the_record k.0.closing.right)
  own_touches sound Checking _ loads agrees k = tt
  own_touches sound (Releasing a) _ releases agrees k = refl
  own_touches sound (Ended a) _ is agrees k = absurd is
