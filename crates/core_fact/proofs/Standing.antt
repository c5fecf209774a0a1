-- What stands as the record after an own call: what stood, nothing, or a record of the job's.
use Rattle.std.proofs.Common.{◌≡◌, ◌≢◌, ◌⊎◌, ℕ, Bool, true, false, List, [], ◌∷◌, Option, Some, None, refl, ap, sym, inl, inr, ◌∙◌}
use Rattle.commit_record.specs.Format.{written}
use Rattle.commit_record.specs.declared.record.Record.{Record}
use Rattle.host_port.specs.declared.event.Event.{Event}
use Rattle.host_port.specs.declared.event.Event.TheVariants as event
use Rattle.host_port.specs.Disk.{Disk, with_at, after}
use Rattle.host_port.specs.Ran.{Agrees}
use Rattle.commit_machine.specs.Names.{record_name, new_name, right_name, staged_name, is_record_name}
use Rattle.commit_machine.specs.Records.{record_in, names_of}
use Rattle.commit_machine.specs.Settled.{Mem}
use Rattle.commit_machine.specs.Items.{Item}
use Rattle.commit_machine.specs.Jobs.{Job, IsJob, all_of, prepare_of, go_of, way_made, made_at}
use Rattle.commit_machine.specs.Machine.{Then, State, Seizing, Timing, Looking, Undoing, Placing, Testing, Removing, Extending, Discarding, Unlocking, Erasing, Clearing, Preparing, Publishing, Locking, Loading, Staging, Deciding, Committing, Checking, Releasing, Ended, next}
use Rattle.commit_machine.specs.Goes.{IsNext, asks, loads, stages, stage_fails, publishes, extends, extend_fails, erases, locks, unlocks, seizes, releases}
use Rattle.commit_machine.specs.Lawful.{standing, IsSound}
use Rattle.commit_machine.specs.Due.{settled_files, settled_locks}
use Rattle.commit_machine.proofs.records.InFile.{record_of-written}
use Rattle.commit_machine.proofs.records.Names.{record-new, staged-record}
use Rattle.commit_machine.proofs.records.OfItems.{names-entries_for}
use Rattle.commit_machine.proofs.records.Same.{put_here, put_there}
use Rattle.commit_machine.proofs.standing.Known.{Closing, PartPlaced, Knows}
use Rattle.commit_machine.proofs.standing.KnownNext.{names-prepare}
use Rattle.commit_machine.proofs.standing.Settled.{record_name-not, record-staged}
use Rattle.commit_machine.proofs.steps.Decision

-- nothing is staged or locked for the record
pub record Cleared (r : Record) (d : Disk) : Type 0 where
  pub staged : (m : List ℕ) → Mem m (names_of r) → d.files (staged_name r.token m) ≡ None
  pub locks : (m : List ℕ) → Mem m (names_of r) → d.locks m ≢ Some r.token

-- no record stands, or one of the job's
abbrev pub IsNoneOrOwn : Job → Disk → Type 0
IsNoneOrOwn j d = (standing j.actor d ≡ None) ⊎ ((q : Record) × (standing j.actor d ≡ Some q) × (q.token ≡ j.token) × (names_of q ≡ all_of j))

pub data Stood (j : Job) (d now : Disk) : Type 0 where
  as_before : now.files (record_name j.actor) ≡ d.files (record_name j.actor) → Stood j d now
  is_gone : (r : Record) → standing j.actor d ≡ Some r → Cleared r now → standing j.actor now ≡ None → Stood j d now
  is_own : (r : Record) → standing j.actor now ≡ Some r → r.token ≡ j.token → names_of r ≡ all_of j → IsNoneOrOwn j d → Stood j d now

module _ (j : Job) (job : IsJob j) (d : Disk) (sound : IsSound j.actor d)
    (plain : (r : Record) (n : List ℕ) → standing j.actor d ≡ Some r → Mem n (names_of r) → is_record_name j.actor n ≡ false) where
  put_elsewhere : (n : List ℕ) (c : Option (List ℕ)) → record_name j.actor ≢ n → with_at d.files n c (record_name j.actor) ≡ d.files (record_name j.actor)
  put_elsewhere n c ne = put_there d.files n (record_name j.actor) c ne

  not_file : (r : Record) (n : List ℕ) → standing j.actor d ≡ Some r → Mem n (names_of r) → record_name j.actor ≢ n
  not_file r n e m is = (record_name-not j.actor n (plain r n e m)).0 (sym is)

  erased : (n : List ℕ) (done failed : Bool) → record_name j.actor ≢ n → Stood j d (after d (event.Erase n done failed))
  erased n true failed ne = as_before (put_elsewhere n None ne)
  erased n false failed ne = as_before refl

  placed : (from to : List ℕ) (done failed : Bool) → record_name j.actor ≢ from → record_name j.actor ≢ to → Stood j d (after d (event.Publish from to done failed))
  placed from to true failed nf nt = as_before (put_there (with_at d.files from None) to (record_name j.actor) (d.files from) nt ∙ put_elsewhere from None nf)
  placed from to false failed nf nt = as_before refl

  published : (r : Record) (done failed : Bool) → record_in (d.files (new_name j.actor)) ≡ Some r → r.token ≡ j.token → names_of r ≡ all_of j → IsNoneOrOwn j d
      → Stood j d (after d (event.Publish (new_name j.actor) (record_name j.actor) done failed))
  published r true failed e t n was = is_own r (ap record_in (put_here (with_at d.files (new_name j.actor) None) (record_name j.actor) (d.files (new_name j.actor))) ∙ e) t n was
  published r false failed e t n was = as_before refl

  locked : (n : List ℕ) (t : ℕ) (got failed : Bool) → Stood j d (after d (event.Lock n t got failed))
  locked n t true failed = as_before refl
  locked n t false failed = as_before refl

  unlocked : (n : List ℕ) (t : ℕ) (done failed : Bool) → Stood j d (after d (event.Unlock n t done failed))
  unlocked n t true failed = as_before refl
  unlocked n t false failed = as_before refl

  seized : (n : List ℕ) (got failed : Bool) → Stood j d (after d (event.Seize n got failed))
  seized n true failed = as_before refl
  seized n false failed = as_before refl

  cleared : (r : Record) (failed : Bool) → Closing j.actor r [] [] d → Cleared r (after d (event.Erase (record_name j.actor) true failed))
  cleared r failed k = record {
    staged = λ m mem. put_there d.files (record_name j.actor) (staged_name r.token m) None (staged-record r.token m j.actor) ∙ elim (k.gone m mem) [ inl a ↦ absurd a | inr b ↦ b ];
    locks = λ m mem. elim (k.free m mem) [ inl a ↦ absurd a | inr b ↦ b ];
  }

  gone_or_not : (r : Record) (done failed : Bool) → Closing j.actor r [] [] d → Stood j d (after d (event.Erase (record_name j.actor) done failed))
  gone_or_not r true failed k = is_gone r k.stands (cleared r failed k) (ap record_in (put_here d.files (record_name j.actor) None))
  gone_or_not r false failed k = as_before refl

  item_file : (r : Record) (x : Item) (xs : List Item) (ls : List (List ℕ)) (th : Then) → PartPlaced j.actor r (x ∷ xs) ls th d → record_name j.actor ≢ x.name
  item_file r x xs ls th k = not_file r x.name k.closing.stands (k.within.each x.name (inl refl))

  pub stands_after : (s : State) (e : Event) → IsNext (next j s) e → Agrees d e → Knows j s d → Stood j d (after d e)
  stands_after Seizing _ (seizes {got = g} {failed = f}) agrees k = seized (right_name j.actor) g f
  stands_after (Timing time) _ asks agrees k = as_before refl
  stands_after Looking _ loads agrees k = as_before refl
  stands_after (Undoing r n ns ls th) _ (erases {done = b} {failed = f}) agrees k = erased (staged_name r.token n) b f (record-staged r.token n j.actor)
  stands_after (Placing r x xs ls th) _ (publishes {done = b} {failed = f}) agrees k =
      placed (staged_name r.token x.name) x.name b f (record-staged r.token x.name j.actor) (item_file r x xs ls th k.0)
  stands_after (Testing r x xs ls) _ loads agrees k = as_before refl
  stands_after (Removing r x xs ls th) _ (erases {done = b} {failed = f}) agrees k = erased x.name b f (item_file r x xs ls th k.0)
  stands_after (Extending r x xs ls th) _ extends agrees k = as_before (put_elsewhere x.name _ (item_file r x xs ls th k.0))
  stands_after (Extending r x xs ls th) _ extend_fails agrees k = as_before (put_elsewhere x.name _ (item_file r x xs ls th k.0))
  stands_after (Discarding r x xs ls th) _ (erases {done = b} {failed = f}) agrees k = erased (staged_name r.token x.name) b f (record-staged r.token x.name j.actor)
  stands_after (Unlocking r n ns th) _ (unlocks {done = b} {failed = f}) agrees k = unlocked n r.token b f
  stands_after (Erasing r th) _ (erases {done = b} {failed = f}) agrees k = gone_or_not r b f k.0
  stands_after (Clearing found) _ (erases {done = b} {failed = f}) agrees k = erased (new_name j.actor) b f (record-new j.actor)
  stands_after Preparing _ stages agrees k = as_before (put_elsewhere (new_name j.actor) _ (record-new j.actor))
  stands_after Preparing _ stage_fails agrees k = as_before (put_elsewhere (new_name j.actor) _ (record-new j.actor))
  stands_after Publishing _ (publishes {done = b} {failed = f}) agrees k =
      published (prepare_of j) b f (ap record_in (k.0.new (written (prepare_of j)) refl)
      ∙ record_of-written (written (prepare_of j)) (prepare_of j) k.1) refl (names-prepare j) (inl (ap record_in k.0.none))
  stands_after (Locking ls x left) _ (locks {got = g} {failed = f}) agrees k = locked x.name j.token g f
  stands_after (Loading made x left) _ loads agrees k = as_before refl
  stands_after (Staging ns made x left) _ stages agrees k = as_before (put_elsewhere (staged_name j.token x.edit.name) _ (record-staged j.token x.edit.name j.actor))
  stands_after (Staging ns made x left) _ stage_fails agrees k = as_before (put_elsewhere (staged_name j.token x.edit.name) _ (record-staged j.token x.edit.name j.actor))
  stands_after (Deciding made) _ stages agrees k = as_before (put_elsewhere (new_name j.actor) _ (record-new j.actor))
  stands_after (Deciding made) _ stage_fails agrees k = as_before (put_elsewhere (new_name j.actor) _ (record-new j.actor))
  stands_after (Committing made) _ (publishes {done = b} {failed = f}) agrees k =
      published (go_of j made) b f (Decision.new_go j job d (settled_files j.actor d) (settled_locks j.actor d) (λ n. refl)
      (λ n. refl) sound made k) refl (names-entries_for (λ n. way_made (made_at made n)) (all_of j)) (inr (prepare_of j, k.0.closing.stands, refl, names-prepare j))
  stands_after Checking _ loads agrees k = as_before refl
  stands_after (Releasing a) _ releases agrees k = as_before refl
  stands_after (Ended a) _ is agrees k = absurd is
