-- What the fact says too: the tokens differ, what is put in place stands until its staged file is gone, and no record of the own token stands
-- before the bracket has published one.
use Rattle.std.proofs.Common.{◌≡◌, ◌≢◌, ℕ, List, ◌++◌, take, Option, Some, None, ap, sym, subst, ◌∙◌}
use Rattle.folder_change.specs.Outcomes.{bytes_of}
use Rattle.commit_record.specs.declared.record.Record.{Record}
use Rattle.commit_record.specs.declared.way.Way.{Way}
use Rattle.commit_record.specs.declared.way.Way.TheVariants.{Replace, Remove, Extend}
use Rattle.host_port.specs.Disk.{Disk}
use Rattle.commit_machine.specs.Names.{staged_name}
use Rattle.commit_machine.specs.Settled.{put_in}
use Rattle.commit_machine.specs.Items.{Item}
use Rattle.commit_machine.specs.Jobs.{Job}
use Rattle.commit_machine.specs.Lawful.{IsFresh}
use Rattle.commit_machine.specs.Machine.{Then, GoOn, Answer, State, Seizing, Timing, Looking, Undoing, Placing, Testing, Removing, Extending, Discarding, Unlocking, Erasing, Clearing, Preparing, Publishing}
use Rattle.commit_machine.proofs.standing.Known.{Knows}
use Rattle.core_steps.specs.declared.actor.Actor.{Actor}
use Rattle.core_steps.specs.declared.actor.Task.{Task}
use Rattle.core_steps.specs.declared.actor.Past.{Past}
use Rattle.core_steps.specs.declared.actor.Doing.{Doing}
use Rattle.core_steps.specs.Tasks.{job_of, state_of}
use Rattle.core_steps.specs.Cores.{CoreState, seen_by}
use Rattle.core_steps.proofs.Fact.{IsIn, IsActor, Standing, Fact}
use Rattle.core_steps.proofs.Turning.{fresh_of}

-- S0: the tokens of the actors differ
pub tokens_differ : (s : CoreState) → Fact s → (k i : ℕ) (a b : Actor) (x y : Doing) → IsActor s k a x → IsActor s i b y → k ≢ i → a.token ≢ b.token
tokens_differ s f k i a b x y p q ne same = ne (f.one_token k i a b x y p q same)

-- how a file stands that is in place: what is staged for it, absent, or with its tail
abbrev pub IsInPlace : Way → Option (List ℕ) → List ℕ → Type 0
IsInPlace Replace file bytes = file ≡ Some bytes
IsInPlace Remove file bytes = file ≡ None
IsInPlace (Extend at) file bytes = file ≡ Some (take at (bytes_of file) ++ bytes)

in_place : (w : Way) (file : Option (List ℕ)) (bytes : List ℕ) → put_in w file (Some bytes) ≡ file → IsInPlace w file bytes
in_place Replace file bytes e = sym e
in_place Remove file bytes e = sym e
in_place (Extend at) file bytes e = sym e

-- S1: where a staged file that was put in place still stands, the file is as that left it
pub placed_stays : (s : CoreState) → Fact s → (k : ℕ) (a : Actor) (t : Task) (past : List Past) → IsIn s k a t past
    → (r : Record) (x : Item) (xs : List Item) (ls : List (List ℕ)) (th : Then) → state_of a t past ≡ Discarding r x xs ls th
    → (bytes : List ℕ) → s.disk.files (staged_name r.token x.name) ≡ Some bytes → IsInPlace x.way (s.disk.files x.name) bytes
placed_stays s f k a t past at r x xs ls th is bytes staged =
    let known : Knows (job_of a t) (Discarding r x xs ls th) (seen_by k s.disk) = subst (λ (z : State). Knows (job_of a t) z (seen_by k s.disk)) is (f.knows k a t past at) in
    in_place x.way (s.disk.files x.name) bytes (ap (put_in x.way (s.disk.files x.name)) (sym staged) ∙ known.3)

-- the bracket has published no record of its own yet
abbrev IsBefore : Then → Type 0
IsBefore GoOn = Unit {0}
IsBefore (Answer e) = ⊥

abbrev pub IsUnpublished : State → Type 0
IsUnpublished Seizing = Unit {0}
IsUnpublished (Timing time) = Unit {0}
IsUnpublished Looking = Unit {0}
IsUnpublished (Undoing r n ns ls th) = IsBefore th
IsUnpublished (Placing r x xs ls th) = IsBefore th
IsUnpublished (Testing r x xs ls) = Unit {0}
IsUnpublished (Removing r x xs ls th) = IsBefore th
IsUnpublished (Extending r x xs ls th) = IsBefore th
IsUnpublished (Discarding r x xs ls th) = IsBefore th
IsUnpublished (Unlocking r n ns th) = IsBefore th
IsUnpublished (Erasing r th) = IsBefore th
IsUnpublished (Clearing found) = Unit {0}
IsUnpublished Preparing = Unit {0}
IsUnpublished Publishing = Unit {0}
IsUnpublished s = ⊥

unpublished_fresh : (j : Job) (d : Disk) (s : State) → IsUnpublished s → Knows j s d → IsFresh j.actor j.token d
unpublished_fresh j d Seizing u k = k
unpublished_fresh j d (Timing time) u k = k.fresh
unpublished_fresh j d Looking u k = k.fresh
unpublished_fresh j d (Undoing r n ns ls GoOn) u k = k.4
unpublished_fresh j d (Undoing r n ns ls (Answer e)) u k = absurd u
unpublished_fresh j d (Placing r x xs ls GoOn) u k = k.1
unpublished_fresh j d (Placing r x xs ls (Answer e)) u k = absurd u
unpublished_fresh j d (Testing r x xs ls) u k = k.1
unpublished_fresh j d (Removing r x xs ls GoOn) u k = k.1
unpublished_fresh j d (Removing r x xs ls (Answer e)) u k = absurd u
unpublished_fresh j d (Extending r x xs ls GoOn) u k = k.1
unpublished_fresh j d (Extending r x xs ls (Answer e)) u k = absurd u
unpublished_fresh j d (Discarding r x xs ls GoOn) u k = k.1
unpublished_fresh j d (Discarding r x xs ls (Answer e)) u k = absurd u
unpublished_fresh j d (Unlocking r n ns GoOn) u k = k.2
unpublished_fresh j d (Unlocking r n ns (Answer e)) u k = absurd u
unpublished_fresh j d (Erasing r GoOn) u k = k.1
unpublished_fresh j d (Erasing r (Answer e)) u k = absurd u
unpublished_fresh j d (Clearing found) u k = k.clean.fresh
unpublished_fresh j d Preparing u k = k.0.clean.fresh
unpublished_fresh j d Publishing u k = k.0.clean.fresh
unpublished_fresh j d s u k = absurd u

-- S2: then no record of its token stands
pub own_not_yet : (s : CoreState) → Fact s → (k : ℕ) (a : Actor) (t : Task) (past : List Past) → IsIn s k a t past → IsUnpublished (state_of a t past) → (r : Record) → Standing s a.name r
    → r.token ≢ a.token
own_not_yet s f k a t past at unpublished r stands =
    (fresh_of a t (seen_by k s.disk) (unpublished_fresh (job_of a t) (seen_by k s.disk) (state_of a t past) unpublished (f.knows k a t past at))).record_other r stands
