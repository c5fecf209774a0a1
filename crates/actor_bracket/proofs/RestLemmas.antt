-- What the machine does at the stands that a function leaves to its last arm.
use Rattle.std.proofs.Common.{◌≡◌, ℕ, Bool, true, List, Option, refl, ap, sym, ◌∙◌}
use Rattle.commit_record.specs.declared.record.Record.{Record}
use Rattle.commit_machine.specs.Items as its
use Rattle.commit_machine.specs.Items.{made_items}
use Rattle.commit_machine.specs.Jobs.{Job, Done, Failed, NoMemory, all_of, go_of}
use Rattle.commit_machine.specs.Machine as machine
use Rattle.core_steps.specs.declared.change.CoreChange.{CoreChange}
use Rattle.core_steps.specs.declared.actor.Actor.{Actor}
use Rattle.core_steps.specs.declared.actor.Task.{Task}
use Rattle.core_steps.specs.Tasks.{job_of}
use Rattle.actor_bracket.specs.declared.stand.Closing.{Closing}
use Rattle.actor_bracket.specs.declared.stand.Closing.TheVariants as closing
use Rattle.actor_bracket.specs.declared.stand.Item.{Item}
use Rattle.actor_bracket.specs.declared.stand.Made.{Made}
use Rattle.actor_bracket.specs.declared.stand.Then.{Then}
use Rattle.actor_bracket.specs.declared.stand.Stand.{Stand}
use Rattle.actor_bracket.specs.declared.stand.Stand.TheVariants as stand
use Rattle.actor_bracket.specs.Stands.{changes_of, closing_as, items_as, lets_go, mades_as, state_as, then_as}

closing_fault : (r : Record) (c : Closing) (th : machine.Then) → machine.faulted (closing_as r c th) ≡ machine.Releasing (Failed (machine.passed_at (closing_as r c th)))
closing_fault r (closing.Undoing n ns ls) th = refl
closing_fault r (closing.Placing x xs ls) th = refl
closing_fault r (closing.Testing x xs ls) th = refl
closing_fault r (closing.Removing x xs ls) th = refl
closing_fault r (closing.Extending x xs ls) th = refl
closing_fault r (closing.Discarding x xs ls) th = refl
closing_fault r (closing.Unlocking n ns) th = refl
closing_fault r closing.Erasing th = refl

pub fault_rest : (cs : List CoreChange) (s : Stand) → ((made : List Made) → s ≡ stand.Committing made → ⊥)
    → machine.faulted (state_as cs s) ≡ machine.Releasing (Failed (machine.passed_at (state_as cs s)))
fault_rest cs stand.Seizing not = refl
fault_rest cs (stand.Timing time) not = refl
fault_rest cs stand.Looking not = refl
fault_rest cs (stand.Closing r x th) not = closing_fault r x (then_as th)
fault_rest cs (stand.Clearing f) not = refl
fault_rest cs stand.Preparing not = refl
fault_rest cs stand.Publishing not = refl
fault_rest cs (stand.Locking ls n left) not = refl
fault_rest cs (stand.Loading made n left) not = refl
fault_rest cs (stand.Staging ns made x left) not = refl
fault_rest cs (stand.Deciding made) not = refl
fault_rest cs (stand.Committing made) not = absurd (not made refl)
fault_rest cs stand.Checking not = refl
fault_rest cs (stand.Releasing e) not = refl
fault_rest cs (stand.Ended e) not = refl

closing_wanted : (j : Job) (r : Record) (c : Closing) (th : machine.Then) → machine.refused j (closing_as r c th) ≡ machine.wanted j (closing_as r c th)
closing_wanted j r (closing.Undoing n ns ls) th = refl
closing_wanted j r (closing.Placing x xs ls) th = refl
closing_wanted j r (closing.Testing x xs ls) th = refl
closing_wanted j r (closing.Removing x xs ls) th = refl
closing_wanted j r (closing.Extending x xs ls) th = refl
closing_wanted j r (closing.Discarding x xs ls) th = refl
closing_wanted j r (closing.Unlocking n ns) th = refl
closing_wanted j r closing.Erasing th = refl

pub wanted_rest : (j : Job) (cs : List CoreChange) (s : Stand) → (s ≡ stand.Checking → ⊥) → machine.refused j (state_as cs s) ≡ machine.wanted j (state_as cs s)
wanted_rest j cs stand.Seizing not = refl
wanted_rest j cs (stand.Timing time) not = refl
wanted_rest j cs stand.Looking not = refl
wanted_rest j cs (stand.Closing r x th) not = closing_wanted j r x (then_as th)
wanted_rest j cs (stand.Clearing f) not = refl
wanted_rest j cs stand.Preparing not = refl
wanted_rest j cs stand.Publishing not = refl
wanted_rest j cs (stand.Locking ls n left) not = refl
wanted_rest j cs (stand.Loading made n left) not = refl
wanted_rest j cs (stand.Staging ns made x left) not = refl
wanted_rest j cs (stand.Deciding made) not = refl
wanted_rest j cs (stand.Committing made) not = refl
wanted_rest j cs stand.Checking not = absurd (not refl)
wanted_rest j cs (stand.Releasing e) not = refl
wanted_rest j cs (stand.Ended e) not = refl

-- once the decision was passed
pub committed_is : (a : Actor) (t : Task) (done first second : List Made) (s : Stand) (value : Record) (list : List Item) (locks : List (List ℕ)) (did : Bool) → first ≡ done → second ≡ done
    → ((cs : List CoreChange) → state_as cs s ≡ machine.placing value (items_as list) locks (machine.Answer Done))
    → value ≡ go_of (job_of a t) (mades_as (changes_of t) first) → ((b : Actor) → items_as list ≡ made_items (job_of b t) (mades_as (changes_of t) second))
    → ((b : Actor) → locks ≡ all_of (job_of b t)) → did ≡ true
    → state_as (changes_of t) s ≡ machine.went_on (job_of a t) (machine.Committing (mades_as (changes_of t) done)) did
committed_is a t done first second s value list locks did f g placed is items names so =
    placed (changes_of t)
    ∙ ap (λ (v : Record). machine.placing v (items_as list) locks (machine.Answer Done)) (is ∙ ap (λ (m : List Made). go_of (job_of a t) (mades_as (changes_of t) m)) f)
    ∙ ap (λ (xs : List its.Item). machine.placing (go_of (job_of a t) (mades_as (changes_of t) done)) xs locks (machine.Answer Done))
    (items a ∙ ap (λ (m : List Made). made_items (job_of a t) (mades_as (changes_of t) m)) g)
    ∙ ap (λ (ls : List (List ℕ)). machine.placing (go_of (job_of a t) (mades_as (changes_of t) done)) (made_items (job_of a t) (mades_as (changes_of t) done)) ls (machine.Answer Done)) (names a)
    ∙ ap (machine.went_on (job_of a t) (machine.Committing (mades_as (changes_of t) done))) (sym so)

pub closing_saw_rest : (j : Job) (r : Record) (c : Closing) (th : machine.Then) (file : Option (List ℕ)) → ((x : Item) (xs : List Item) (ls : List (List ℕ)) → c ≡ closing.Testing x xs ls → ⊥)
    → machine.saw j (closing_as r c th) file ≡ machine.Releasing (Failed (machine.passed_at (closing_as r c th)))
closing_saw_rest j r (closing.Undoing n ns ls) th file not = refl
closing_saw_rest j r (closing.Placing x xs ls) th file not = refl
closing_saw_rest j r (closing.Testing x xs ls) th file not = absurd (not x xs ls refl)
closing_saw_rest j r (closing.Removing x xs ls) th file not = refl
closing_saw_rest j r (closing.Extending x xs ls) th file not = refl
closing_saw_rest j r (closing.Discarding x xs ls) th file not = refl
closing_saw_rest j r (closing.Unlocking n ns) th file not = refl
closing_saw_rest j r closing.Erasing th file not = refl

pub closing_long_rest : (j : Job) (r : Record) (c : Closing) (th : machine.Then) (n : ℕ) → ((x : Item) (xs : List Item) (ls : List (List ℕ)) → c ≡ closing.Testing x xs ls → ⊥)
    → machine.too_long j (closing_as r c th) n ≡ machine.Releasing (Failed (machine.passed_at (closing_as r c th)))
closing_long_rest j r (closing.Undoing m ns ls) th n not = refl
closing_long_rest j r (closing.Placing x xs ls) th n not = refl
closing_long_rest j r (closing.Testing x xs ls) th n not = absurd (not x xs ls refl)
closing_long_rest j r (closing.Removing x xs ls) th n not = refl
closing_long_rest j r (closing.Extending x xs ls) th n not = refl
closing_long_rest j r (closing.Discarding x xs ls) th n not = refl
closing_long_rest j r (closing.Unlocking m ns) th n not = refl
closing_long_rest j r closing.Erasing th n not = refl

pub saw_rest : (j : Job) (cs : List CoreChange) (s : Stand) (file : Option (List ℕ)) → (s ≡ stand.Looking → ⊥) → ((r : Record) (x : Closing) (th : Then) → s ≡ stand.Closing r x th → ⊥)
    → ((made : List Made) (n : List ℕ) (left : List (List ℕ)) → s ≡ stand.Loading made n left → ⊥) → (s ≡ stand.Checking → ⊥)
    → machine.saw j (state_as cs s) file ≡ machine.Releasing (Failed (machine.passed_at (state_as cs s)))
saw_rest j cs stand.Seizing file look close load check = refl
saw_rest j cs (stand.Timing time) file look close load check = refl
saw_rest j cs stand.Looking file look close load check = absurd (look refl)
saw_rest j cs (stand.Closing r x th) file look close load check = absurd (close r x th refl)
saw_rest j cs (stand.Clearing f) file look close load check = refl
saw_rest j cs stand.Preparing file look close load check = refl
saw_rest j cs stand.Publishing file look close load check = refl
saw_rest j cs (stand.Locking ls n left) file look close load check = refl
saw_rest j cs (stand.Loading made n left) file look close load check = absurd (load made n left refl)
saw_rest j cs (stand.Staging ns made x left) file look close load check = refl
saw_rest j cs (stand.Deciding made) file look close load check = refl
saw_rest j cs (stand.Committing made) file look close load check = refl
saw_rest j cs stand.Checking file look close load check = absurd (check refl)
saw_rest j cs (stand.Releasing e) file look close load check = refl
saw_rest j cs (stand.Ended e) file look close load check = refl

-- memory runs out where nothing was locked or staged
pub lets_go_refused : (j : Job) (s : machine.State) → lets_go s ≡ true → machine.Releasing NoMemory ≡ machine.refused j s
lets_go_refused j machine.Seizing h = absurd (cc)
lets_go_refused j (machine.Timing time) h = refl
lets_go_refused j machine.Looking h = refl
lets_go_refused j (machine.Undoing r n ns ls machine.GoOn) h = refl
lets_go_refused j (machine.Undoing r n ns ls (machine.Answer e)) h = absurd (cc)
lets_go_refused j (machine.Placing r x xs ls machine.GoOn) h = refl
lets_go_refused j (machine.Placing r x xs ls (machine.Answer e)) h = absurd (cc)
lets_go_refused j (machine.Testing r x xs ls) h = refl
lets_go_refused j (machine.Removing r x xs ls machine.GoOn) h = refl
lets_go_refused j (machine.Removing r x xs ls (machine.Answer e)) h = absurd (cc)
lets_go_refused j (machine.Extending r x xs ls machine.GoOn) h = refl
lets_go_refused j (machine.Extending r x xs ls (machine.Answer e)) h = absurd (cc)
lets_go_refused j (machine.Discarding r x xs ls machine.GoOn) h = refl
lets_go_refused j (machine.Discarding r x xs ls (machine.Answer e)) h = absurd (cc)
lets_go_refused j (machine.Unlocking r n ns machine.GoOn) h = refl
lets_go_refused j (machine.Unlocking r n ns (machine.Answer e)) h = absurd (cc)
lets_go_refused j (machine.Erasing r machine.GoOn) h = refl
lets_go_refused j (machine.Erasing r (machine.Answer e)) h = absurd (cc)
lets_go_refused j (machine.Clearing f) h = refl
lets_go_refused j machine.Preparing h = refl
lets_go_refused j machine.Publishing h = refl
lets_go_refused j (machine.Locking ls e left) h = absurd (cc)
lets_go_refused j (machine.Loading made e left) h = absurd (cc)
lets_go_refused j (machine.Staging ns made x left) h = absurd (cc)
lets_go_refused j (machine.Deciding made) h = absurd (cc)
lets_go_refused j (machine.Committing made) h = absurd (cc)
lets_go_refused j machine.Checking h = absurd (cc)
lets_go_refused j (machine.Releasing e) h = absurd (cc)
lets_go_refused j (machine.Ended e) h = absurd (cc)
