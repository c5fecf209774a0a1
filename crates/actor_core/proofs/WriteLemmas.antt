-- What an actor writes next as a record can be written.
use Rattle.std.proofs.Common.{◌≡◌, ◌+◌, ℕ, List, Some, slice_get, refl, ap, ◌∙◌}
use Rattle.host_port.specs.Disk.{Disk}
use Rattle.commit_machine.specs.Jobs.{Job, prepare_of}
use Rattle.commit_machine.specs.Names.{record_name}
use Rattle.commit_machine.specs.Machine.{State, Seizing, Timing, Looking, Undoing, Placing, Testing, Extending, Removing, Discarding, Unlocking, Erasing, Clearing, Preparing, Publishing, Locking, Loading, Staging, Deciding, Committing, Checking, Releasing, Ended}
use Rattle.commit_machine.proofs.records.InFile.{stands-valid}
use Rattle.commit_machine.proofs.standing.Known.{Knows}
use Rattle.core_steps.specs.declared.actor.Task.{Task}
use Rattle.core_steps.specs.declared.actor.Past.{Past}
use Rattle.core_steps.specs.declared.actor.Doing.{Doing}
use Rattle.core_steps.specs.declared.actor.Doing.TheVariants.{Bracket}
use Rattle.core_steps.specs.declared.actor.Member.{Member}
use Rattle.core_steps.specs.Cores.{CoreState, seen_by}
use Rattle.core_steps.specs.Tasks.{job_of, state_of}
use Rattle.core_steps.specs.Theorem.{IsReached}
use Rattle.core_steps.proofs.Fact.{Fact}
use Rattle.core_fact.proofs.Reached.{reached_fact}
use Rattle.actor_bracket.specs.Stands.{Writes}
use Rattle.actor_core.proofs.StepLemmas.{member_is}

known_writes : (j : Job) (s : State) (d : Disk) → Knows j s d → Writes j s
known_writes j Seizing d w = tt
known_writes j (Timing time) d w = tt
known_writes j Looking d w = tt
known_writes j (Undoing r n ns ls th) d w = tt
known_writes j (Placing r x xs ls th) d w = tt
known_writes j (Testing r x xs ls) d w = tt
known_writes j (Removing r x xs ls th) d w = tt
known_writes j (Extending r x xs ls th) d w = tt
known_writes j (Discarding r x xs ls th) d w = tt
known_writes j (Unlocking r n ns th) d w = tt
known_writes j (Erasing r th) d w = tt
known_writes j (Clearing f) d w = tt
known_writes j Preparing d w = w.1.valid
known_writes j Publishing d w = tt
known_writes j (Locking ls e left) d w = tt
known_writes j (Loading made e left) d w = tt
known_writes j (Staging ns made x left) d w = tt
known_writes j (Deciding made) d w = (stands-valid (d.files (record_name j.actor)) (prepare_of j) w.0.closing.stands).0
known_writes j (Committing made) d w = tt
known_writes j Checking d w = tt
known_writes j (Releasing e) d w = tt
known_writes j (Ended e) d w = tt

pub writes_at : (s : CoreState) → IsReached s → (at : ℕ) (m : Member) (t : Task) (past : List Past) → slice_get s.members at ≡ Some m → m.doing ≡ Bracket t past
    → Writes (job_of m.actor t) (state_of m.actor t past)
writes_at s r at m t past is e =
    let f : Fact s = reached_fact s r in
    let there = member_is s.members (at + 1) at (Some m) refl is ∙ ap (λ (d : Doing). Some (record { actor = m.actor; doing = d })) e in
    known_writes (job_of m.actor t) (state_of m.actor t past) (seen_by (at + 1) s.disk) (f.knows (at + 1) m.actor t past (record { is = there }))
