-- Runs in a row.
use Rattle.std.proofs.Common.{◌≡◌, ℕ, List, [], ◌++◌, refl, ap, sym, subst, ◌∙◌}
use Rattle.std.specs.Prelude.{take}
use Rattle.host_port.specs.declared.event.Event.{Event}
use Rattle.host_port.specs.Disk.{Disk, after_step}
use Rattle.commit_machine.specs.Due.{settled_files}
use Rattle.commit_machine.specs.Laws.{decisions}
use Rattle.commit_machine.specs.Rows.{first_job, IsRunDue}
use Rattle.play_safety.specs.Safe.{queue, IsCrashSafe}
use Rattle.run_laws.specs.Changing.{made_by}
use Rattle.run_laws.specs.Rows.{Leg, decided_by, none, run, others, all_decided, RowsAddUp, AnotherMayBegin, EndedIsAccepted}
use Rattle.play_safety.proofs.AppendedLemmas.{left-due}
use Rattle.run_laws.proofs.ChangingLemmas.{made_alone, made_append, all_taken, run_made}

module _ {actor : List ℕ} {d now : Disk} (leg : Leg actor d now) where
  -- the run is one of this actor
  safe_of : IsCrashSafe actor leg.env.token d leg.es leg.safe.commits leg.safe.out
  safe_of = subst (λ (a : List ℕ). IsCrashSafe a leg.env.token d leg.es leg.safe.commits leg.safe.out) leg.same leg.safe.safe

  due_of : IsRunDue actor leg.env.token d (queue leg.safe.commits) leg.seen now
  due_of = left-due actor leg.env.token d leg.es leg.safe.commits leg.safe.out leg.seen now safe_of leg.left

pub rows_add_up : RowsAddUp
rows_add_up actor d now none n leave = refl
rows_add_up actor d now (run {mid = mid} leg row) n leave =
    let first : settled_files actor mid n ≡ made_by (decided_by leg) (settled_files actor d) n =
    (due_of leg).same_files n
    ∙ run_made actor leg.env.token leg.seen d (leg.safe.commits.accepted ++ leg.safe.commits.pending) (settled_files actor d) n leave.0 in
    rows_add_up actor mid now row n leave.1
    ∙ made_alone (all_decided row) (settled_files actor mid) (made_by (decided_by leg) (settled_files actor d)) n first
    ∙ sym (made_append (decided_by leg) (all_decided row) (settled_files actor d) n)
rows_add_up actor d now (others step row) n leave =
    rows_add_up actor (after_step d step) now row n leave.1
    ∙ made_alone (all_decided row) (settled_files actor (after_step d step)) (settled_files actor d) n leave.0

pub another_may_begin : AnotherMayBegin
another_may_begin actor d now leg token es fresh lawful = record { fresh = fresh; sound = (due_of leg).sound; lawful = lawful }

pub ended_is_accepted : EndedIsAccepted
ended_is_accepted actor d now leg whole =
    let commits = leg.safe.commits in
    let count = ap (λ (l : List Event). decisions (first_job actor leg.env.token []) d 0 l) whole ∙ (safe_of leg).decided in
    ap (λ (k : ℕ). take k (commits.accepted ++ commits.pending)) count ∙ all_taken commits.accepted commits.pending
