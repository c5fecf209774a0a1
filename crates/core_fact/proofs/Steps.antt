-- Every step keeps the fact, and changes the settled files by the changes of its commit place alone.
use Rattle.std.proofs.Common.{◌≡◌, ℕ, Bool, true, false, List, [], ◌∷◌, ◌++◌, Option, Some, None, if◌then◌else◌, refl, ap, sym, subst, ◌∙◌}
use Rattle.std.specs.Option.{option_map, option_and_then}
use Rattle.host_port.specs.declared.event.Event.{Event}
use Rattle.host_port.specs.declared.event.Part.{Part}
use Rattle.host_port.specs.Disk.{Disk, after}
use Rattle.host_port.specs.Ends.{cut_short}
use Rattle.host_port.specs.Ran.{Agrees}
use Rattle.commit_machine.specs.Machine.{Call, next}
use Rattle.commit_machine.specs.Goes.{IsOf, IsNext}
use Rattle.commit_machine.specs.Due.{applied, is_decision}
use Rattle.actor_ground.specs.CallEnds.{asked, answered}
use Rattle.core_steps.specs.declared.step.CoreStep.{CoreStep}
use Rattle.core_steps.specs.declared.step.StepKind.{StepKind}
use Rattle.core_steps.specs.declared.step.StepKind.TheVariants as kind
use Rattle.core_steps.specs.declared.actor.Actor.{Actor}
use Rattle.core_steps.specs.declared.actor.Task.{Task}
use Rattle.core_steps.specs.declared.actor.Task.TheVariants as task
use Rattle.core_steps.specs.declared.actor.Past.{Past}
use Rattle.core_steps.specs.declared.actor.Doing.{Doing}
use Rattle.core_steps.specs.declared.actor.Doing.TheVariants.{Nothing, Bracket, Stopped}
use Rattle.core_steps.specs.declared.actor.Member.{Member}
use Rattle.core_steps.specs.Changes.{edits_of_all}
use Rattle.core_steps.specs.Tasks.{job_of, state_of, may_want}
use Rattle.core_steps.specs.Turns.{Turn, may_commit, failing, can_fail, passed_at, shown, wanting, stopping, turn_inside, staying, turn_outside, turn_of}
use Rattle.core_steps.specs.Cores.{CoreState, seen_by, disk_then, names_in, actors_of, member_at, after_turn, stepped}
use Rattle.core_steps.specs.Settling.{settled_by, changed_by}
use Rattle.core_fact.proofs.Deciding.{decision_settles}
use Rattle.core_fact.proofs.Edits.{edits_are_changes}
use Rattle.core_steps.proofs.Fact.{IsActor}
use Rattle.core_steps.proofs.Ground.{Ground}
use Rattle.core_steps.proofs.Members.{member_named}
use Rattle.core_steps.proofs.Changed.{then_state}
use Rattle.core_fact.proofs.JobIs.{job_free}
use Rattle.core_steps.proofs.Turning.{stopped_is}
use Rattle.core_fact.proofs.Called.{changed_called, ground_called, ground_cut, own_event}
use Rattle.core_fact.proofs.Stayed.{ground_wanted, ground_commits, ground_recovers, ground_leaves}
use Rattle.core_fact.proofs.Memory.{Memory}
use Rattle.core_fact.proofs.Memorize.{memory_called, memory_cut, memory_wanted, memory_begins, memory_leaves}
use Rattle.core_fact.proofs.Ends.{answered_so, failing_so, cut_so}

-- at an event of a member's next call the settled files change by its commit place, if it is one
event_settles : (s : CoreState) (g : Ground s) (k : ℕ) (a : Actor) (t : Task) (past : List Past) → IsActor s k a (Bracket t past) → (e : Event) → IsNext (next (job_of a t) (state_of a t past)) e
    → Agrees (seen_by k s.disk) e
    → (n : List ℕ) → settled_by (names_in s) (after (seen_by k s.disk) e).files n ≡ changed_by (passed_at a t e (seen_by k s.disk)) (settled_by (names_in s) s.disk.files) n
event_settles s g k a (task.Commit changes moment) past at e is agrees n =
    decision_settles (job_of a (task.Commit changes moment)) (g.job k a (task.Commit changes moment) past at) (names_in s) (seen_by k s.disk) (state_of a (task.Commit changes moment) past) e
    (member_named s.members k (record { actor = a; doing = Bracket (task.Commit changes moment) past }) at) g.orderly
    (changed_called s g k a (task.Commit changes moment) past at e is agrees).orderly is agrees (g.knows k a (task.Commit changes moment) past at)
    (own_event (next (job_of a (task.Commit changes moment)) (state_of a (task.Commit changes moment) past)) e is)
    (job_free s.members a changes moment (g.allowed k a changes moment past at))
    (λ b r mb stands same. g.token_at_home k a (Bracket (task.Commit changes moment) past) b r at mb stands same) n
    ∙ go (is_decision (job_of a (task.Commit changes moment)) e (seen_by k s.disk))
  where
    go : (b : Bool)
        → (if b then applied (edits_of_all changes) (settled_by (names_in s) s.disk.files) n else settled_by (names_in s) s.disk.files n)
        ≡ changed_by (if b then (a.token, changes) ∷ [] else []) (settled_by (names_in s) s.disk.files) n
    go true = edits_are_changes changes (settled_by (names_in s) s.disk.files) n
    go false = refl
event_settles s g k a task.Recover past at e is agrees n =
    decision_settles (job_of a task.Recover) (g.job k a task.Recover past at) (names_in s) (seen_by k s.disk) (state_of a task.Recover past) e
    (member_named s.members k (record { actor = a; doing = Bracket task.Recover past }) at) g.orderly
    (changed_called s g k a task.Recover past at e is agrees).orderly is agrees (g.knows k a task.Recover past at)
    (own_event (next (job_of a task.Recover) (state_of a task.Recover past)) e is)
    (λ b n mb mn. absurd mn)
    (λ b r mb stands same. g.token_at_home k a (Bracket task.Recover past) b r at mb stands same) n
    ∙ go (is_decision (job_of a task.Recover) e (seen_by k s.disk))
  where
    go : (b : Bool) → (if b then settled_by (names_in s) s.disk.files n else settled_by (names_in s) s.disk.files n) ≡ settled_by (names_in s) s.disk.files n
    go true = refl
    go false = refl

-- a turn keeps the fact, and the settled files but for its commit place
pub record IsGoodTurn (s : CoreState) (k : ℕ) (m : Member) (t : Turn) : Type 0 where
  pub ground : Ground (after_turn s k m t)
  pub memory : Memory s → Memory (after_turn s k m t)
  pub settles : (n : List ℕ) → settled_by (names_in s) t.disk.files n ≡ changed_by t.passed (settled_by (names_in s) s.disk.files) n

-- an answer of a turn that is good, if it is one
abbrev IsGoodAnswer : CoreState → ℕ → Member → Option Turn → Type 0
IsGoodAnswer s k m None = Unit {0}
IsGoodAnswer s k m (Some t) = IsGoodTurn s k m t

if_good : (s : CoreState) (k : ℕ) (m : Member) (b : Bool) (t : Turn) → (b ≡ true → IsGoodTurn s k m t) → IsGoodAnswer s k m (if b then Some t else None)
if_good s k m true t h = h refl
if_good s k m false t h = tt

module _ (s : CoreState) (g : Ground s) (k : ℕ) (a : Actor) where
  event_good : (t : Task) (past : List Past) (at : IsActor s k a (Bracket t past)) (c : Call) → next (job_of a t) (state_of a t past) ≡ Some c → (e : Event) → IsOf c e → Agrees (seen_by k s.disk) e
      → IsGoodTurn s k (record { actor = a; doing = Bracket t past }) (shown a t past (seen_by k s.disk) e)
  event_good t past at c nx e of agrees =
      let is : IsNext (next (job_of a t) (state_of a t past)) e = subst (λ (o : Option Call). IsNext o e) (sym nx) of in
      record {
        ground = ground_called s g k a t past at e is agrees;
        memory =
            λ mem. memory_called s g mem k a t past at (s.places ++ passed_at a t e (seen_by k s.disk)) e is agrees;
        settles = event_settles s g k a t past at e is agrees;
      }

  cut_good : (t : Task) (past : List Past) (at : IsActor s k a (Bracket t past)) (c : Call) → next (job_of a t) (state_of a t past) ≡ Some c → (part : Part)
      → IsGoodTurn s k (record { actor = a; doing = Bracket t past }) (stopping a t (seen_by k s.disk) (asked (seen_by k s.disk) c) part)
  cut_good t past at c nx part =
      let d = seen_by k s.disk in
      let so = cut_so (seen_by k s.disk) c part in
      let e = cut_short (seen_by k s.disk) (asked (seen_by k s.disk) c) part in
      let is : IsNext (next (job_of a t) (state_of a t past)) e = subst (λ (o : Option Call). IsNext o e) (sym nx) so.0 in
      let same = stopped_is (seen_by k s.disk) c part in
      record {
        ground = subst (λ (z : Disk). Ground (then_state s k a (disk_then k s.disk z) Stopped (s.places ++ passed_at a t e (seen_by k s.disk)))) (sym same) (ground_cut s g k a t past at e is so.1);
        memory = λ mem. subst (λ (z : Disk). Memory
            (then_state s k a (disk_then k s.disk z) Stopped (s.places ++ passed_at a t e (seen_by k s.disk)))) (sym same)
            (memory_cut s g mem k a t past at (s.places ++ passed_at a t e (seen_by k s.disk)) e is so.1);
        settles = λ n. ap (λ (z : Disk). settled_by (names_in s) z.files n) same ∙ event_settles s g k a t past at e is so.1 n;
      }

  inside_good : (t : Task) (past : List Past) (at : IsActor s k a (Bracket t past)) (what : StepKind) (c : Call) → next (job_of a t) (state_of a t past) ≡ Some c
      → IsGoodAnswer s k (record { actor = a; doing = Bracket t past }) (turn_inside a t past what (seen_by k s.disk) c)
  inside_good t past at (kind.Commit changes moment) c nx = tt
  inside_good t past at kind.Recover c nx = tt
  inside_good t past at kind.Call c nx = let so = answered_so (seen_by k s.disk) c in event_good t past at c nx (answered (seen_by k s.disk) c) so.0 so.1
  inside_good t past at kind.Refuse c nx =
      if_good s k (record { actor = a; doing = Bracket t past }) (may_want (state_of a t past)) (wanting a t past (seen_by k s.disk))
      (λ may. record { ground = ground_wanted s g k a t past at; memory = λ mem. memory_wanted s g mem k a t past at may (s.places ++ []); settles = λ n. refl })
  inside_good t past at (kind.Fail part) c nx =
      if_good s k (record { actor = a; doing = Bracket t past }) (can_fail c) (shown a t past (seen_by k s.disk) (failing (seen_by k s.disk) c part))
      (λ may. let so = failing_so (seen_by k s.disk) c part may in event_good t past at c nx (failing (seen_by k s.disk) c part) so.0 so.1)
  inside_good t past at (kind.Stop part) c nx = cut_good t past at c nx part

  next_good : (t : Task) (past : List Past) (at : IsActor s k a (Bracket t past)) (what : StepKind) (o : Option Call) → next (job_of a t) (state_of a t past) ≡ o
      → IsGoodAnswer s k (record { actor = a; doing = Bracket t past }) (option_and_then (turn_inside a t past what (seen_by k s.disk)) o)
  next_good t past at what None nx = tt
  next_good t past at what (Some c) nx = inside_good t past at what c nx

  outside_good : (at : IsActor s k a Nothing) (what : StepKind) → IsGoodAnswer s k (record { actor = a; doing = Nothing }) (turn_outside (actors_of s) a what (seen_by k s.disk))
  outside_good at (kind.Commit changes moment) =
      if_good s k (record { actor = a; doing = Nothing }) (may_commit (actors_of s) a changes)
      (staying (seen_by k s.disk) (Bracket (task.Commit changes moment) []))
      (λ may. record { ground = ground_commits s g k a changes moment at may; memory = λ mem. memory_begins s g mem k a (task.Commit changes moment) at (s.places ++ []); settles = λ n. refl })
  outside_good at kind.Recover = record { ground = ground_recovers s g k a at; memory = λ mem. memory_begins s g mem k a task.Recover at (s.places ++ []); settles = λ n. refl }
  outside_good at kind.Call = tt
  outside_good at kind.Refuse = tt
  outside_good at (kind.Fail part) = tt
  outside_good at (kind.Stop part) = record { ground = ground_leaves s g k a at; memory = λ mem. memory_leaves s g mem k a at (s.places ++ []); settles = λ n. refl }

  pub turn_good : (doing : Doing) (at : IsActor s k a doing) (what : StepKind) → IsGoodAnswer s k (record { actor = a; doing = doing }) (turn_of (actors_of s) a doing what (seen_by k s.disk))
  turn_good Nothing at what = outside_good at what
  turn_good (Bracket t past) at what = next_good t past at what (next (job_of a t) (state_of a t past)) refl
  turn_good Stopped at what = tt

-- a step has a turn of a member
pub stepped_good : (s : CoreState) (g : Ground s) (step : CoreStep) (now : CoreState) → stepped s step ≡ Some now
    → (m : Member) × (t : Turn) × (member_at s.members step.actor ≡ Some m) × IsGoodTurn s step.actor m t × (now ≡ after_turn s step.actor m t)
stepped_good s g step now h = go (member_at s.members step.actor) refl h
  where
    found : (m : Member) (o : Option Turn) → member_at s.members step.actor ≡ Some m → IsGoodAnswer s step.actor m o → option_map (after_turn s step.actor m) o ≡ Some now
        → (m : Member) × (t : Turn) × (member_at s.members step.actor ≡ Some m) × IsGoodTurn s step.actor m t × (now ≡ after_turn s step.actor m t)
    found m None at good e = absurd (cc)
    found m (Some t) at good e = (m, t, at, good, let w : after_turn s step.actor m t ≡ now = some_one (after_turn s step.actor m t) e in sym w)
      where
        some_one : (x : CoreState) → Some x ≡ Some now → x ≡ now
        some_one x e = (cc)

    go : (o : Option Member) → member_at s.members step.actor ≡ o
        → option_and_then (λ m. option_map (after_turn s step.actor m) (turn_of (actors_of s) m.actor m.doing step.kind (seen_by step.actor s.disk))) o ≡ Some now
        → (m : Member) × (t : Turn) × (member_at s.members step.actor ≡ Some m) × IsGoodTurn s step.actor m t × (now ≡ after_turn s step.actor m t)
    go None at e = absurd (cc)
    go (Some m) at e = found m (turn_of (actors_of s) m.actor m.doing step.kind (seen_by step.actor s.disk)) at (turn_good s g step.actor m.actor m.doing at step.kind) e
