-- The fact after a call of a member in its bracket, carried out, failing or cut short.
use Rattle.std.proofs.Common.{◌≡◌, ◌≢◌, ◌⊎◌, ◌==◌, ℕ, ℤ, Bool, true, false, List, [], ◌∷◌, ◌++◌, Option, Some, None, if◌then◌else◌, refl, ap, sym, subst, inl, inr, ◌∙◌}
use Rattle.std.proofs.lemmas.Bool.{eqb-true}
use Rattle.commit_record.specs.declared.record.Record.{Record}
use Rattle.host_port.specs.declared.event.Event.{Event}
use Rattle.host_port.specs.declared.event.Holder.{Holder}
use Rattle.host_port.specs.declared.event.Holder.TheVariants.{Own, Other}
use Rattle.host_port.specs.Disk.{Disk, without_own, after}
use Rattle.host_port.specs.Ends.{ended}
use Rattle.host_port.specs.Ran.{Agrees}
use Rattle.commit_machine.specs.Names.{record_name, right_name}
use Rattle.commit_machine.specs.Records.{record_in}
use Rattle.commit_machine.specs.Settled.{Mem, IsSoundAt}
use Rattle.commit_machine.specs.Machine.{State, Call, next, after_reply}
use Rattle.commit_machine.specs.Goes.{IsNext, reply}
use Rattle.commit_machine.specs.Laws.{is_foreign}
use Rattle.commit_machine.specs.Lawful.{HasRight}
use Rattle.commit_machine.specs.Due.{settled_files, settled_locks}
use Rattle.commit_machine.proofs.standing.Known.{Knows}
use Rattle.commit_machine.proofs.runs.Moments
use Rattle.core_steps.specs.declared.change.CoreChange.{CoreChange}
use Rattle.core_steps.specs.declared.actor.Actor.{Actor}
use Rattle.core_steps.specs.declared.actor.Task.{Task}
use Rattle.core_steps.specs.declared.actor.Task.TheVariants as task
use Rattle.core_steps.specs.declared.actor.Past.{Past}
use Rattle.core_steps.specs.declared.actor.Past.TheVariants.{Shown}
use Rattle.core_steps.specs.declared.actor.Doing.TheVariants.{Bracket, Stopped}
use Rattle.core_steps.specs.Tasks.{job_of, on_time, state_of}
use Rattle.core_steps.specs.Turns.{may_commit, doing_then, passed_at, shown}
use Rattle.core_steps.specs.Cores.{CoreState, holder_for, seen_by, holder_then, disk_then, names_in, actors_of, after_turn}
use Rattle.core_steps.specs.Settling.{standing_in}
use Rattle.core_steps.proofs.Views.{own_holder, seen-own}
use Rattle.core_steps.proofs.Touching.{IsOwnName, Touches, own_touches}
use Rattle.core_steps.proofs.Others.{untouched}
use Rattle.core_steps.proofs.Came.{others_right, own_right}
use Rattle.core_steps.proofs.Fact.{is_over, IsActor}
use Rattle.core_steps.proofs.Ground.{Ground}
use Rattle.core_steps.proofs.Members.{member_named}
use Rattle.core_steps.proofs.Changed.{IsChanged, IsProper, then_state, job_name, ground_then}
use Rattle.core_fact.proofs.Around
use Rattle.core_fact.proofs.JobIs.{job_free}
use Rattle.core_steps.proofs.Turning.{state_shown, knows_on_time, proper_at, goes_on_with, of_own}

other_holder : (k i : ℕ) → i ≢ k → holder_for k (Some i) ≡ Some Other
other_holder k i ne = go (i == k) refl
  where
    go : (b : Bool) → (i == k) ≡ b → (if b then Some Own else Some Other) ≡ Some Other
    go true e = absurd (ne (eqb-true i k e))
    go false e = refl

pub own_event : (o : Option Call) (e : Event) → IsNext o e → is_foreign e ≡ false
own_event None e is = absurd is
own_event (Some c) e is = of_own c e is

with_right : (a : List ℕ) (d : Disk) (m : List ℕ) → IsOwnName a d m → HasRight a d
with_right a d m (inl p) = p.1
with_right a d m (inr (inl (r, h, w))) = h.right
with_right a d m (inr (inr (r, h, mm, l))) = h.right

module _ (s : CoreState) (g : Ground s) (k : ℕ) (a : Actor) (t : Task) (past : List Past) (at : IsActor s k a (Bracket t past)) (e : Event)
    (is : IsNext (next (job_of a t) (state_of a t past)) e) (agrees : Agrees (seen_by k s.disk) e) where
  pub own : is_foreign e ≡ false
  own = own_event (next (job_of a t) (state_of a t past)) e is

  pub known : Knows (job_of a t) (state_of a t past) (seen_by k s.disk)
  known = g.knows k a t past at

  pub mem : Mem a.name (names_in s)
  mem = member_named s.members k (record { actor = a; doing = Bracket t past }) at

  pub sound : IsSoundAt (job_of a t).actor s.disk.files s.disk.locks
  sound = subst (λ (z : List ℕ). IsSoundAt z s.disk.files s.disk.locks) (sym (job_name a t)) (g.orderly.sound a.name mem)

  -- what is known then
  pub knows_then : Knows (job_of a t) (state_of a t (past ++ Shown e ∷ [])) (after (seen_by k s.disk) e)
  knows_then =
      let d = seen_by k s.disk in
      let kept = Moments.own_step (job_of a t) (g.job k a t past at) (seen_by k s.disk) (settled_files (job_of a t).actor (seen_by k s.disk))
      (settled_locks (job_of a t).actor (seen_by k s.disk)) (λ n. refl) (λ n. refl) sound (state_of a t past) e is agrees known in
      subst (λ (z : State). Knows (job_of a t) z (after (seen_by k s.disk) e)) (sym (state_shown a t past e))
      (knows_on_time (job_of a t) (after (seen_by k s.disk) e) (after_reply (job_of a t) (state_of a t past) (reply e)) kept.knows)

  -- another's right is seen as another's
  seen_other : (q : List ℕ) (i : ℕ) → i ≢ k → s.disk.holders q ≡ Some i → (after (seen_by k s.disk) e).rights q ≡ Some Other
  seen_other q i ne h = others_right (seen_by k s.disk) e q own agrees (ap (holder_for k) h ∙ other_holder k i ne)

  pub stay_called : (q : List ℕ) (i : ℕ) → i ≢ k → s.disk.holders q ≡ Some i → holder_then k (s.disk.holders q) ((after (seen_by k s.disk) e).rights q) ≡ Some i
  stay_called q i ne h = ap (holder_then k (s.disk.holders q)) (seen_other q i ne h) ∙ h

  pub stay_stopped : (q : List ℕ) (i : ℕ) → i ≢ k → s.disk.holders q ≡ Some i → holder_then k (s.disk.holders q) (without_own ((after (seen_by k s.disk) e).rights q)) ≡ Some i
  stay_stopped q i ne h = ap (λ (r : Option Holder). holder_then k (s.disk.holders q) (without_own r)) (seen_other q i ne h) ∙ h

  pub touch : Touches a.name (seen_by k s.disk) e
  touch = subst (λ (z : List ℕ). Touches z (seen_by k s.disk) e) (job_name a t) (own_touches (job_of a t) (seen_by k s.disk) sound (state_of a t past) e is agrees known)

  -- a record of the own token stands then only if the right was had
  had_right : (r : Record) → standing_in (after (seen_by k s.disk) e).files a.name ≡ Some r → r.token ≡ a.token → HasRight a.name (seen_by k s.disk)
  had_right r stands same = go (holder_for k (s.disk.holders (right_name a.name))) refl
    where
      before : (HasRight a.name (seen_by k s.disk) → ⊥) → HasRight a.name (seen_by k s.disk)
      before hasnt =
          let file = untouched a.name (seen_by k s.disk) e (record_name a.name) touch (λ w. hasnt (with_right a.name (seen_by k s.disk) (record_name a.name) w)) in
          ap (holder_for k) (g.by_right k a (Bracket t past) r at (λ p. absurd (cc)) (sym (ap record_in file) ∙ stands) same) ∙ own_holder k

      go : (o : Option Holder) → holder_for k (s.disk.holders (right_name a.name)) ≡ o → HasRight a.name (seen_by k s.disk)
      go None h = before (λ w. absurd (let v : ◌≡◌ {A = Option Holder} None (Some Own) = sym h ∙ w in cc))
      go (Some Own) h = h
      go (Some Other) h = before (λ w. absurd (let v : Some Other ≡ Some Own = sym h ∙ w in cc))

  right_then : is_over (state_of a t (past ++ Shown e ∷ [])) ≡ false → (r : Record) → standing_in (after (seen_by k s.disk) e).files a.name ≡ Some r → r.token ≡ a.token
      → holder_then k (s.disk.holders (right_name a.name)) ((after (seen_by k s.disk) e).rights (right_name a.name)) ≡ Some k
  right_then going r stands same =
      let still : is_over (on_time (after_reply (job_of a t) (state_of a t past) (reply e))) ≡ false = subst (λ (z : State). is_over z ≡ false) (state_shown a t past e) going in
      ap (holder_then k (s.disk.holders (right_name a.name)))
      (own_right (seen_by k s.disk) e (right_name a.name) own (goes_on_with (job_of a t) (state_of a t past) e is still) (had_right r stands same))

  allowed_of : (changes : List CoreChange) (moment : ℤ) → t ≡ task.Commit changes moment → may_commit (actors_of s) a changes ≡ true
  allowed_of changes moment same = g.allowed k a changes moment past (subst (λ (z : Task). IsActor s k a (Bracket z past)) same at)

changed_with : (s : CoreState) (g : Ground s) (k : ℕ) (a : Actor) (t : Task) (past : List Past) → IsActor s k a (Bracket t past) → (e : Event) → IsNext (next (job_of a t) (state_of a t past)) e
    → Agrees (seen_by k s.disk) e → (holders : List ℕ → Option ℕ) → ((q : List ℕ) (i : ℕ) → i ≢ k → s.disk.holders q ≡ Some i → holders q ≡ Some i)
    → IsChanged s k (record { files = (after (seen_by k s.disk) e).files; locks = (after (seen_by k s.disk) e).locks; holders = holders })
changed_with s g k a (task.Commit changes moment) past at e is agrees holders stay =
    Around.changed s g k (job_of a (task.Commit changes moment)) (g.job k a (task.Commit changes moment) past at)
    (Bracket (task.Commit changes moment) past) at (state_of a (task.Commit changes moment) past) e is agrees (g.knows k a (task.Commit changes moment) past at)
    (job_free s.members a changes moment (g.allowed k a changes moment past at)) holders stay
changed_with s g k a task.Recover past at e is agrees holders stay =
    Around.changed s g k (job_of a task.Recover) (g.job k a task.Recover past at) (Bracket task.Recover past) at (state_of a task.Recover past) e is agrees (g.knows k a task.Recover past at)
    (λ b n mb mn. absurd mn) holders stay

module _ (s : CoreState) (g : Ground s) (k : ℕ) (a : Actor) (t : Task) (past : List Past) (at : IsActor s k a (Bracket t past)) (e : Event)
    (is : IsNext (next (job_of a t) (state_of a t past)) e) (agrees : Agrees (seen_by k s.disk) e) where
  pub changed_called : IsChanged s k (disk_then k s.disk (after (seen_by k s.disk) e))
  changed_called = changed_with s g k a t past at e is agrees (λ q. holder_then k (s.disk.holders q) ((after (seen_by k s.disk) e).rights q)) (stay_called s g k a t past at e is agrees)

  pub changed_stopped : IsChanged s k (disk_then k s.disk (ended (after (seen_by k s.disk) e)))
  changed_stopped = changed_with s g k a t past at e is agrees
      (λ q. holder_then k (s.disk.holders q) (without_own ((after (seen_by k s.disk) e).rights q))) (stay_stopped s g k a t past at e is agrees)

  proper_called : IsProper s k a (disk_then k s.disk (after (seen_by k s.disk) e)) (doing_then a t past (Shown e))
  proper_called = proper_at s k a (disk_then k s.disk (after (seen_by k s.disk) e)) t (past ++ Shown e ∷ []) (g.job k a t past at) (allowed_of s g k a t past at e is agrees)
      (state_of a t (past ++ Shown e ∷ [])) refl
      (subst (λ (z : Disk). Knows (job_of a t) (state_of a t (past ++ Shown e ∷ [])) z) (sym (seen-own k s.disk e (own s g k a t past at e is agrees))) (knows_then s g k a t past at e is agrees))
      (right_then s g k a t past at e is agrees)

  pub ground_called : Ground (after_turn s k (record { actor = a; doing = Bracket t past }) (shown a t past (seen_by k s.disk) e))
  ground_called = ground_then s g k a (Bracket t past) at (disk_then k s.disk (after (seen_by k s.disk) e)) changed_called
      (doing_then a t past (Shown e)) proper_called (s.places ++ passed_at a t e (seen_by k s.disk))

  pub ground_cut : Ground (then_state s k a (disk_then k s.disk (ended (after (seen_by k s.disk) e))) Stopped (s.places ++ passed_at a t e (seen_by k s.disk)))
  ground_cut = ground_then s g k a (Bracket t past) at (disk_then k s.disk (ended (after (seen_by k s.disk) e))) changed_stopped Stopped tt (s.places ++ passed_at a t e (seen_by k s.disk))

-- the record that stands then is the one that stood, or one of the own token
pub record_from : (s : CoreState) (g : Ground s) (k : ℕ) (a : Actor) (t : Task) (past : List Past) → IsActor s k a (Bracket t past) → (e : Event) → IsNext (next (job_of a t) (state_of a t past)) e
    → Agrees (seen_by k s.disk) e
    → (r : Record) → standing_in (after (seen_by k s.disk) e).files a.name ≡ Some r → (standing_in s.disk.files a.name ≡ Some r) ⊎ (r.token ≡ a.token)
record_from s g k a (task.Commit changes moment) past at e is agrees r stands =
    elim (Around.record_then s g k (job_of a (task.Commit changes moment)) (g.job k a (task.Commit changes moment) past at)
    (Bracket (task.Commit changes moment) past) at (state_of a (task.Commit changes moment) past) e is agrees (g.knows k a (task.Commit changes moment) past at)
    (job_free s.members a changes moment (g.allowed k a changes moment past at))
    (λ q. holder_then k (s.disk.holders q) ((after (seen_by k s.disk) e).rights q)) (stay_called s g k a (task.Commit changes moment) past at e is agrees)
    a.name (mem s g k a (task.Commit changes moment) past at e is agrees) r stands) [ inl w ↦ inl w | inr w ↦ inr w.1 ]
record_from s g k a task.Recover past at e is agrees r stands =
    elim (Around.record_then s g k (job_of a task.Recover) (g.job k a task.Recover past at) (Bracket task.Recover past) at (state_of a task.Recover past) e is agrees (g.knows k a task.Recover past at)
    (λ b n mb mn. absurd mn) (λ q. holder_then k (s.disk.holders q) ((after (seen_by k s.disk) e).rights q)) (stay_called s g k a task.Recover past at e is agrees)
    a.name (mem s g k a task.Recover past at e is agrees) r stands) [ inl w ↦ inl w | inr w ↦ inr w.1 ]
