-- The fact after a step that leaves the disk: a bracket begins, memory is wanted, or a member stops outside one.
use Rattle.std.proofs.Common.{◌≡◌, ◌==◌, ℕ, ℤ, Bool, true, false, List, [], ◌∷◌, ◌++◌, Option, Some, None, if◌then◌else◌, refl, ap, sym, subst}
use Rattle.std.proofs.lemmas.Bool.{eqb-true}
use Rattle.commit_record.specs.declared.record.Record.{Record}
use Rattle.host_port.specs.declared.event.Holder.TheVariants.{Own, Other}
use Rattle.host_port.specs.Disk.{Disk}
use Rattle.commit_machine.specs.Names.{right_name}
use Rattle.commit_machine.specs.Machine.{State}
use Rattle.commit_machine.proofs.standing.Known.{Knows, Keeps}
use Rattle.commit_machine.proofs.standing.KnownNext.{knows_refused}
use Rattle.core_steps.specs.declared.change.CoreChange.{CoreChange}
use Rattle.core_steps.specs.declared.actor.Actor.{Actor}
use Rattle.core_steps.specs.declared.actor.Task.{Task}
use Rattle.core_steps.specs.declared.actor.Task.TheVariants as task
use Rattle.core_steps.specs.declared.actor.Past.{Past}
use Rattle.core_steps.specs.declared.actor.Past.TheVariants.{Wanted}
use Rattle.core_steps.specs.declared.actor.Doing.{Doing}
use Rattle.core_steps.specs.declared.actor.Doing.TheVariants.{Nothing, Bracket, Stopped}
use Rattle.core_steps.specs.Tasks.{job_of, state_of}
use Rattle.core_steps.specs.Turns.{Passed, may_commit, doing_then, wanting, staying}
use Rattle.core_steps.specs.Cores.{CoreDisk, CoreState, holder_for, seen_by, holder_then, disk_then, actors_of, after_turn}
use Rattle.core_steps.specs.Settling.{standing_in}
use Rattle.core_steps.proofs.Views.{same_at}
use Rattle.core_steps.proofs.Fact.{IsActor}
use Rattle.core_steps.proofs.Ground.{Ground}
use Rattle.core_steps.proofs.Changed.{IsChanged, IsProper, then_state, ground_then}
use Rattle.core_fact.proofs.JobIs.{job_is, recovery_is}
use Rattle.core_steps.proofs.Turning.{state_wanted, proper_at}

-- the changes of a task may be committed
abbrev AllowedFor : List Actor → Actor → Task → Type 0
AllowedFor actors a (task.Commit cs m) = may_commit actors a cs ≡ true
AllowedFor actors a task.Recover = Unit {0}

-- who has a right, seen by a member and told back
back_again : (k : ℕ) (o : Option ℕ) → holder_then k o (holder_for k o) ≡ o
back_again k None = refl
back_again k (Some i) = go (i == k) refl
  where
    go : (b : Bool) → (i == k) ≡ b → holder_then k (Some i) (if b then Some Own else Some Other) ≡ Some i
    go true e = ap Some (sym (eqb-true i k e))
    go false e = refl

pub same_disk : (k : ℕ) (d : CoreDisk) → disk_then k d (seen_by k d) ≡ d
same_disk k d = ap (λ (h : List ℕ → Option ℕ). record { files = d.files; locks = d.locks; holders = h }) (same_at (λ q. back_again k (d.holders q)))

all_kept : (actor : List ℕ) (t : ℕ) (d : Disk) → Keeps actor t d d
all_kept actor t d = record {
  right = λ h. h;
  own = record { staged = λ m. refl; lock = λ m h. h; free = λ m h. h; file = λ m h. refl };
  fresh = λ r h. h;
  records = λ n h so. refl;
  found = λ r h stands. record { staged = λ m. refl; lock = λ m x. x; free = λ m x. x; file = λ m mm x. refl };
}

module _ (s : CoreState) (g : Ground s) (k : ℕ) (a : Actor) where
  pub unchanged : IsChanged s k s.disk
  unchanged = record {
    orderly = g.orderly;
    home = g.token_at_home;
    lock = g.lock_named;
    staged = g.staged_named;
    keeps = λ i b x one ne live. all_kept b.name b.token (seen_by i s.disk);
    rights = λ i b x r one ne live stands same. g.by_right i b x r one live stands same;
  }

  -- the member does this now, and the disk is as it was
  pub ground_staying : (old new : Doing) → IsActor s k a old → IsProper s k a s.disk new → (places : List Passed) → Ground (then_state s k a (disk_then k s.disk (seen_by k s.disk)) new places)
  ground_staying old new at proper places = subst (λ (z : CoreDisk). Ground (then_state s k a z new places)) (sym (same_disk k s.disk)) (ground_then s g k a old at s.disk unchanged new proper places)

  pub ground_wanted : (t : Task) (past : List Past) → IsActor s k a (Bracket t past) → Ground (after_turn s k (record { actor = a; doing = Bracket t past }) (wanting a t past (seen_by k s.disk)))
  ground_wanted t past at = ground_staying (Bracket t past) (doing_then a t past Wanted) at
      (proper_at s k a s.disk t (past ++ Wanted ∷ []) (g.job k a t past at) (λ changes moment same. g.allowed k a changes moment past (subst (λ (z : Task). IsActor s k a (Bracket z past)) same at))
      (state_of a t (past ++ Wanted ∷ [])) refl
      (subst (λ (z : State). Knows (job_of a t) z (seen_by k s.disk)) (sym (state_wanted a t past)) (knows_refused (job_of a t) (seen_by k s.disk) (state_of a t past) (g.knows k a t past at)))
      (λ going r stands same. g.by_right k a (Bracket t past) r at (λ e. absurd (cc)) stands same))
      (s.places ++ [])

  right_from_nothing : IsActor s k a Nothing → (r : Record) → standing_in s.disk.files a.name ≡ Some r → r.token ≡ a.token → s.disk.holders (right_name a.name) ≡ Some k
  right_from_nothing at r stands same = g.by_right k a Nothing r at (λ e. absurd (cc)) stands same

  pub ground_commits : (changes : List CoreChange) (moment : ℤ) → IsActor s k a Nothing → may_commit (actors_of s) a changes ≡ true
      → Ground (after_turn s k (record { actor = a; doing = Nothing }) (staying (seen_by k s.disk) (Bracket (task.Commit changes moment) [])))
  ground_commits changes moment at may = ground_staying Nothing (Bracket (task.Commit changes moment) []) at
      (record {
        job = job_is (actors_of s) a changes may moment (g.fit k a Nothing at);
        allowed = λ cs m same. subst (AllowedFor (actors_of s) a) same may;
        knows = g.left_nothing k a at;
        not_over = refl;
        right = right_from_nothing at;
      })
      (s.places ++ [])

  pub ground_recovers : IsActor s k a Nothing → Ground (after_turn s k (record { actor = a; doing = Nothing }) (staying (seen_by k s.disk) (Bracket task.Recover [])))
  ground_recovers at = ground_staying Nothing (Bracket task.Recover []) at
      (record {
        job = recovery_is a (g.fit k a Nothing at);
        allowed = λ cs m same. absurd (cc);
        knows = g.left_nothing k a at;
        not_over = refl;
        right = right_from_nothing at;
      })
      (s.places ++ [])

  pub ground_leaves : IsActor s k a Nothing → Ground (after_turn s k (record { actor = a; doing = Nothing }) (staying (seen_by k s.disk) Stopped))
  ground_leaves at = ground_staying Nothing Stopped at tt (s.places ++ [])
