-- What a change of the disk by one member leaves of the others, and the fact of the state after it.
use Rattle.std.proofs.Common.{◌≡◌, ◌≢◌, ◌⊎◌, ◌-◌, ℕ, ℤ, true, false, List, Some, is_some, refl, ap, sym, subst, inl, inr, ◌∙◌}
use Rattle.std.specs.Prelude.{slice_set}
use Rattle.commit_record.specs.declared.record.Record.{Record}
use Rattle.commit_machine.specs.Names.{right_name, staged_name}
use Rattle.commit_machine.specs.Settled.{Mem}
use Rattle.commit_machine.specs.Jobs.{IsJob}
use Rattle.commit_machine.specs.Lawful.{IsFresh}
use Rattle.commit_machine.proofs.standing.Known.{Knows, Keeps}
use Rattle.commit_machine.proofs.standing.Others.{others_knows, others_fresh}
use Rattle.core_steps.specs.declared.change.CoreChange.{CoreChange}
use Rattle.core_steps.specs.declared.actor.Actor.{Actor}
use Rattle.core_steps.specs.declared.actor.Task.{Task}
use Rattle.core_steps.specs.declared.actor.Task.TheVariants as task
use Rattle.core_steps.specs.declared.actor.Past.{Past}
use Rattle.core_steps.specs.declared.actor.Doing.{Doing}
use Rattle.core_steps.specs.declared.actor.Doing.TheVariants.{Nothing, Bracket, Stopped}
use Rattle.core_steps.specs.declared.actor.Member.{Member}
use Rattle.core_steps.specs.Tasks.{job_of, state_of}
use Rattle.core_steps.specs.Turns.{Passed, may_commit}
use Rattle.core_steps.specs.Cores.{CoreDisk, CoreState, seen_by, actors_of, names_in}
use Rattle.core_steps.specs.Settling.{standing_in}
use Rattle.core_steps.proofs.Fact.{is_over, IsActor}
use Rattle.core_steps.proofs.Ones.{Orderly}
use Rattle.core_steps.proofs.Ground.{IsNamed, Ground}
use Rattle.core_steps.proofs.Members.{member_then, same_after}

-- the disk after a change by the member k
pub record IsChanged (s : CoreState) (k : ℕ) (now : CoreDisk) : Type 0 where
  pub orderly : Orderly (names_in s) now.files now.locks
  pub home : (i : ℕ) (b : Actor) (x : Doing) (c : List ℕ) (r : Record) → IsActor s i b x → Mem c (names_in s) → standing_in now.files c ≡ Some r → r.token ≡ b.token → c ≡ b.name
  pub lock : (i : ℕ) (b : Actor) (x : Doing) (n : List ℕ) → IsActor s i b x → now.locks n ≡ Some b.token → IsNamed now.files b.name b.token n
  pub staged : (i : ℕ) (b : Actor) (x : Doing) (n : List ℕ) → IsActor s i b x → is_some (now.files (staged_name b.token n)) ≡ true → IsNamed now.files b.name b.token n
  pub keeps : (i : ℕ) (b : Actor) (x : Doing) → IsActor s i b x → i ≢ k → x ≢ Stopped → Keeps b.name b.token (seen_by i s.disk) (seen_by i now)
  pub rights : (i : ℕ) (b : Actor) (x : Doing) (r : Record) → IsActor s i b x → i ≢ k → x ≢ Stopped → standing_in now.files b.name ≡ Some r → r.token ≡ b.token
      → now.holders (right_name b.name) ≡ Some i

-- the member itself, if its bracket goes on
pub record GoesOn (s : CoreState) (k : ℕ) (a : Actor) (now : CoreDisk) (t : Task) (past : List Past) : Type 0 where
  pub job : IsJob (job_of a t)
  pub allowed : (changes : List CoreChange) (moment : ℤ) → t ≡ task.Commit changes moment → may_commit (actors_of s) a changes ≡ true
  pub knows : Knows (job_of a t) (state_of a t past) (seen_by k now)
  pub not_over : is_over (state_of a t past) ≡ false
  pub right : (r : Record) → standing_in now.files a.name ≡ Some r → r.token ≡ a.token → now.holders (right_name a.name) ≡ Some k

abbrev pub IsProper : CoreState → ℕ → Actor → CoreDisk → Doing → Type 0
IsProper s k a now Stopped = Unit {0}
IsProper s k a now Nothing = IsFresh a.name a.token (seen_by k now)
IsProper s k a now (Bracket t past) = GoesOn s k a now t past

-- the state with this disk, in which the member does this
abbrev pub then_state : CoreState → ℕ → Actor → CoreDisk → Doing → List Passed → CoreState
then_state s k a now doing places = record { disk = now; members = slice_set s.members (k - 1) (record { actor = a; doing = doing }); places = places }

pub job_name : (a : Actor) (t : Task) → (job_of a t).actor ≡ a.name
job_name a (task.Commit changes moment) = refl
job_name a task.Recover = refl

pub job_token : (a : Actor) (t : Task) → (job_of a t).token ≡ a.token
job_token a (task.Commit changes moment) = refl
job_token a task.Recover = refl

module _ (s : CoreState) (g : Ground s) (k : ℕ) (a : Actor) (old : Doing) (at : IsActor s k a old) (now : CoreDisk) (c : IsChanged s k now)
    (new : Doing) (proper : IsProper s k a now new) (places : List Passed) where
  which : (i : ℕ) (b : Actor) (x : Doing) → IsActor (then_state s k a now new places) i b x → ((i ≡ k) × (b ≡ a) × (x ≡ new)) ⊎ ((i ≢ k) × IsActor s i b x)
  which i b x h = elim (member_then s.members k i (record { actor = a; doing = old }) (record { actor = a; doing = new }) (record { actor = b; doing = x }) at h) [
    | inl w ↦ inl (w.0, ap (λ (m : Member). m.actor) w.1, ap (λ (m : Member). m.doing) w.1)
    | inr w ↦ inr w
  ]

  was : (i : ℕ) (b : Actor) (x : Doing) → IsActor (then_state s k a now new places) i b x → (y : Doing) × IsActor s i b y
  was i b x h = elim (which i b x h) [
    | inl w ↦ (old, subst (λ (z : ℕ). IsActor s z b old) (sym w.0) (subst (λ (z : Actor). IsActor s k z old) (sym w.1) at))
    | inr w ↦ (x, w.1)
  ]

  pub names_same : names_in (then_state s k a now new places) ≡ names_in s
  names_same = same_after (λ m. m.actor.name) s.members k (record { actor = a; doing = old }) (record { actor = a; doing = new }) at refl

  pub actors_same : actors_of (then_state s k a now new places) ≡ actors_of s
  actors_same = same_after (λ m. m.actor) s.members k (record { actor = a; doing = old }) (record { actor = a; doing = new }) at refl

  -- a live member: the one that the step is of, or another
  as_new : (i : ℕ) (b : Actor) (x : Doing) → i ≡ k → b ≡ a → x ≡ new → IsProper s i b now x
  as_new i b x p q r = subst (λ (z : ℕ). IsProper s z b now x) (sym p) (subst (λ (z : Actor). IsProper s k z now x) (sym q) (subst (λ (z : Doing). IsProper s k a now z) (sym r) proper))

  keeps_job : (i : ℕ) (b : Actor) (t : Task) (past : List Past) → IsActor s i b (Bracket t past) → i ≢ k → Keeps (job_of b t).actor (job_of b t).token (seen_by i s.disk) (seen_by i now)
  keeps_job i b (task.Commit changes moment) past h ne = c.keeps i b (Bracket (task.Commit changes moment) past) h ne (λ e. absurd (cc))
  keeps_job i b task.Recover past h ne = c.keeps i b (Bracket task.Recover past) h ne (λ e. absurd (cc))

  keeps_one : (i : ℕ) (b : Actor) → IsActor s i b Nothing → i ≢ k → Keeps b.name b.token (seen_by i s.disk) (seen_by i now)
  keeps_one i b h ne = c.keeps i b Nothing h ne (λ e. absurd (cc))

  pub ground_then : Ground (then_state s k a now new places)
  ground_then = record {
    fit = λ i b x h. let w = was i b x h in g.fit i b w.0 w.1;
    one_token = λ i l b d x y h q same. let w = was i b x h in let v = was l d y q in g.one_token i l b d w.0 v.0 w.1 v.1 same;
    job = λ i b t past h. elim (which i b (Bracket t past) h) [
      | inl w ↦ (as_new i b (Bracket t past) w.0 w.1 w.2).job
      | inr w ↦ g.job i b t past w.1
    ];
    knows = λ i b t past h. elim (which i b (Bracket t past) h) [
      | inl w ↦ (as_new i b (Bracket t past) w.0 w.1 w.2).knows
      | inr w ↦ others_knows (job_of b t) (seen_by i s.disk) (seen_by i now) (keeps_job i b t past w.1 w.0) (state_of b t past) (g.knows i b t past w.1)
    ];
    not_over = λ i b t past h. elim (which i b (Bracket t past) h) [
      | inl w ↦ (as_new i b (Bracket t past) w.0 w.1 w.2).not_over
      | inr w ↦ g.not_over i b t past w.1
    ];
    left_nothing = λ i b h. elim (which i b Nothing h) [
      | inl w ↦ as_new i b Nothing w.0 w.1 w.2
      | inr w ↦ others_fresh (job_of b task.Recover) (seen_by i s.disk) (seen_by i now) (keeps_one i b w.1 w.0) (g.left_nothing i b w.1)
    ];
    allowed = λ i b changes moment past h. ap (λ (z : List Actor). may_commit z b changes) actors_same ∙ elim (which i b (Bracket (task.Commit changes moment) past) h) [
      | inl w ↦ (as_new i b (Bracket (task.Commit changes moment) past) w.0 w.1 w.2).allowed changes moment refl
      | inr w ↦ g.allowed i b changes moment past w.1
    ];
    orderly = subst (λ (z : List (List ℕ)). Orderly z now.files now.locks) (sym names_same) c.orderly;
    lock_named = λ i b x n h l. let w = was i b x h in c.lock i b w.0 n w.1 l;
    staged_named = λ i b x n h l. let w = was i b x h in c.staged i b w.0 n w.1 l;
    token_at_home = λ i b x d r h m stands same. let w = was i b x h in c.home i b w.0 d r w.1 (subst (λ (z : List (List ℕ)). Mem d z) names_same m) stands same;
    by_right = λ i b x r h live stands same. elim (which i b x h) [
      | inl w ↦ by_new i b x r (as_new i b x w.0 w.1 w.2) live stands same
      | inr w ↦ c.rights i b x r w.1 w.0 live stands same
    ];
  }
    where
      by_new : (i : ℕ) (b : Actor) (x : Doing) (r : Record) → IsProper s i b now x → x ≢ Stopped → standing_in now.files b.name ≡ Some r → r.token ≡ b.token → now.holders (right_name b.name) ≡ Some i
      by_new i b Stopped r p live stands same = absurd (live refl)
      by_new i b Nothing r p live stands same = absurd (p.record_other r stands same)
      by_new i b (Bracket t past) r p live stands same = p.right r stands same
