-- What all members in a bracket saw and left is so, and each right is had by the member whose bracket took it.
use Rattle.std.proofs.Common.{◌≡◌, ◌≢◌, ◌⊎◌, ◌==◌, ℕ, true, false, List, Some, refl, ap, sym, subst, inl, inr}
use Rattle.std.proofs.lemmas.Bool.{cases_Bool, eqb-true, eq-eqb}
use Rattle.commit_machine.specs.Names.{right_name}
use Rattle.core_steps.specs.declared.actor.Actor.{Actor}
use Rattle.core_steps.specs.declared.actor.Task.{Task}
use Rattle.core_steps.specs.declared.actor.Past.{Past}
use Rattle.core_steps.specs.declared.actor.Doing.{Doing}
use Rattle.core_steps.specs.declared.actor.Doing.TheVariants.{Nothing, Bracket, Stopped}
use Rattle.core_steps.specs.declared.actor.Member.{Member}
use Rattle.core_steps.specs.Turns.{Passed}
use Rattle.core_steps.specs.Cores.{CoreDisk, CoreState}
use Rattle.core_steps.proofs.Settled.{both}
use Rattle.core_steps.proofs.Fact.{IsActor, files_seen, locks_seen, right_sights}
use Rattle.core_steps.proofs.Members.{member_then, member_new, member_kept}
use Rattle.core_steps.proofs.Changed.{IsChanged, then_state}
use Rattle.core_fact.proofs.Remembered.{IsRemembered, others_remember}

abbrev pub IsPastKept : CoreDisk → ℕ → Actor → List Past → Type 0
IsPastKept d k a past = IsRemembered d k a (right_sights false past) (files_seen past) (locks_seen past)

-- the member that has a right, whose bracket took it
abbrev pub IsTaker : CoreState → List ℕ → ℕ → Type 0
IsTaker s q k = (a : Actor) × (t : Task) × (past : List Past) × IsActor s k a (Bracket t past) × (q ≡ right_name a.name) × (right_sights false past ≡ true)

pub record Memory (s : CoreState) : Type 0 where
  pub remembered : (k : ℕ) (a : Actor) (t : Task) (past : List Past) → IsActor s k a (Bracket t past) → IsPastKept s.disk k a past
  pub holder : (q : List ℕ) (k : ℕ) → s.disk.holders q ≡ Some k → IsTaker s q k

-- what the step is to give of the member's own
abbrev pub IsOwnKept : CoreDisk → ℕ → Actor → Doing → Type 0
IsOwnKept now k a (Bracket t past) = IsPastKept now k a past
IsOwnKept now k a doing = Unit {0}

-- if the member has a right then, its bracket goes on and took it
abbrev pub IsOwnTaker : Actor → Doing → List ℕ → Type 0
IsOwnTaker a (Bracket t past) q = (q ≡ right_name a.name) × (right_sights false past ≡ true)
IsOwnTaker a doing q = ⊥

same_or_other : (i k : ℕ) → (i ≡ k) ⊎ (i ≢ k)
same_or_other i k = elim (cases_Bool (i == k)) [ inl y ↦ inl (eqb-true i k y) | inr nay ↦ inr (λ e. both (i == k) (eq-eqb i k e) nay) ]

module _ (s : CoreState) (memory : Memory s) (k : ℕ) (a : Actor) (old : Doing) (at : IsActor s k a old) (now : CoreDisk) (c : IsChanged s k now)
    (stay : (q : List ℕ) (i : ℕ) → i ≢ k → s.disk.holders q ≡ Some i → now.holders q ≡ Some i)
    (back : (q : List ℕ) (i : ℕ) → i ≢ k → now.holders q ≡ Some i → s.disk.holders q ≡ Some i)
    (new : Doing) (own : IsOwnKept now k a new) (taker : (q : List ℕ) → now.holders q ≡ Some k → IsOwnTaker a new q) (places : List Passed) where
  of_new : (doing : Doing) (i : ℕ) (b : Actor) (t : Task) (past : List Past) → i ≡ k → b ≡ a → Bracket t past ≡ doing → IsOwnKept now k a doing → IsPastKept now i b past
  of_new doing i b t past p q r kept = subst (λ (z : ℕ). IsPastKept now z b past) (sym p)
      (subst (λ (z : Actor). IsPastKept now k z past) (sym q) (subst (λ (z : Doing). IsOwnKept now k a z) (sym r) kept))

  new_taker : (doing : Doing) (q : List ℕ) → new ≡ doing → IsOwnTaker a doing q → IsTaker (then_state s k a now new places) q k
  new_taker Nothing q e w = absurd w
  new_taker Stopped q e w = absurd w
  new_taker (Bracket t past) q e w = (
    a,
    t,
    past,
    subst (λ (z : Doing). IsActor (then_state s k a now new places) k a z) e
        (member_new s.members k (record { actor = a; doing = old }) (record { actor = a; doing = new }) at),
    w.0,
    w.1,
  )

  taker_kept : (q : List ℕ) (i : ℕ) → now.holders q ≡ Some i → IsTaker (then_state s k a now new places) q i
  taker_kept q i h = elim (same_or_other i k) [
    | inl p ↦ subst (λ (z : ℕ). IsTaker (then_state s k a now new places) q z) (sym p) (new_taker new q refl (taker q (subst (λ (z : ℕ). now.holders q ≡ Some z) p h)))
    | inr p ↦
        let w = memory.holder q i (back q i p h) in
        (w.0, w.1, w.2, member_kept s.members k i (record { actor = a; doing = old }) (record { actor = a; doing = new }) (record { actor = w.0; doing = Bracket w.1 w.2 }) at p w.3, w.4, w.5)
  ]

  pub memory_then : Memory (then_state s k a now new places)
  memory_then = record {
    remembered = λ i b t past h. elim (member_then s.members k i (record { actor = a; doing = old }) (record { actor = a; doing = new }) (record { actor = b; doing = Bracket t past }) at h) [
      | inl w ↦ of_new new i b t past w.0 (ap (λ (m : Member). m.actor) w.1) (ap (λ (m : Member). m.doing) w.1) own
      | inr w ↦ others_remember s.disk now i b (c.keeps i b (Bracket t past) w.1 w.0 (λ e. absurd (cc))) (stay (right_name b.name) i w.0)
          (back (right_name b.name) i w.0) (right_sights false past) (files_seen past) (locks_seen past) (memory.remembered i b t past w.1)
    ];
    holder = taker_kept;
  }
