-- A call that comes next in what its actor is to do touches what is the actor's alone.
use Rattle.std.proofs.Common.{◌≡◌, ◌⊎◌, ℕ, List, [], ◌∷◌, ◌++◌, refl, ap, sym, subst, inl, inr, ◌∙◌}
use Rattle.host_port.specs.declared.event.Event.{Event}
use Rattle.host_port.specs.Ran.{Agrees}
use Rattle.commit_machine.specs.Names.{right_name}
use Rattle.commit_machine.specs.Settled.{IsSoundAt}
use Rattle.commit_machine.specs.Machine.{State, Seizing, Timing, ToSeize, next, refused}
use Rattle.commit_machine.specs.Goes.{IsOf, IsNext, Goes, asks, seizes}
use Rattle.commit_machine.proofs.standing.Known.{Knows}
use Rattle.commit_machine.proofs.standing.KnownNext.{knows_refused}
use Rattle.core_steps.specs.declared.actor.Actor.{Actor}
use Rattle.core_steps.specs.declared.actor.Task.{Task}
use Rattle.core_steps.specs.declared.actor.Past.{Past}
use Rattle.core_steps.specs.declared.actor.Doing.{Doing}
use Rattle.core_steps.specs.declared.actor.Doing.TheVariants.{Nothing, Bracket, Stopped}
use Rattle.core_steps.specs.Tasks.{job_of, on_time}
use Rattle.core_steps.specs.Cores.{CoreState, seen_by}
use Rattle.core_steps.specs.Programs.{Work, for_task, AreWorks}
use Rattle.core_steps.proofs.Fact.{IsActor}
use Rattle.core_steps.proofs.Ground.{Ground}
use Rattle.core_steps.proofs.Members.{member_named}
use Rattle.core_steps.proofs.Changed.{job_name}
use Rattle.core_steps.proofs.Turning.{knows_on_time}
use Rattle.core_steps.proofs.Touching.{Touches, own_touches}
use Rattle.core_fact.proofs.CleanUps.{refused-on_time}
use Rattle.core_fact.proofs.Futures.{Acts, Inside, Will, one_or_over}

head_event : (t u : Task) (e x : Event) (xs ys : Acts) → (u, e) ∷ xs ≡ (t, x) ∷ ys → x ≡ e
head_event t u e x xs ys is = let p : ◌≡◌ {A = Task × Event} (u, e) (t, x) = cc in sym (ap (λ (p : Task × Event). p.1) p)

module _ (actors : List Actor) (s : CoreState) (g : Ground s) (i : ℕ) (b : Actor) (e : Event) (agrees : Agrees (seen_by i s.disk) e) where
  abbrev Is : Type 0
  Is = Touches b.name (seen_by i s.disk) e

  sound : (doing : Doing) → IsActor s i b doing → IsSoundAt b.name s.disk.files s.disk.locks
  sound doing at = g.orderly.sound b.name (member_named s.members i (record { actor = b; doing = doing }) at)

  at_start : (t : Task) → IsNext (next (job_of b t) Seizing) e → Is
  at_start t is = go (right_name (job_of b t).actor) (ap right_name (job_name b t)) e is
    where
      go : (n : List ℕ) → n ≡ right_name b.name → (x : Event) → IsOf (ToSeize n) x → Touches b.name (seen_by i s.disk) x
      go n same _ seizes = same

  -- the first of the works that are to come
  first_call : (t : Task) (es : List Event) (last : State) (u : Task) (xs more : Acts) → (u, e) ∷ xs ≡ for_task t es ++ more → Goes (job_of b t) Seizing es last
      → ((u, e) ∷ xs ≡ more) ⊎ Is
  first_call t [] last u xs more is goes = inl is
  first_call t (x ∷ es) last u xs more is goes =
      let of : IsNext (next (job_of b t) goes.0) e = subst (λ (y : Event). IsNext (next (job_of b t) goes.0) y) (head_event t u e x xs (for_task t es ++ more) is) goes.2 in
      elim goes.1 [
        | inl p ↦ inr (at_start t (subst (λ (z : State). IsNext (next (job_of b t) z) e) p of))
        | inr p ↦ absurd (subst (λ (z : State). IsNext (next (job_of b t) z) e) p of)
      ]

  outside : (ws : List Work) (u : Task) (xs : Acts) → AreWorks actors b ws ((u, e) ∷ xs) → Is
  outside [] u xs (inl h) = absurd (cc)
  outside [] u xs (inr w) = elim (first_call w.0 w.1 w.2 u xs [] (w.3 ∙ nil (for_task w.0 w.1)) w.5) [ inl h ↦ absurd (let p : (u, e) ∷ xs ≡ [] = h in cc) | inr h ↦ h ]
    where
      nil : (ys : Acts) → ys ≡ ys ++ []
      nil [] = refl
      nil (y ∷ ys) = ap (λ (zs : Acts). y ∷ zs) (nil ys)
  outside (w ∷ ws) u xs works = elim (first_call w.task w.calls _ u xs works.0 works.1 works.2.1) [
    | inl h ↦ outside ws u xs (subst (λ (z : Acts). AreWorks actors b ws z) (sym h) works.3)
    | inr h ↦ h
  ]

  -- in a bracket
  module _ (t : Task) (past : List Past) (at : IsActor s i b (Bracket t past)) where
    known_call : (st : State) → Knows (job_of b t) (on_time st) (seen_by i s.disk) → IsNext (next (job_of b t) st) e → Is
    known_call (Timing time) known is = timed e is
      where
        timed : (x : Event) → IsNext (next (job_of b t) (Timing time)) x → Touches b.name (seen_by i s.disk) x
        timed _ asks = tt
    known_call st known is =
        let there : IsSoundAt (job_of b t).actor s.disk.files s.disk.locks = subst (λ (z : List ℕ). IsSoundAt z s.disk.files s.disk.locks) (sym (job_name b t)) (sound (Bracket t past) at) in
        subst (λ (z : List ℕ). Touches z (seen_by i s.disk) e) (job_name b t) (own_touches (job_of b t) (seen_by i s.disk) there st e is agrees known)

    inside : (u : Task) (xs : Acts) → Inside actors b t past ((u, e) ∷ xs) → Is
    inside u xs f =
        let d = seen_by i s.disk in
        let known : Knows (job_of b t) (on_time f.state) d = subst (λ (z : State). Knows (job_of b t) z d) f.follows.is (g.knows i b t past at) in
        let short : Knows (job_of b t) (on_time (refused (job_of b t) f.state)) d =
        knows_on_time (job_of b t) d (refused (job_of b t) f.state)
        (subst (λ (z : State). Knows (job_of b t) z d) (refused-on_time (job_of b t) f.state) (knows_refused (job_of b t) d (on_time f.state) known)) in
        elim (one_or_over actors b t f.state u e xs f.future) [
          | inr over ↦ outside over.3.0 u xs over.3.1
          | inl one ↦ elim one.wants [
            | inl p ↦ known_call one.now (subst (λ (z : State). Knows (job_of b t) (on_time z) d) (sym p) known) one.of
            | inr p ↦ known_call one.now (subst (λ (z : State). Knows (job_of b t) (on_time z) d) (sym p) short) one.of
          ]
        ]

  pub touched : (doing : Doing) → IsActor s i b doing → (u : Task) (xs : Acts) → Will actors b doing ((u, e) ∷ xs) → Is
  touched Nothing at u xs will = outside will.0 u xs will.1
  touched (Bracket t past) at u xs will = inside t past at u xs will
  touched Stopped at u xs will = absurd (let p : (u, e) ∷ xs ≡ [] = will in cc)
