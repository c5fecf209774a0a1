-- The calls of a program, one commit or recovery after another.
use Rattle.std.proofs.Common.{◌≡◌, ◌⊎◌, true, List, [], ◌∷◌, ◌++◌, map, refl, ap, sym, subst, inl, inr, ◌∙◌}
use Rattle.std.proofs.lemmas.List.{map-append}
use Rattle.host_port.specs.declared.event.Event.{Event}
use Rattle.commit_machine.specs.Settled.{Mem}
use Rattle.commit_machine.specs.Machine.{State, Seizing}
use Rattle.commit_machine.specs.Goes.{Goes}
use Rattle.commit_driver.specs.Did.{LoadsFit}
use Rattle.commit_driver.proofs.WithinLemmas.{fits-none, fits-both}
use Rattle.core_steps.specs.declared.actor.Actor.{Actor}
use Rattle.core_steps.specs.declared.actor.Task.{Task}
use Rattle.core_steps.specs.Tasks.{job_of}
use Rattle.core_steps.specs.Programs.{Work, may_begin, for_task, IsWork}
use Rattle.session_play.specs.Committing.{Commit}
use Rattle.run_laws.specs.Programs.{IsAsked, IsProgramOf}

abbrev pub events_of : List (Task × Event) → List Event
events_of xs = map (λ x. x.1) xs

pub events_for : (t : Task) (es : List Event) → events_of (for_task t es) ≡ es
events_for t [] = refl
events_for t (e ∷ es) = ap (λ (l : List Event). e ∷ l) (events_for t es)

-- ---- what stands in a list
pub in_left : {A : Type 0} (x : A) (xs ys : List A) → Mem x xs → Mem x (xs ++ ys)
in_left x [] ys never = absurd never
in_left x (y ∷ xs) ys (inl is) = inl is
in_left x (y ∷ xs) ys (inr more) = inr (in_left x xs ys more)

pub in_right : {A : Type 0} (x : A) (xs ys : List A) → Mem x ys → Mem x (xs ++ ys)
in_right x [] ys at = at
in_right x (y ∷ xs) ys at = inr (in_right x xs ys at)

in_either : {A : Type 0} (x : A) (xs ys : List A) → Mem x (xs ++ ys) → Mem x xs ⊎ Mem x ys
in_either x [] ys at = inr at
in_either x (y ∷ xs) ys (inl is) = inl (inl is)
in_either x (y ∷ xs) ys (inr at) = elim (in_either x xs ys at) [ inl h ↦ inl (inr h) | inr h ↦ inr h ]

-- each call is for a recovery or for one of these commits
abbrev pub AreAsked : List Commit → List (Task × Event) → Type 0
AreAsked cs xs = (x : Task × Event) → Mem x xs → IsAsked cs x.0

pub asked_for : (cs : List Commit) (t : Task) (es : List Event) → IsAsked cs t → (x : Task × Event) → Mem x (for_task t es) → IsAsked cs x.0
asked_for cs t [] is x never = absurd never
asked_for cs t (e ∷ es) is x (inl same) = subst (λ (y : Task × Event). IsAsked cs y.0) (sym same) is
asked_for cs t (e ∷ es) is x (inr at) = asked_for cs t es is x at

module _ (actors : List Actor) (a : Actor) (cs : List Commit) where
  abbrev Is : List Event → Type 0
  Is es = IsProgramOf actors a cs es

  pub none : Is []
  none = record { calls = []; events = refl; program = ([], inl refl); asked = λ x never. absurd never; fit = fits-none }

  -- a commit or recovery that came to its end, and what follows it
  pub and_then : (w : Work) (ys : List Event) → IsWork actors a w → AreAsked cs (for_task w.task w.calls) → LoadsFit w.calls → Is ys → Is (w.calls ++ ys)
  and_then w ys work asked fit more = record {
    calls = for_task w.task w.calls ++ more.calls;
    events =
        map-append (λ (x : Task × Event). x.1) (for_task w.task w.calls) more.calls
        ∙ ap (λ (l : List Event). l ++ events_of more.calls) (events_for w.task w.calls) ∙ ap (λ (l : List Event). w.calls ++ l) more.events;
    program = (w ∷ more.program.0, (more.calls, refl, work, more.program.1));
    asked = λ x at. elim (in_either x (for_task w.task w.calls) more.calls at) [ inl h ↦ asked x h | inr h ↦ more.asked x h ];
    fit = fits-both w.calls ys fit more.fit;
  }

  -- one that is the last
  pub at_last : (t : Task) (es : List Event) (s : State) → may_begin actors a t ≡ true → AreAsked cs (for_task t es) → LoadsFit es → Goes (job_of a t) Seizing es s → Is es
  at_last t es s may asked fit goes = record {
    calls = for_task t es;
    events = events_for t es;
    program = ([], inr (t, es, s, refl, may, goes));
    asked = asked;
    fit = fit;
  }
