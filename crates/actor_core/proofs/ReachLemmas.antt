-- What a step of a core leaves: the state is a reached one, the settled files are those before it with the changes that came, and messages stay.
use Rattle.std.proofs.Common.{◌≡◌, ℕ, Bool, List, [], ◌∷◌, ◌++◌, Option, Some, None, refl, ap, sym, subst, ◌∙◌}
use Rattle.std.specs.Prelude.{All}
use Rattle.std.proofs.lemmas.List.{append_cancel_left, append-nil}
use Rattle.std.proofs.lemmas.List.Elements.{All-head, All-tail}
use Rattle.folder_change.specs.ListLaws.{list_of_file}
use Rattle.commit_machine.specs.Settled.{Files, Mem}
use Rattle.core_steps.specs.declared.step.CoreStep.{CoreStep}
use Rattle.core_steps.specs.Changes.{apply_each}
use Rattle.core_steps.specs.Turns.{Passed}
use Rattle.core_steps.specs.Cores.{CoreState, stepped, or_else, all_steps, SameCore}
use Rattle.core_steps.specs.Settling.{changed_by}
use Rattle.core_steps.specs.Starts.{begun}
use Rattle.core_steps.specs.Theorem.{settled_files, IsReached, IsChangedFrom, Settles, Stands, AllLeave}
use Rattle.actor_core.specs.Answers.{StepsTo, Steps, KeepsMessages}
use Rattle.actor_core.specs.Shown.{Held, state_shown}
use Rattle.core_fact.proofs.Messages.{messages_stay}
use Rattle.core_fact.proofs.Interleavings.{same_core, changed_more, each_step_settles}

all_at_end : (s : CoreState) (steps : List CoreStep) (step : CoreStep) → all_steps s (steps ++ step ∷ []) ≡ or_else (all_steps s steps) (stepped (all_steps s steps) step)
all_at_end s [] step = refl
all_at_end s (x ∷ steps) step = all_at_end (or_else s (stepped s x)) steps step

-- what a step makes of a reached state is reached
pub reached_more : (s now x : CoreState) (step : CoreStep) → IsReached s → stepped s step ≡ Some now → SameCore x now → IsReached x
reached_more s now x step r h same = record {
  files = r.files;
  locks = r.locks;
  actors = r.actors;
  steps = r.steps ++ step ∷ [];
  may_begin = r.may_begin;
  is = subst (SameCore x) (sym end) same;
}
  where
    end : all_steps (begun r.files r.locks r.actors) (r.steps ++ step ∷ []) ≡ now
    end =
        let same_before : s ≡ all_steps (begun r.files r.locks r.actors) r.steps = same_core s (all_steps (begun r.files r.locks r.actors) r.steps) r.is in
        all_at_end (begun r.files r.locks r.actors) r.steps step
        ∙ ap (λ (z : CoreState). or_else z (stepped z step)) (sym same_before)
        ∙ ap (or_else s) h

-- a message stands after commit places that leave it
stands_after : (ps : List Passed) (files : Files) (name text : List ℕ) → All (λ p. AllLeave name text p.1) ps → Stands files name text → Stands (changed_by ps files) name text
stands_after [] files name text leave stands = stands
stands_after (p ∷ ps) files name text leave stands =
    stands_after ps (apply_each p.1 files) name text (All-tail (λ (p : Passed). AllLeave name text p.1) p ps leave)
    (messages_stay p.1 files name text (All-head (λ (p : Passed). AllLeave name text p.1) p ps leave) stands)

-- so the messages of the settled files stay, if the commit places of a step leave them
pub keeps_messages : (old now : CoreState) (more : List Passed) → Settles old now more → KeepsMessages old now
keeps_messages old now more settles name text came places leave stands =
    let same : more ≡ came = append_cancel_left old.places more came (sym settles.places ∙ places) in
    let there = stands_after came (settled_files old) name text leave stands in
    subst (λ (file : Option (List ℕ)). (texts : List (List ℕ)) × (list_of_file file ≡ Some texts) × Mem text texts)
    (sym (settles.files name ∙ ap (λ (ps : List Passed). changed_by ps (settled_files old) name) same)) there

-- whatever files the settled ones are the changed ones of
pub changed_kept : (start : Files) (old now : CoreState) (more : List Passed) → Settles old now more → IsChangedFrom start old → IsChangedFrom start now
changed_kept start old now more settles from = changed_more start old now more from settles

step_to : (old : Held) (step : CoreStep) (o : Option CoreState) → stepped (state_shown old) step ≡ o → (done : Bool) (now : Held) → StepsTo old o done now → IsReached (state_shown old)
    → IsReached (state_shown now) × ((more : List Passed) × Settles (state_shown old) (state_shown now) more)
step_to old step None e done now w r =
    let same : state_shown old ≡ state_shown now = ap state_shown (sym w.1) in
    (subst IsReached same r, ([], subst (λ (z : CoreState). Settles (state_shown old) z []) same (record { places = sym (append-nil old.places); files = λ n. refl })))
step_to old step (Some next) e done now w r =
    let v = each_step_settles (state_shown old) next step r e in (
      reached_more (state_shown old) next (state_shown now) step r e w.1,
      (v.0, subst (λ (z : CoreState). Settles (state_shown old) z v.0) (sym (same_core (state_shown now) next w.1)) v.1),
    )

-- what a step leaves of a reached state, allowed or not
pub steps_settle : (old : Held) (step : CoreStep) (done : Bool) (now : Held) → Steps old step done now → IsReached (state_shown old)
    → IsReached (state_shown now) × ((more : List Passed) × Settles (state_shown old) (state_shown now) more)
steps_settle old step done now w r = step_to old step (stepped (state_shown old) step) refl done now w r
