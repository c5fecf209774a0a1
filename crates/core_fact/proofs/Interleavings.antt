-- The theorem of many actors: every interleaving settles to the changes of its commit places.
use Rattle.std.proofs.Common.{◌≡◌, ℕ, List, [], ◌∷◌, ◌++◌, Option, Some, None, refl, ap, sym, subst, ◌∙◌}
use Rattle.commit_machine.specs.Settled.{Files, Locks}
use Rattle.core_steps.specs.declared.step.CoreStep.{CoreStep}
use Rattle.core_steps.specs.declared.actor.Actor.{Actor}
use Rattle.core_steps.specs.declared.actor.Member.{Member}
use Rattle.core_steps.specs.Changes.{apply_each}
use Rattle.core_steps.specs.Turns.{Passed, Turn}
use Rattle.core_steps.specs.Cores.{CoreState, member_at, after_turn, stepped, or_else, all_steps, SameCore}
use Rattle.core_steps.specs.Settling.{settled_by, changed_by}
use Rattle.core_steps.specs.Starts.{begun, MayBegin}
use Rattle.core_steps.specs.Theorem.{settled_files, IsReached, IsChangedFrom, EveryInterleaving, Settles, EachStepSettles, PlacesAreFolded}
use Rattle.core_fact.proofs.Edits.{each-alone}
use Rattle.core_steps.proofs.Ground.{Ground}
use Rattle.core_fact.proofs.Memory.{Memory}
use Rattle.core_steps.proofs.Members.{same_after}
use Rattle.core_fact.proofs.Begun.{ground_begun, memory_begun}
use Rattle.core_fact.proofs.Steps.{IsGoodTurn, stepped_good}

-- what changes make of a file depends on that file alone
changed_alone : (ps : List Passed) (f g : Files) (n : List ℕ) → f n ≡ g n → changed_by ps f n ≡ changed_by ps g n
changed_alone [] f g n e = e
changed_alone (p ∷ ps) f g n e = changed_alone ps (apply_each p.1 f) (apply_each p.1 g) n (each-alone p.1 f g n e)

pub changed_both : (ps qs : List Passed) (f : Files) → changed_by (ps ++ qs) f ≡ changed_by qs (changed_by ps f)
changed_both [] qs f = refl
changed_both (p ∷ ps) qs f = changed_both ps qs (apply_each p.1 f)

pub places_are_folded : PlacesAreFolded
places_are_folded front back p files = changed_both front (p ∷ back) files

turn_settles : (s : CoreState) (k : ℕ) (m : Member) (t : Turn) → member_at s.members k ≡ Some m → IsGoodTurn s k m t → Settles s (after_turn s k m t) t.passed
turn_settles s k m t at good = record {
  places = refl;
  files = λ n. ap (λ (z : List (List ℕ)). settled_by z t.disk.files n) (same_after (λ m. m.actor.name) s.members k m (record { actor = m.actor; doing = t.doing }) at refl) ∙ good.settles n;
}

pub step_settles : (s : CoreState) → Ground s → (step : CoreStep) (now : CoreState) → stepped s step ≡ Some now → (more : List Passed) × Settles s now more
step_settles s g step now h =
    let w = stepped_good s g step now h in
    (w.1.passed, subst (λ (z : CoreState). Settles s z w.1.passed) (sym w.4) (turn_settles s step.actor w.0 w.1 w.2 w.3))

pub step_memory : (s : CoreState) → Ground s → Memory s → (step : CoreStep) (now : CoreState) → stepped s step ≡ Some now → Memory now
step_memory s g memory step now h = let w = stepped_good s g step now h in subst Memory (sym w.4) (w.3.memory memory)

pub step_ground : (s : CoreState) → Ground s → (step : CoreStep) (now : CoreState) → stepped s step ≡ Some now → Ground now
step_ground s g step now h = let w = stepped_good s g step now h in subst Ground (sym w.4) w.3.ground

-- a step keeps what the commit places make of the start
pub changed_more : (start : Files) (s now : CoreState) (more : List Passed) → IsChangedFrom start s → Settles s now more → IsChangedFrom start now
changed_more start s now more from settles n =
    settles.files n
    ∙ changed_alone more (settled_files s) (changed_by s.places start) n (from n)
    ∙ ap (λ (f : Files). f n) (sym (changed_both s.places more start))
    ∙ ap (λ (ps : List Passed). changed_by ps start n) (sym settles.places)

-- the fact, and what the commit places make of the start, after steps
pub record IsKept (start : Files) (s : CoreState) : Type 0 where
  pub ground : Ground s
  pub memory : Memory s
  pub changed : IsChangedFrom start s

after_all : (start : Files) (steps : List CoreStep) (s : CoreState) → IsKept start s → IsKept start (all_steps s steps)
after_all start [] s kept = kept
after_all start (step ∷ steps) s kept = after_all start steps (or_else s (stepped s step)) (go (stepped s step) refl)
  where
    go : (o : Option CoreState) → stepped s step ≡ o → IsKept start (or_else s o)
    go None e = kept
    go (Some now) e = let w = step_settles s kept.ground step now e in record {
      ground = step_ground s kept.ground step now e;
      memory = step_memory s kept.ground kept.memory step now e;
      changed = changed_more start s now w.0 kept.changed w.1;
    }

-- the start
kept_begun : (files : Files) (locks : Locks) (actors : List Actor) → MayBegin files locks actors → IsKept (settled_files (begun files locks actors)) (begun files locks actors)
kept_begun files locks actors may = record { ground = ground_begun files locks actors may; memory = memory_begun files locks actors may; changed = λ n. refl }

pub every_interleaving : EveryInterleaving
every_interleaving files locks actors steps may =
    (after_all (settled_files (begun files locks actors)) steps (begun files locks actors) (kept_begun files locks actors may)).changed

-- states that are the same at each name are the same
pub same_core : (x y : CoreState) → SameCore x y → x ≡ y
same_core x y h = λ i. record {
  disk = record { files = λ q. h.files q i; locks = λ q. h.locks q i; holders = λ q. h.holders q i };
  members = h.members i;
  places = h.places i;
}

pub reached_kept : (s : CoreState) → IsReached s → (start : Files) × IsKept start s
reached_kept s r = (
  settled_files (begun r.files r.locks r.actors),
  subst (IsKept (settled_files (begun r.files r.locks r.actors))) (sym (same_core s (all_steps (begun r.files r.locks r.actors) r.steps) r.is))
      (after_all (settled_files (begun r.files r.locks r.actors)) r.steps (begun r.files r.locks r.actors) (kept_begun r.files r.locks r.actors r.may_begin)),
)

pub each_step_settles : EachStepSettles
each_step_settles old now step reached h = step_settles old (reached_kept old reached).1.ground step now h
