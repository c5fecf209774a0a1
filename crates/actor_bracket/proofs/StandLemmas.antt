-- The job of a bracket, and the state that a stand is.
use Rattle.std.proofs.Common.{◌≡◌, ℕ, List, [], ◌∷◌, refl, ap, ◌∙◌, sym}
use Rattle.commit_machine.specs.Jobs.{all_names, all_of, edits_of}
use Rattle.core_steps.specs.declared.change.CoreChange.{CoreChange}
use Rattle.core_steps.specs.declared.actor.Actor.{Actor}
use Rattle.core_steps.specs.declared.actor.Task.{Task}
use Rattle.core_steps.specs.declared.actor.Task.TheVariants.{Commit, Recover}
use Rattle.core_steps.specs.Changes.{files_named}
use Rattle.core_steps.specs.Tasks.{job_of}
use Rattle.actor_bracket.specs.Stands.{changes_of, edits_as}

pub job_actor : (a : Actor) (t : Task) → (job_of a t).actor ≡ a.name
job_actor a (Commit changes moment) = refl
job_actor a Recover = refl

pub job_token : (a : Actor) (t : Task) → (job_of a t).token ≡ a.token
job_token a (Commit changes moment) = refl
job_token a Recover = refl

pub job_edits : (a : Actor) (t : Task) → edits_as (changes_of t) (files_named (changes_of t)) ≡ edits_of (job_of a t)
job_edits a (Commit changes moment) = refl
job_edits a Recover = refl

names_back : (cs : List CoreChange) (names : List (List ℕ)) → all_names (edits_as cs names) ≡ names
names_back cs [] = refl
names_back cs (n ∷ ns) = ap (λ (ms : List (List ℕ)). n ∷ ms) (names_back cs ns)

pub job_names : (a : Actor) (t : Task) → files_named (changes_of t) ≡ all_of (job_of a t)
job_names a t = sym (ap all_names (sym (job_edits a t)) ∙ names_back (changes_of t) (files_named (changes_of t)))
