-- The job of changes with one base is that of these changes beside it.
use Rattle.std.proofs.Common.{◌≡◌, ℕ, ℤ, List, [], ◌∷◌, map, Option, Some, refl, ap, ◌∙◌}
use Rattle.std.specs.Option.{option_map}
use Rattle.folder_change.specs.declared.change.Change.{Change}
use Rattle.folder_change.specs.declared.change.Change.TheVariants.{Rewrite, Add, Front, AddRaw}
use Rattle.folder_change.specs.Changes.{name_of}
use Rattle.folder_change.specs.Apply.{Files, after, apply, outcome_on}
use Rattle.folder_change.specs.Outcomes.{outcome_of}
use Rattle.commit_machine.specs.Refusals.{ChangeRefusal, first_refusal, refusal_of, or_else}
use Rattle.commit_machine.specs.Jobs.{Edit, Outcome}
use Rattle.commit_machine.specs.Edits.{first_names, only_adds, outcome_for, edit_for, edits_for, cause_of, timed_for}
use Rattle.core_steps.specs.declared.actor.Task.TheVariants.{Commit}
use Rattle.core_steps.specs.Changes.{change_of, base_of, plain, file_of, after_one, apply_each, first_refusal_each, edit_of, edits_of_all}
use Rattle.core_steps.specs.Tasks.{job_of}
use Rattle.core_steps.specs.Shown.{with_base}
use Rattle.core_steps.proofs.Views.{same_at}

module _ (base : List (List ℕ)) where
  change-same : (c : Change) → change_of (with_base base c) ≡ c
  change-same (Rewrite name list keep) = refl
  change-same (Add name texts) = refl
  change-same (Front name texts) = refl
  change-same (AddRaw name bytes) = refl

  plain-same : (cs : List Change) → plain (map (with_base base) cs) ≡ cs
  plain-same [] = refl
  plain-same (c ∷ cs) = ap (λ (z : Change). z ∷ plain (map (with_base base) cs)) (change-same c) ∙ ap (λ (zs : List Change). c ∷ zs) (plain-same cs)

  outcome-same : (files : Files) (c : Change) → outcome_on files (change_of (with_base base c)) (base_of (with_base base c)) ≡ outcome_on files c base
  unfolding outcome_of
  outcome-same files (Rewrite name list keep) = refl
  outcome-same files (Add name texts) = refl
  outcome-same files (Front name texts) = refl
  outcome-same files (AddRaw name bytes) = refl

  after-same : (files : Files) (c : Change) → after_one files (with_base base c) ≡ after files c base
  unfolding outcome_of
  after-same files (Rewrite name list keep) = refl
  after-same files (Add name texts) = refl
  after-same files (Front name texts) = refl
  after-same files (AddRaw name bytes) = refl

  apply-same : (cs : List Change) (files : Files) → apply_each (map (with_base base) cs) files ≡ apply cs base files
  unfolding apply_each apply
  apply-same [] files = refl
  apply-same (c ∷ cs) files = ap (apply_each (map (with_base base) cs)) (after-same files c) ∙ apply-same cs (after files c base)

  file-same : (c : Change) → file_of (with_base base c) ≡ name_of c
  file-same c = ap name_of (change-same c)

  refusal-same : (cs : List Change) (files : Files) → first_refusal_each (map (with_base base) cs) files ≡ first_refusal cs base files
  unfolding first_refusal_each first_refusal
  refusal-same [] files = refl
  refusal-same (c ∷ cs) files =
      ap (λ (n : List ℕ). or_else (refusal_of n (outcome_on files (change_of (with_base base c)) (base_of (with_base base c))))
      (first_refusal_each (map (with_base base) cs) (after_one files (with_base base c)))) (file-same c)
      ∙ ap (λ o. or_else (refusal_of (name_of c) o) (first_refusal_each (map (with_base base) cs) (after_one files (with_base base c)))) (outcome-same files c)
      ∙ ap (λ (f : Files). or_else (refusal_of (name_of c) (outcome_on files c base)) (first_refusal_each (map (with_base base) cs) f)) (after-same files c)
      ∙ ap (or_else (refusal_of (name_of c) (outcome_on files c base))) (refusal-same cs (after files c base))

  edit-same : (cs : List Change) (n : List ℕ) → edit_of (map (with_base base) cs) n ≡ edit_for cs base n
  edit-same cs n =
      ap (λ (f : Option (List ℕ) → Outcome). record { name = n; by = f })
      (same_at (λ seen. ap (λ (zs : List Change). outcome_for (only_adds zs n) seen (apply_each (map (with_base base) cs) (λ m. seen) n))
      (plain-same cs) ∙ ap (λ (f : Files). outcome_for (only_adds cs n) seen (f n)) (apply-same cs (λ m. seen))))

  edits-same : (cs : List Change) → edits_of_all (map (with_base base) cs) ≡ edits_for cs base
  edits-same cs =
      ap (λ (zs : List Change). map (edit_of (map (with_base base) cs)) (first_names zs)) (plain-same cs)
      ∙ ap (λ (f : List ℕ → Edit). map f (first_names cs)) (same_at (edit-same cs))

  pub job-same : (actor : List ℕ) (token : ℕ) (time : ℤ) (cs : List Change)
      → job_of (record { name = actor; token = token }) (Commit (map (with_base base) cs) time) ≡ timed_for actor token time cs base
  job-same actor token time cs =
      ap (λ (es : List Edit). record {
        actor = actor;
        token = token;
        time = Some time;
        edits = Some es;
        refusal =
            λ files. option_map cause_of (first_refusal_each (map (with_base base) cs) files);
      }) (edits-same cs)
      ∙ ap (λ (f : Files → Option ChangeRefusal). record {
        actor = actor;
        token = token;
        time = Some time;
        edits = Some (edits_for cs base);
        refusal =
            λ files. option_map cause_of (f files);
      }) (same_at (refusal-same cs))
