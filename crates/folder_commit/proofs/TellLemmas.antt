-- A commit of changes answers as its own events give it.
use Rattle.std.proofs.Common.{◌≡◌, ℕ, ℤ, true, false, List, [], ◌∷◌, map, Option, refl, ap, subst, ◌∙◌}
use Rattle.std.specs.Option.{option_map}
use Rattle.std.specs.Str.{bytes_eq}
use Rattle.std.specs.declared.result.Result.{Result}
use Rattle.std.proofs.lemmas.Bool.{false_from_ne_true}
use Rattle.std.proofs.lemmas.Slice.Eq.{bytes_eq-Decides}
use Rattle.host_port.specs.declared.event.Event.{Event}
use Rattle.folder_change.specs.declared.change.Change.{Change}
use Rattle.folder_change.specs.Changes.{name_of}
use Rattle.folder_change.specs.Outcomes.{outcome_of}
use Rattle.folder_change.specs.Apply.{apply, after}
use Rattle.commit_machine.specs.Refusals.{ChangeRefusal, first_refusal, refusal_of, or_else}
use Rattle.folder_change.proofs.ApplyLemmas.{apply-alone}
use Rattle.commit_record.specs.Names.{is_lawful}
use Rattle.commit_machine.specs.Names.{record_name, new_name, staged_name}
use Rattle.commit_machine.specs.Settled.{Files, Mem}
use Rattle.commit_machine.specs.Jobs.{Job, IsJob, edits_of, all_of}
use Rattle.commit_machine.specs.Edits.{without, first_names, timed_for, edit_for, cause_of}
use Rattle.commit_machine.proofs.records.Names.{lawful-staged}
use Rattle.commit_machine.proofs.standing.Decided.{named}
use Rattle.commit_machine.proofs.records.OfJob.{valid-plain}
use Rattle.commit_driver.proofs.SawLemmas.{AreNamed}
use Rattle.commit_driver.proofs.JudgeLemmas.{are-named}
use Rattle.folder_commit.specs.declared.error.CommitError.{CommitError}
use Rattle.folder_commit.specs.Ends.{Commits}
use Rattle.folder_commit.specs.Told.{seen_in, by_right, refusal_told, end_told, TellsFaults, TellsEnd}
use Rattle.folder_commit.proofs.PlanLemmas.{all-first, all-of-job, or-none}
use Rattle.folder_commit.proofs.WalkLemmas.{ends-told}

-- what changes are refused for depends on the files that they name
pub alike : (names : List (List ℕ)) (cs : List Change) (base : List (List ℕ)) (files others : Files) → AreNamed names cs
    → ((n : List ℕ) → Mem n names → files n ≡ others n) → first_refusal cs base files ≡ first_refusal cs base others
unfolding first_refusal apply
alike names [] base files others named same = refl
alike names (c ∷ cs) base files others named same =
    let here : files (name_of c) ≡ others (name_of c) = same (name_of c) named.0 in
    let later = alike names cs base (after files c base) (after others c base) named.1 (λ n m. apply-alone (c ∷ []) base files others n (same n m)) in
    ap (λ (f : Option (List ℕ)). or_else (refusal_of (name_of c) (outcome_of f c base)) (first_refusal cs base (after files c base))) here
    ∙ ap (λ (o : Option ChangeRefusal). or_else (refusal_of (name_of c) (outcome_of (others (name_of c)) c base)) o) later

module _ (actor : List ℕ) (token : ℕ) (time : ℤ) (c : Change) (cs : List Change) (base : List (List ℕ)) where
  abbrev job : Job
  job = timed_for actor token time (c ∷ cs) base

  -- the refusal depends on the files of the changes alone
  by-names : (f g : Files) → ((n : List ℕ) → Mem n (all_of job) → f n ≡ g n) → job.refusal f ≡ job.refusal g
  by-names f g same = ap (option_map cause_of) (alike (all_of job) (c ∷ cs) base f g (are-named (all_of job) (c ∷ cs) (all-of-job actor token (c ∷ cs) base)) same)

  -- none of them is the record
  plain-names : IsJob job → (n : List ℕ) → Mem n (all_of job) → bytes_eq n (record_name actor) ≡ false
  plain-names is n m =
      let (x, x_in, same) = named (edits_of job) n m in
      subst (λ (z : List ℕ). bytes_eq z (record_name actor) ≡ false) same (or-none (bytes_eq x.name (record_name actor)) (bytes_eq x.name (new_name actor)) (is.plain x x_in)).0

  -- nor is one a staged file
  no-staged : IsJob job → (n : List ℕ) → Mem n (all_of job) → (t : ℕ) (k : List ℕ) → bytes_eq n (staged_name t k) ≡ false
  no-staged is n m t k =
      let (x, x_in, same) = named (edits_of job) n m in
      let fine : is_lawful n ≡ true = subst (λ (z : List ℕ). is_lawful z ≡ true) same (valid-plain job is (is.valid (edits_of job) refl) x x_in).1 in
      false_from_ne_true _ (λ e. lawful-staged n t k fine ((bytes_eq-Decides n (staged_name t k)).0 e))

  pub end-told : IsJob job → (es : List Event) (result : Result Unit CommitError) → Commits job es result → TellsFaults es result
      → TellsEnd (first_names (c ∷ cs)) (end_told actor (c ∷ cs) base es) result
  end-told is es result h faults =
      let T : List (List ℕ) → Type 0 = λ ns. TellsEnd ns (by_right actor (refusal_told (c ∷ cs) base es) ns es) result in
      subst T (all-first actor token (c ∷ cs) base)
      (ends-told actor token time (edit_for (c ∷ cs) base (name_of c))
      (map (edit_for (c ∷ cs) base) (without (name_of c) (first_names cs))) job.refusal by-names (plain-names is) (no-staged is) (seen_in es) es result h.end h.is_as h.goes faults (λ n m. refl))
