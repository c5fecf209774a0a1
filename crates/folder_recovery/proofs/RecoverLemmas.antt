-- A recovery that was driven to its end.
use Rattle.std.proofs.Common.{◌≡◌, ◌≤◌, ℕ, true, List, [], length, map, refl, ap, sym, subst, inl, inr, ◌∙◌, arith}
use Rattle.std.proofs.lemmas.List.Elements.{All-nil}
use Rattle.std.specs.declared.result.Result.{Result}
use Rattle.std.specs.declared.result.Result.TheVariants.{Ok, Err}
use Rattle.host_port.specs.declared.event.Event.{Event}
use Rattle.host_port.specs.Calls.{Counts}
use Rattle.host_port.specs.Names.{IsFileName, has_no_zero}
use Rattle.host_port.proofs.RanLemmas.{rose-back}
use Rattle.commit_machine.specs.Names.{actor_limit, right_name, staged_name}
use Rattle.commit_machine.specs.Records.{names_of}
use Rattle.commit_machine.specs.Jobs.{Ending, Before, Refused, Failed, NoMemory, Job}
use Rattle.commit_machine.specs.Jobs as jobs
use Rattle.commit_machine.specs.Edits.{recovery_for}
use Rattle.commit_driver.specs.declared.step.Passed.TheVariants as passed
use Rattle.commit_driver.specs.declared.step.Recovered.{Recovered}
use Rattle.commit_driver.specs.declared.step.End.{End}
use Rattle.commit_driver.specs.declared.step.End.TheVariants as end
use Rattle.commit_driver.specs.declared.place.Place.{Place}
use Rattle.commit_driver.specs.Steps.{EndFits}
use Rattle.commit_driver.specs.Places.{nth, WantedAs, IsPlan, IsSafe}
use Rattle.commit_driver.specs.Answers.{EndCaused}
use Rattle.commit_driver.specs.declared.beginning.Begun.TheVariants as begun
use Rattle.commit_driver.specs.Beginnings.{Begins}
use Rattle.commit_driver.proofs.BeginLemmas.{Driven}
use Rattle.commit_driver.proofs.StateLemmas.{length-map}
use Rattle.commit_driver.proofs.NextLemmas.{nth-of, names-long}
use Rattle.commit_driver.proofs.FileLemmas.{record-file, new-file, right-file}
use Rattle.folder_recovery.specs.declared.error.RecoverError.{RecoverError}
use Rattle.folder_recovery.specs.declared.error.RecoverError.TheVariants as error
use Rattle.folder_recovery.specs.Recovering.{GoesTo, Recovers, RecoverCause, IsNamed, recovery_plan, answer_of}
use Rattle.folder_recovery.proofs.GoesLemmas.{may-end}

pub is-safe : (actor : List ℕ) → length actor ≤ actor_limit → has_no_zero actor ≡ true → IsSafe (recovery_plan actor)
is-safe actor short none = record {
  record_file = record-file actor short none;
  new_file = new-file actor short none;
  right_file = right-file actor short none;
  names = All-nil IsFileName;
  staged = All-nil IsFileName;
  staged_long = refl;
  few = omega arith;
  some = λ e. absurd (cc);
  valid = λ l. absurd (omega (arith, l));
}

pub is-plan : (actor : List ℕ) (token : ℕ) → IsPlan (recovery_for actor token) (recovery_plan actor)
is-plan actor token = record {
  record_is = refl;
  new_is = refl;
  right_is = refl;
  commits_is = refl;
  token_is = λ l. absurd (omega (arith, l));
  moment_is = refl;
  names_are = refl;
  staged_are = refl;
  texts_are = λ e. absurd (cc);
}

pub not-begun : (j : Job) (r : Result Recovered RecoverError) → (y : RecoverError) × (r ≡ Err y) × (y ≡ error.Memory) → Recovers j [] r
not-begun j r h =
    let C : Result Recovered RecoverError → Type 0 = λ z. Recovers j [] z in
    subst C (sym (h.1 ∙ ap Err h.2)) (inl (inr refl))

-- there are as many staged names as entries that were found
pub staged-long : (place : Place) → place.found_staged ≡ map (staged_name place.found.token) (names_of place.found) → length place.found_staged ≡ length place.found.entries
staged-long place staged = ap length staged ∙ length-map (staged_name place.found.token) (names_of place.found) ∙ names-long place.found

-- the answer is as the machine ended
pub recovers : (actor : List ℕ) (token : ℕ) (place : Place) (e : End) (es : List Event)
    → place.found_staged ≡ map (staged_name place.found.token) (names_of place.found) → EndFits 0 (length place.found.entries) e → Driven (recovery_for actor token) place.found es e
    → Recovers (recovery_for actor token) es (answer_of e (recovery_plan actor) place)
recovers actor token place (end.Recovered f) es staged fits d = d.goes
recovers actor token place end.NotARecord es staged fits d = d.goes
recovers actor token place (end.RecordTooLarge n) es staged fits d = (inl refl, d.goes)
recovers actor token place (end.StagedTooLarge k n) es staged fits d =
    let t = place.found.token in
    let file = nth (names_of place.found) k in
    let same : nth place.found_staged k ≡ staged_name t file =
    ap (λ (ns : List (List ℕ)). nth ns k) staged ∙ nth-of (staged_name t) (names_of place.found) k (omega (arith, fits, names-long place.found)) in
    (inr (t, file, same), subst (λ (m : List ℕ). GoesTo (recovery_for actor token) es (Refused (jobs.TooLarge m n))) (sym same) d.goes)
recovers actor token place end.NoMemory es staged fits d = wants d.hidden d.wanted d.goes
  where
    wants : (hidden : Ending) → WantedAs [] hidden → GoesTo (recovery_for actor token) es hidden → Recovers (recovery_for actor token) es (Err error.Memory)
    wants hidden (inl is) goes = inl (subst (GoesTo (recovery_for actor token) es) is goes)
    wants hidden (inr (jobs.NotARecord, may, is)) goes = inr (subst (GoesTo (recovery_for actor token) es) is goes)
    wants hidden (inr (jobs.Busy n, may, is)) goes = absurd may
    wants hidden (inr (jobs.TooLarge n k, may, is)) goes = absurd may
    wants hidden (inr (jobs.Changed n k, may, is)) goes = absurd may
recovers actor token place (end.Failed passed.Before) es staged fits d = d.goes
recovers actor token place (end.Failed passed.After) es staged fits d = absurd (may-end actor token es (Failed jobs.After) d.goes)
recovers actor token place (end.Failed passed.Unknown) es staged fits d = absurd (may-end actor token es (Failed jobs.Unknown) d.goes)
recovers actor token place end.Done es staged fits d = absurd (may-end actor token es jobs.Done d.goes)
recovers actor token place (end.Busy k) es staged fits d = absurd (omega (arith, fits))
recovers actor token place (end.TooLarge k n) es staged fits d = absurd (omega (arith, fits))
recovers actor token place (end.Changed k n) es staged fits d = absurd (omega (arith, fits))

pub is-named : (actor : List ℕ) (place : Place) (e : End) → place.found_staged ≡ map (staged_name place.found.token) (names_of place.found)
    → EndFits 0 (length place.found.entries) e → IsNamed actor (answer_of e (recovery_plan actor) place)
is-named actor place (end.RecordTooLarge n) staged fits = inl refl
is-named actor place (end.StagedTooLarge k n) staged fits =
    let t = place.found.token in
    inr (t, nth (names_of place.found) k, ap (λ (ns : List (List ℕ)). nth ns k) staged ∙ nth-of (staged_name t) (names_of place.found) k (omega (arith, fits, names-long place.found)))
is-named actor place (end.Recovered f) staged fits = tt
is-named actor place end.NotARecord staged fits = tt
is-named actor place end.NoMemory staged fits = tt
is-named actor place e staged fits = tt

pub is-caused : (actor : List ℕ) (place : Place) (e : End) (old now : Counts) → EndCaused old.disks now.disks e → RecoverCause old now (answer_of e (recovery_plan actor) place)
is-caused actor place (end.Failed p) old now c = c
is-caused actor place (end.RecordTooLarge n) old now c = c
is-caused actor place (end.StagedTooLarge k n) old now c = c
is-caused actor place (end.Recovered f) old now c = tt
is-caused actor place end.NoMemory old now c = tt
is-caused actor place e old now c = tt

-- another had the right
pub kept-out : (actor : List ℕ) (token : ℕ) (name : List ℕ) (es : List Event) → name ≡ right_name actor
    → Begins (recovery_for actor token) begun.Busy es → Recovers (recovery_for actor token) es (Err (error.Busy name))
kept-out actor token name es is b = (is, subst (λ (n : List ℕ). GoesTo (recovery_for actor token) es (Refused (jobs.Busy n))) (sym is) b.goes)

-- what a fault caused while the recovery was driven it caused in the whole of it
pub caused-back : (old mid now : Counts) (r : Result Recovered RecoverError) → old.disks ≤ mid.disks → RecoverCause mid now r → RecoverCause old now r
caused-back old mid now (Ok f) l c = tt
caused-back old mid now (Err error.Disk) l c = rose-back old.disks mid.disks now.disks l c
caused-back old mid now (Err (error.TooLarge name n)) l c = c
caused-back old mid now (Err (error.Busy name)) l c = tt
caused-back old mid now (Err error.NotARecord) l c = tt
caused-back old mid now (Err error.Memory) l c = tt
