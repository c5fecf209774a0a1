-- The laws of the machine, of a recovery.
use Rattle.std.proofs.Common.{◌≡◌, ◌<◌, ◌^◌, ℕ, List, [], ◌∷◌, ◌++◌, Some, refl, ap, sym, subst, inl, inr, ◌∙◌, append_assoc}
use Rattle.std.proofs.lemmas.List.{append-nil}
use Rattle.std.specs.declared.result.Result.{Result}
use Rattle.std.specs.declared.result.Result.TheVariants.{Ok, Err}
use Rattle.host_port.specs.declared.event.Event.{Event}
use Rattle.host_port.specs.declared.event.Event.TheVariants.{Release}
use Rattle.host_port.specs.Disk.{Disk, disk}
use Rattle.host_port.specs.Calls.{World}
use Rattle.host_port.specs.Own.{own}
use Rattle.host_port.specs.Ran.{Honest, Ran}
use Rattle.host_port.proofs.RanLemmas.{own-append, Ran-since}
use Rattle.commit_machine.specs.Edits.{recovery_for}
use Rattle.commit_machine.specs.Names.{right_name}
use Rattle.commit_machine.specs.Jobs.{Before, Ending, Refused, Failed, NoMemory, Job, IsJob}
use Rattle.commit_machine.specs.Jobs as jobs
use Rattle.commit_machine.specs.Machine.{Seizing, Ended}
use Rattle.commit_machine.specs.Goes.{Goes}
use Rattle.commit_machine.specs.Laws.{IsRun}
use Rattle.commit_machine.proofs.runs.Ends.{front_is_run, no_record_stands, recovery_settles}
use Rattle.commit_machine.proofs.runs.Safety.{runs_are_safe}
use Rattle.commit_driver.specs.declared.step.Recovered.{Recovered}
use Rattle.folder_recovery.specs.declared.error.RecoverError.{RecoverError}
use Rattle.folder_recovery.specs.declared.error.RecoverError.TheVariants as error
use Rattle.folder_recovery.specs.Recovering.{found, Recovers, GoesTo}
use Rattle.folder_recovery.specs.Told.{IsTold}
use Rattle.folder_recovery.specs.Safe.{MayRecover, IsSettled, RecoversSafely}
use Rattle.folder_recovery.proofs.ToldLemmas.{is-told}
use Rattle.folder_recovery.proofs.BusyLemmas.{busy-met}

pub recovery-is-job : (actor : List ℕ) (token : ℕ) → token < 2 ^ 64 → IsJob (recovery_for actor token)
recovery-is-job actor token fits = record { token_fits = fits; valid = λ es is. absurd (cc); plain = λ e m. absurd m; extends = λ e m. absurd m }

-- a recovery ends somewhere
pub ends-somewhere : (j : Job) (es : List Event) (result : Result Recovered RecoverError) → Recovers j es result → (end : Ending) × GoesTo j es end
ends-somewhere j es (Ok f) h = (jobs.Recovered (found f), h)
ends-somewhere j es (Err (error.Busy name)) h = (Refused (jobs.Busy name), h.1)
ends-somewhere j es (Err error.NotARecord) h = (Refused jobs.NotARecord, h)
ends-somewhere j es (Err (error.TooLarge name n)) h = (Refused (jobs.TooLarge name n), h.1)
ends-somewhere j es (Err error.Disk) h = (Failed Before, h)
ends-somewhere j es (Err error.Memory) (inl h) = (NoMemory, h)
ends-somewhere j es (Err error.Memory) (inr h) = (Refused jobs.NotARecord, h)

module _ (actor : List ℕ) (token : ℕ) (d : Disk) where
  run-of : (es : List Event) (end : Ending) → MayRecover actor token d es → Honest d es → GoesTo (recovery_for actor token) (own es) end → IsRun (recovery_for actor token) d es (Ended end)
  run-of es end may honest goes = record {
    job = recovery-is-job actor token may.token_fits;
    fresh = may.fresh;
    sound = may.sound;
    goes = goes;
    honest = honest;
    lawful = may.lawful;
  }

  -- the run up to its release, after which nothing of its own comes
  run-to : (front rest : List Event) (e : Event) (end : Ending) → own rest ≡ [] → IsRun (recovery_for actor token) d (front ++ e ∷ rest) (Ended end)
      → IsRun (recovery_for actor token) d (front ++ e ∷ []) (Ended end)
  run-to front rest e end none run =
      let split : front ++ e ∷ rest ≡ (front ++ e ∷ []) ++ rest = sym (append_assoc front (e ∷ []) rest) in
      let G : List Event → Type 0 = λ es. IsRun (recovery_for actor token) d es (Ended end) in
      let run' = subst G split run in
      let w = front_is_run (recovery_for actor token) d (front ++ e ∷ []) rest (Ended end) run' in
      let same : own ((front ++ e ∷ []) ++ rest) ≡ own (front ++ e ∷ []) = own-append (front ++ e ∷ []) rest ∙ ap (λ r. own (front ++ e ∷ []) ++ r) none ∙ append-nil (own (front ++ e ∷ [])) in
      let P : List Event → Type 0 = λ es. Goes (recovery_for actor token) Seizing es (Ended end) in
      record { job = w.1.job; fresh = w.1.fresh; sound = w.1.sound; goes = subst P same run'.goes; honest = w.1.honest; lawful = w.1.lawful }

  settled-at : (front rest : List Event) (f : Recovered) → own rest ≡ []
      → IsRun (recovery_for actor token) d (front ++ Release (right_name actor) ∷ rest) (Ended (jobs.Recovered (found f))) → IsSettled actor (disk d (front ++ Release (right_name actor) ∷ []))
  settled-at front rest f none run =
      let j = recovery_for actor token in
      let run' = run-to front rest (Release (right_name actor)) (jobs.Recovered (found f)) none run in
      record {
        none = no_record_stands j d front (jobs.Recovered (found f)) tt run';
        files = λ n. (recovery_settles j d front (found f) n run').0;
        locks = λ n. (recovery_settles j d front (found f) n run').1;
      }

  pub safely : (es : List Event) (result : Result Recovered RecoverError) → MayRecover actor token d es → Honest d es
      → Recovers (recovery_for actor token) (own es) result → RecoversSafely actor token d es result
  safely es result may honest h =
      let j = recovery_for actor token in
      let w = ends-somewhere j (own es) result h in
      let run = run-of es w.0 may honest w.1 in
      let safe = runs_are_safe (λ files. files) j d es w.0 (λ files n. refl) run in
      record {
        run = safe;
        ends = λ front rest f is none done.
            let R : Result Recovered RecoverError → Type 0 = λ r. Recovers j (own es) r in
            let goes = subst R done h in
            let D : List Event → Type 0 = λ es. IsRun j d es (Ended (jobs.Recovered (found f))) in
            settled-at front rest f none (subst D is (run-of es (jobs.Recovered (found f)) may honest goes));
        busy = λ name is. busy-met actor token d es safe name (subst (λ (r : Result Recovered RecoverError). IsTold actor (own es) r) is (is-told actor token (own es) result h));
      }

-- of a host that tells its trace
pub ran-safely : {H : Type 0} {w : World H} {old new : H} (actor : List ℕ) (token : ℕ) (result : Result Recovered RecoverError) (before es : List Event)
    → Ran w old new (λ own_ones. Recovers (recovery_for actor token) own_ones result)
    → w.told old ≡ Some before → w.told new ≡ Some (before ++ es) → MayRecover actor token (disk (w.start old) before) es → RecoversSafely actor token (disk (w.start old) before) es result
ran-safely {w = w} {old = old} actor token result before es ran at to may =
    let t = Ran-since {P = λ own_ones. Recovers (recovery_for actor token) own_ones result} before es ran at to in
    safely actor token (disk (w.start old) before) es result may t.0 t.1
