-- A recovery carries out its act, and neither takes input nor says anything.
use Rattle.std.proofs.Common.{◌≡◌, ℕ, true, false, List, [], Some, refl, ap, sym, inl, inr, ◌∙◌}
use Rattle.std.proofs.lemmas.List.{append-nil}
use Rattle.std.specs.List.{list_any}
use Rattle.std.specs.Prelude.{IfErr}
use Rattle.std.specs.declared.result.Result.{Result}
use Rattle.std.specs.declared.result.Result.TheVariants.{Ok, Err}
use Rattle.host_port.specs.declared.event.Event.{Event}
use Rattle.host_port.specs.Calls.{Counts, World}
use Rattle.host_port.specs.Ran.{Ran}
use Rattle.host_port.proofs.RanLemmas.{Ran-since}
use Rattle.commit_machine.specs.Jobs.{Before, Refused, Failed, NoMemory}
use Rattle.commit_machine.specs.Jobs as jobs
use Rattle.commit_machine.specs.Machine.{Seizing, Ended}
use Rattle.commit_machine.specs.Edits.{recovery_for}
use Rattle.commit_machine.specs.Restraints.{is_failed}
use Rattle.commit_driver.specs.declared.step.Recovered.{Recovered}
use Rattle.folder_commit.proofs.ToldLemmas.{failed-told}
use Rattle.folder_recovery.specs.declared.error.RecoverError.{RecoverError}
use Rattle.folder_recovery.specs.declared.error.RecoverError.TheVariants as error
use Rattle.folder_recovery.specs.Recovering.{found, RecoverCause}
use Rattle.folder_recovery.proofs.SafeLemmas.{ends-somewhere}
use Rattle.session_play.specs.Cuts.{IsLoadCut}
use Rattle.session_play.specs.declared.recovering.RecoveryAnswer.{RecoveryAnswer}
use Rattle.session_play.specs.declared.recovering.RecoveryAnswer.TheVariants as recovery
use Rattle.session_play.specs.declared.stop.Stop.TheVariants as stop
use Rattle.session_play.specs.Recovering.{recovery_as, recovered, IsRecoveryOf}
use Rattle.session_play.specs.Play.{Ask, Ret, Recover, Goes, Caused}
use Rattle.session_play.proofs.CommitLemmas.{HasNoStreams, machine-streams}

-- what is said twice of the same calls
pub ran-both : {H : Type 0} {w : World H} {old new : H} {P Q : List Event → Type 0} → Ran w old new P → Ran w old new Q → Ran w old new (λ es. P es × Q es)
ran-both x y = record {
  start_is = x.start_is;
  never_fall = x.never_fall;
  told_is = λ now is.
      let t = x.told_is now is in
      let also = Ran-since t.0 t.2.added y t.1 (is ∙ ap (λ (l : List Event). Some l) t.2.is) in
      (t.0, t.1, record { added = t.2.added; is = t.2.is; honest = t.2.honest; counted = t.2.counted; own_ones = (t.2.own_ones, also.1) });
}

module _ (actor : List ℕ) (token : ℕ) where
  pub recovery-goes : (result : Result Recovered RecoverError) (es : List Event) → IsRecoveryOf actor token es result → Goes {R = RecoveryAnswer} (Ask (Recover actor token) Ret) es (recovered result)
  recovery-goes (Ok f) es h = inl (recovery.Done f, es, [], sym (append-nil es), h, (refl, inl refl))
  recovery-goes (Err (error.Busy name)) es h = inl (recovery.Busy name, es, [], sym (append-nil es), h, (refl, inl refl))
  recovery-goes (Err error.NotARecord) es h = inl (recovery.NotARecord, es, [], sym (append-nil es), h, (refl, inl refl))
  recovery-goes (Err (error.TooLarge name n)) es h = inl (recovery.TooLarge name n, es, [], sym (append-nil es), h, (refl, inl refl))
  recovery-goes (Err error.Disk) es h = inr (stop.Disk, refl, inr h)
  recovery-goes (Err error.Memory) es h = inr (stop.Memory, refl, inr h)

  -- a call failed in the events exactly where the end says so
  pub recovery-fine : (a : RecoveryAnswer) (es : List Event) → IsRecoveryOf actor token es (recovery_as a) → list_any is_failed es ≡ false
  recovery-fine (recovery.Done f) es h = sym (failed-told (recovery_for actor token) es (jobs.Recovered (found f)) h.1)
  recovery-fine (recovery.Busy name) es h = sym (failed-told (recovery_for actor token) es (Refused (jobs.Busy name)) h.1.1)
  recovery-fine recovery.NotARecord es h = sym (failed-told (recovery_for actor token) es (Refused jobs.NotARecord) h.1)
  recovery-fine (recovery.TooLarge name n) es h = sym (failed-told (recovery_for actor token) es (Refused (jobs.TooLarge name n)) h.1.1)

  pub recovery-failed : (es : List Event) → IsRecoveryOf actor token es (Err error.Disk) → list_any is_failed es ≡ true
  recovery-failed es h = sym (failed-told (recovery_for actor token) es (Failed Before) h.1)

  pub recovery-short : (es : List Event) → IsRecoveryOf actor token es (Err error.Memory) → list_any is_failed es ≡ false
  recovery-short es (fit, inl h) = sym (failed-told (recovery_for actor token) es NoMemory h)
  recovery-short es (fit, inr h) = sym (failed-told (recovery_for actor token) es (Refused jobs.NotARecord) h)

  -- the own events of a recovery
  pub recovery-streams : (es : List Event) (result : Result Recovered RecoverError) → IsRecoveryOf actor token es result → HasNoStreams es
  recovery-streams es result h = let w = ends-somewhere (recovery_for actor token) es result h.1 in machine-streams (recovery_for actor token) Seizing es (Ended w.0) w.1

pub recovery-caused : (old now : Counts) (result : Result Recovered RecoverError) → RecoverCause old now result → Caused old now (recovered result)
recovery-caused old now (Ok f) h = tt
recovery-caused old now (Err (error.Busy name)) h = tt
recovery-caused old now (Err error.NotARecord) h = tt
recovery-caused old now (Err (error.TooLarge name n)) h = tt
recovery-caused old now (Err error.Disk) h = h
recovery-caused old now (Err error.Memory) h = tt

-- a fault of the disk and running out of memory alone cut off
pub recovery-cut : (result : Result Recovered RecoverError) → IfErr (recovered result) IsLoadCut
recovery-cut (Ok f) = tt
recovery-cut (Err (error.Busy name)) = tt
recovery-cut (Err error.NotARecord) = tt
recovery-cut (Err (error.TooLarge name n)) = tt
recovery-cut (Err error.Disk) = tt
recovery-cut (Err error.Memory) = tt
