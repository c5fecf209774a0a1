-- A commit and a recovery are answered the same on one disk, by the same events. A commit is told one time.
use Rattle.std.proofs.Common.{◌≡◌, ◌⊎◌, ℕ, ℤ, false, List, [], ◌∷◌, refl, sym, ◌∙◌, ap, inl, inr, arith}
use Rattle.std.specs.declared.result.Result.{Result}
use Rattle.std.specs.declared.result.Result.TheVariants.{Ok, Err}
use Rattle.host_port.specs.declared.event.Event.{Event}
use Rattle.host_port.specs.Disk.{Disk}
use Rattle.host_port.specs.Ran.{Honest}
use Rattle.folder_change.specs.declared.change.Change.{Change}
use Rattle.commit_machine.specs.Jobs.{Ending, Job, at_time, all_of}
use Rattle.commit_machine.specs.Jobs as jobs
use Rattle.commit_machine.specs.Machine.{Seizing, Ended}
use Rattle.commit_machine.specs.Edits.{job_for, recovery_for}
use Rattle.commit_machine.specs.Goes.{Goes}
use Rattle.commit_driver.specs.declared.step.Recovered.TheVariants as recovered
use Rattle.folder_commit.specs.declared.error.CommitError.{CommitError}
use Rattle.folder_commit.specs.declared.error.CommitError.TheVariants as error
use Rattle.folder_commit.specs.Commits.{IsCommit}
use Rattle.folder_commit.specs.Ends.{AnswersAs}
use Rattle.session_play.specs.Committing.{Commit, answer_as, IsCommitOf, Attempted, taken}
use Rattle.session_play.specs.declared.changing.Attempt.{Attempt}
use Rattle.session_play.specs.declared.changing.Attempt.TheVariants.{Made, Misnamed}
use Rattle.session_play.specs.declared.naming.NameFault.{NameFault}
use Rattle.std.specs.declared.option.Option.TheVariants.{Some, None}
use Rattle.session_play.specs.Recovering.{recovery_as, IsRecoveryOf}
use Rattle.session_play.specs.declared.changing.Committed.{Committed}
use Rattle.session_play.specs.declared.changing.Committed.TheVariants as committed
use Rattle.session_play.specs.declared.recovering.RecoveryAnswer.{RecoveryAnswer}
use Rattle.session_play.specs.declared.recovering.RecoveryAnswer.TheVariants as recovery
use Rattle.session_play.specs.declared.stop.Stop.{Stop}
use Rattle.play_likeness.specs.Loads.{LoadsTell}
use Rattle.play_likeness.specs.Jobs.{is_hindered}
use Rattle.play_likeness.proofs.JobLemmas.{ToldOne, jobs_are_alike, timed-same}

-- ---- a commit

abbrev answer_of : Ending → Committed
answer_of (jobs.Refused (jobs.Busy name)) = committed.Busy name
answer_of (jobs.Refused jobs.NotARecord) = committed.NotARecord
answer_of (jobs.Refused (jobs.TooLarge name n)) = committed.TooLarge name n
answer_of (jobs.Refused (jobs.Changed name at)) = committed.Changed name at
answer_of end = committed.Done

-- an answer's end is unhindered, and gives the answer
end-fine : (files : List (List ℕ)) (a : Committed) (end : Ending) → AnswersAs files (answer_as a) end → is_hindered end ≡ false
end-fine files committed.Done end is = ap is_hindered is
end-fine files (committed.Busy name) end is = ap is_hindered is
end-fine files committed.NotARecord end is = ap is_hindered is
end-fine files (committed.Changed name at) end is = ap is_hindered is
end-fine files (committed.TooLarge name n) end is = ap is_hindered is
end-fine files (committed.TooManyNames n) end never = absurd never

end-answer : (files : List (List ℕ)) (a : Committed) (end : Ending) → AnswersAs files (answer_as a) end → answer_of end ≡ a
end-answer files committed.Done end is = ap answer_of is
end-answer files (committed.Busy name) end is = ap answer_of is
end-answer files committed.NotARecord end is = ap answer_of is
end-answer files (committed.Changed name at) end is = ap answer_of is
end-answer files (committed.TooLarge name n) end is = ap answer_of is
end-answer files (committed.TooManyNames n) end never = absurd never

taken-answer : (a : Committed) → taken (answer_as a) ≡ Ok (Made a)
taken-answer committed.Done = refl
taken-answer (committed.Busy name) = refl
taken-answer committed.NotARecord = refl
taken-answer (committed.Changed name at) = refl
taken-answer (committed.TooLarge name n) = refl
taken-answer (committed.TooManyNames n) = refl

abbrev came : Committed → Result Attempt Stop
came a = Ok (Made a)

came-same : (a b : Committed) → came a ≡ came b → a ≡ b
came-same a b e = cc

answer-same : (a b : Committed) (r : Result Unit CommitError) → answer_as a ≡ r → answer_as b ≡ r → a ≡ b
answer-same a b r is also = came-same a b (sym (taken-answer a) ∙ ap taken (is ∙ sym also) ∙ taken-answer b)

no-memory : (a : Committed) → answer_as a ≡ Err error.Memory → ⊥
no-memory a is = never (sym (taken-answer a) ∙ ap taken is)
  where
    never : came a ≡ taken (Err error.Memory) → ⊥
    never e = cc

none-some : {A : Type 0} {a : A} → None ≡ Some a → ⊥
none-some e = cc

some-same : {A : Type 0} (a b : A) → Some a ≡ Some b → a ≡ b
some-same a b e = cc

-- own events from a disk
pub record IsFrom (d : Disk) (es : List Event) : Type 0 where
  pub honest : Honest d es
  pub tell : LoadsTell es

both-none : (es fs : List Event) → es ≡ [] → fs ≡ [] → es ≡ fs
both-none es fs is also = is ∙ sym also

module _ (d : Disk) (es fs : List Event) (from : IsFrom d es) (of : IsFrom d fs) where
  job-same : (j : Job) (x y : Ending) → Goes j Seizing es (Ended x) → Goes j Seizing fs (Ended y) → is_hindered x ≡ false → is_hindered y ≡ false → (es ≡ fs) × (x ≡ y)
  job-same j x y g h fine good = jobs_are_alike j d es fs x y
      (record { goes = g; honest = from.honest; tell = from.tell; unhindered = fine }) (record { goes = h; honest = of.honest; tell = of.tell; unhindered = good })

  too-many : (count : ℕ) (a b : Committed) → (answer_as a ≡ Err (error.TooManyNames count)) ⊎ (answer_as a ≡ Err error.Memory)
      → (answer_as b ≡ Err (error.TooManyNames count)) ⊎ (answer_as b ≡ Err error.Memory) → a ≡ b
  too-many count a b (inl is) (inl also) = answer-same a b _ is also
  too-many count a b (inr short) other = absurd (no-memory a short)
  too-many count a b (inl is) (inr short) = absurd (no-memory b short)

  -- a commit, where each that asks for the time is told the same
  committed-same : (j : Job) (t u : ℤ) (files : List (List ℕ)) (a b : Committed) (x y : Ending) → ToldOne es fs → AnswersAs files (answer_as a) x → AnswersAs files (answer_as b) y
      → Goes (at_time (Some t) j) Seizing es (Ended x) → Goes (at_time (Some u) j) Seizing fs (Ended y) → (es ≡ fs) × (a ≡ b)
  committed-same j t u files a b x y told is also g h =
      let same = timed-same j t u d es fs x y
      (record { goes = g; honest = from.honest; tell = from.tell; unhindered = end-fine files a x is })
      (record { goes = h; honest = of.honest; tell = of.tell; unhindered = end-fine files b y also }) told
      in
      (same.0, sym (end-answer files a x is) ∙ ap answer_of same.1 ∙ end-answer files b y also)

  changes-same : (actor : List ℕ) (token : ℕ) (cs : List Change) (base : List (List ℕ)) (a b : Committed) → ToldOne es fs
      → IsCommit actor token cs base es (answer_as a) → IsCommit actor token cs base fs (answer_as b)
      → (es ≡ fs) × (a ≡ b)
  changes-same actor token [] base a b told one two = (both-none es fs one.0 two.0, answer-same a b _ one.1 two.1)
  changes-same actor token (c ∷ cs) base a b told (inl (many, one)) (inl (more, two)) = (both-none es fs one.0 two.0, too-many _ a b one.1 two.1)
  changes-same actor token (c ∷ cs) base a b told (inl (many, one)) (inr (few, two)) = absurd (omega arith)
  changes-same actor token (c ∷ cs) base a b told (inr (few, one)) (inl (many, two)) = absurd (omega arith)
  changes-same actor token (c ∷ cs) base a b told (inr (few, (t, one))) (inr (also, (u, two))) =
      let j = job_for actor token (c ∷ cs) base in
      committed-same j t u (all_of j) a b one.end two.end told one.is_as two.is_as one.goes two.goes

  pub commit-same : (c : Commit) (a b : Committed) → ToldOne es fs → IsCommitOf c es (answer_as a) → IsCommitOf c fs (answer_as b) → (es ≡ fs) × (a ≡ b)
  commit-same c a b told one two = changes-same c.actor c.token c.changes c.base a b told one two

  pub attempt-same : (c : Commit) (a b : Attempt) → ToldOne es fs → Attempted c a es → Attempted c b fs → (es ≡ fs) × (a ≡ b)
  attempt-same c (Made a) (Made b) told one two = let same = commit-same c a b told one.1 two.1 in (same.0, ap Made same.1)
  attempt-same c (Made a) (Misnamed name fault) told one two = absurd (none-some (sym one.0 ∙ two.0))
  attempt-same c (Misnamed name fault) (Made b) told one two = absurd (none-some (sym two.0 ∙ one.0))
  attempt-same c (Misnamed name fault) (Misnamed other blame) told one two =
      (both-none es fs one.1 two.1, ap (λ (p : List ℕ × NameFault). Misnamed p.0 p.1) (some-same (name, fault) (other, blame) (sym one.0 ∙ two.0)))

-- ---- a recovery

abbrev pub end_of : RecoveryAnswer → Ending
end_of (recovery.Done recovered.Nothing) = jobs.Recovered jobs.Nothing
end_of (recovery.Done (recovered.RolledBack moment)) = jobs.Recovered (jobs.RolledBack moment)
end_of (recovery.Done (recovered.Finished moment)) = jobs.Recovered (jobs.Finished moment)
end_of (recovery.Busy name) = jobs.Refused (jobs.Busy name)
end_of recovery.NotARecord = jobs.Refused jobs.NotARecord
end_of (recovery.TooLarge name n) = jobs.Refused (jobs.TooLarge name n)

abbrev answer_by : Ending → RecoveryAnswer
answer_by (jobs.Recovered jobs.Nothing) = recovery.Done recovered.Nothing
answer_by (jobs.Recovered (jobs.RolledBack moment)) = recovery.Done (recovered.RolledBack moment)
answer_by (jobs.Recovered (jobs.Finished moment)) = recovery.Done (recovered.Finished moment)
answer_by (jobs.Refused (jobs.Busy name)) = recovery.Busy name
answer_by (jobs.Refused (jobs.TooLarge name n)) = recovery.TooLarge name n
answer_by end = recovery.NotARecord

by-end : (a : RecoveryAnswer) → answer_by (end_of a) ≡ a
by-end (recovery.Done recovered.Nothing) = refl
by-end (recovery.Done (recovered.RolledBack moment)) = refl
by-end (recovery.Done (recovered.Finished moment)) = refl
by-end (recovery.Busy name) = refl
by-end recovery.NotARecord = refl
by-end (recovery.TooLarge name n) = refl

of-fine : (a : RecoveryAnswer) → is_hindered (end_of a) ≡ false
of-fine (recovery.Done recovered.Nothing) = refl
of-fine (recovery.Done (recovered.RolledBack moment)) = refl
of-fine (recovery.Done (recovered.Finished moment)) = refl
of-fine (recovery.Busy name) = refl
of-fine recovery.NotARecord = refl
of-fine (recovery.TooLarge name n) = refl

pub recovery-goes : (actor : List ℕ) (token : ℕ) (es : List Event) (a : RecoveryAnswer) → IsRecoveryOf actor token es (recovery_as a) → Goes (recovery_for actor token) Seizing es (Ended (end_of a))
recovery-goes actor token es (recovery.Done recovered.Nothing) h = h.1
recovery-goes actor token es (recovery.Done (recovered.RolledBack moment)) h = h.1
recovery-goes actor token es (recovery.Done (recovered.Finished moment)) h = h.1
recovery-goes actor token es (recovery.Busy name) h = h.1.1
recovery-goes actor token es recovery.NotARecord h = h.1
recovery-goes actor token es (recovery.TooLarge name n) h = h.1.1

pub recovery-same : (d : Disk) (es fs : List Event) → IsFrom d es → IsFrom d fs → (actor : List ℕ) (token : ℕ) (a b : RecoveryAnswer)
    → IsRecoveryOf actor token es (recovery_as a) → IsRecoveryOf actor token fs (recovery_as b) → (es ≡ fs) × (a ≡ b)
recovery-same d es fs from of actor token a b one two =
    let same = job-same d es fs from of (recovery_for actor token) (end_of a) (end_of b) (recovery-goes actor token es a one) (recovery-goes actor token fs b two) (of-fine a) (of-fine b) in
    (same.0, sym (by-end a) ∙ ap answer_by same.1 ∙ by-end b)
