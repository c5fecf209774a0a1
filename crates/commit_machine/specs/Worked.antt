-- Worked runs: the events of a commit and of recoveries on small disks.
use Rattle.std.specs.Prelude.{◌≡◌, ℕ, zero, suc, ℤ, pos, true, false, List, [], ◌∷◌, ◌++◌, codes, take, is_some}
use Rattle.std.specs.declared.option.Option.TheVariants.{Some, None}
use Rattle.commit_record.specs.Format.{written}
use Rattle.commit_record.specs.Ways.{entry_for}
use Rattle.commit_record.specs.declared.record.Phase.{Phase}
use Rattle.commit_record.specs.declared.record.Phase.TheVariants.{Prepare, Go}
use Rattle.commit_record.specs.declared.record.Record.{Record}
use Rattle.commit_record.specs.declared.way.Way.TheVariants.{Replace, Remove, Extend as ExtendBy}
use Rattle.host_port.specs.declared.event.Event.{Event}
use Rattle.host_port.specs.declared.event.Event.TheVariants.{Load, Stage, Publish, Extend, Erase, Lock, Unlock, Seize, Release, Now, Foreign}
use Rattle.host_port.specs.declared.event.ForeignStep.TheVariants as step
use Rattle.host_port.specs.declared.event.Seen.TheVariants.{Bytes}
use Rattle.host_port.specs.Disk.{Disk, with_at, after, after_step, disk}
use Rattle.host_port.specs.Ends.{carried_out}
use Rattle.host_port.specs.Ran.{Honest}
use Rattle.commit_machine.specs.Names.{record_name, new_name, right_name, staged_name}
use Rattle.commit_machine.specs.Jobs.{Nothing, RolledBack, Finished, Busy, NotARecord, Changed, Ending, Done, Recovered, Refused, Puts, Edit, Job, entries_for}
use Rattle.commit_machine.specs.Machine.{State, Seizing, Ended, Call, ToAsk, ToLoad, ToStage, ToPublish, ToExtend, ToErase, ToLock, ToUnlock, ToSeize, ToRelease, next, after_reply}
use Rattle.commit_machine.specs.Goes.{reply, Goes}
use Rattle.commit_machine.specs.Due.{is_decision}
use Rattle.commit_machine.specs.Laws.{IsRun}

-- the event of a call that is carried out on a disk
abbrev pub carried : Disk → Call → Event
carried d (ToAsk time) = Now time
carried d (ToLoad n) = Load n (Bytes (d.files n) (is_some (d.locks n)))
carried d (ToStage n c) = carried_out d (Stage n (Some c) false)
carried d (ToPublish from to) = carried_out d (Publish from to true false)
carried d (ToExtend n at c) = carried_out d (Extend n at c false)
carried d (ToErase n) = carried_out d (Erase n true false)
carried d (ToLock n t) = carried_out d (Lock n t true false)
carried d (ToUnlock n t) = carried_out d (Unlock n t true false)
carried d (ToSeize n) = carried_out d (Seize n true false)
carried d (ToRelease n) = Release n

-- the machine's events from a state, if each call is carried out: at most this number of them
abbrev pub alone : ℕ → Job → State → Disk → List Event
alone zero j s d = []
alone (suc k) j s d = elim (next j s) [ None ↦ [] | Some c ↦ carried d c ∷ alone k j (after_reply j s (reply (carried d c))) (after d (carried d c)) ]

-- the state that those events lead to
abbrev pub alone_last : ℕ → Job → State → Disk → State
alone_last zero j s d = s
alone_last (suc k) j s d = elim (next j s) [ None ↦ s | Some c ↦ alone_last k j (after_reply j s (reply (carried d c))) (after d (carried d c)) ]

-- such events are a run's: the machine's next calls, each saying what is so
abbrev pub AloneGoes : Type 0
AloneGoes = (k : ℕ) (j : Job) (s : State) (d : Disk) → Goes j s (alone k j s d) (alone_last k j s d) × Honest d (alone k j s d)

-- alone on a disk, a job makes these events and ends so
abbrev pub Makes : Job → Disk → List Event → Ending → Type 0
Makes j d es end = (alone 30 j Seizing d ≡ es) × (alone_last 30 j Seizing d ≡ Ended end)

abbrev pub home : List ℕ
home = codes "/h/.mailx"

abbrev pub out : List ℕ
out = codes "/h/out"

abbrev pub mbox : List ℕ
mbox = codes "/h/mbox"

abbrev pub nothing : Disk
nothing = record { files = λ n. None; locks = λ n. None; rights = λ n. None }

-- when the commits are made
abbrev pub morning : ℤ
morning = pos 1_704_240_000

-- the file becomes these bytes
abbrev pub becomes : List ℕ → List ℕ → Edit
becomes name bytes = record { name = name; by = λ seen. Puts Replace bytes }

abbrev pub one_file : Job
one_file = record { actor = home; token = 1; time = Some morning; edits = Some (becomes out (codes "x") ∷ []); refusal = λ files. None }

abbrev pub two_files : Job
two_files = record { actor = home; token = 1; time = Some morning; edits = Some (becomes mbox (codes "x") ∷ becomes out (codes "y") ∷ []); refusal = λ files. None }

abbrev pub recovery : Job
recovery = record { actor = home; token = 2; time = None; edits = None; refusal = λ files. None }

abbrev pub record_for : Phase → List (List ℕ) → Record
record_for phase names = record { phase = phase; token = 1; moment = Some morning; entries = entries_for (λ n. Replace) names }

-- the file is removed
abbrev pub goes_away : List ℕ → Edit
goes_away name = record { name = name; by = λ seen. Puts Remove [] }

-- one file becomes other bytes, the other is removed
abbrev pub one_removed : Job
one_removed = record { actor = home; token = 1; time = Some morning; edits = Some (becomes mbox (codes "x") ∷ goes_away out ∷ []); refusal = λ files. None }

-- it stands at the start
abbrev pub out_stands : Disk
out_stands = record nothing { files = with_at nothing.files out (Some (codes "old")) }

-- the record of its decision
abbrev pub removal_record : Record
removal_record = record { phase = Go; token = 1; moment = Some morning; entries = entry_for Replace mbox ∷ entry_for Remove out ∷ [] }

-- a file of three bytes gets this tail
abbrev pub grows : List ℕ → List ℕ → Edit
grows name bytes = record { name = name; by = λ seen. Puts (ExtendBy 3) bytes }

abbrev pub one_extended : Job
one_extended = record { actor = home; token = 1; time = Some morning; edits = Some (grows out (codes "x") ∷ []); refusal = λ files. None }

-- the record of its decision
abbrev pub extension_record : Record
extension_record = record { phase = Go; token = 1; moment = Some morning; entries = entry_for (ExtendBy 3) out ∷ [] }

-- a commit of one file has fourteen events, the tenth the decision
abbrev pub commit_of_one : List Event
commit_of_one =
    Seize (right_name home) true false
    ∷ Now morning
    ∷ Load (record_name home) (Bytes None false)
    ∷ Stage (new_name home) (Some (written (record_for Prepare (out ∷ [])))) false
    ∷ Publish (new_name home) (record_name home) true false
    ∷ Lock out 1 true false
    ∷ Load out (Bytes None true)
    ∷ Stage (staged_name 1 out) (Some (codes "x")) false
    ∷ Stage (new_name home) (Some (written (record_for Go (out ∷ [])))) false
    ∷ Publish (new_name home) (record_name home) true false
    ∷ Publish (staged_name 1 out) out true false
    ∷ Unlock out 1 true false
    ∷ Erase (record_name home) true false
    ∷ Release (right_name home)
    ∷ []

-- a commit of two files has nineteen
abbrev pub commit_of_two : List Event
commit_of_two =
    Seize (right_name home) true false
    ∷ Now morning
    ∷ Load (record_name home) (Bytes None false)
    ∷ Stage (new_name home) (Some (written (record_for Prepare (mbox ∷ out ∷ [])))) false
    ∷ Publish (new_name home) (record_name home) true false
    ∷ Lock mbox 1 true false
    ∷ Lock out 1 true false
    ∷ Load mbox (Bytes None true)
    ∷ Load out (Bytes None true)
    ∷ Stage (staged_name 1 mbox) (Some (codes "x")) false
    ∷ Stage (staged_name 1 out) (Some (codes "y")) false
    ∷ Stage (new_name home) (Some (written (record_for Go (mbox ∷ out ∷ [])))) false
    ∷ Publish (new_name home) (record_name home) true false
    ∷ Publish (staged_name 1 mbox) mbox true false
    ∷ Publish (staged_name 1 out) out true false
    ∷ Unlock mbox 1 true false
    ∷ Unlock out 1 true false
    ∷ Erase (record_name home) true false
    ∷ Release (right_name home)
    ∷ []

-- a recovery has four if no record stands
abbrev pub recovery_of_none : List Event
recovery_of_none =
    Seize (right_name home) true false
    ∷ Load (record_name home) (Bytes None false)
    ∷ Erase (new_name home) true false
    ∷ Release (right_name home)
    ∷ []

-- A commit that removes a file stages the empty one for it; after the decision it takes the file away, and then the staged one.
abbrev pub commit_of_removal : List Event
commit_of_removal =
    Seize (right_name home) true false
    ∷ Now morning
    ∷ Load (record_name home) (Bytes None false)
    ∷ Stage (new_name home) (Some (written (record_for Prepare (mbox ∷ out ∷ [])))) false
    ∷ Publish (new_name home) (record_name home) true false
    ∷ Lock mbox 1 true false
    ∷ Lock out 1 true false
    ∷ Load mbox (Bytes None true)
    ∷ Load out (Bytes (Some (codes "old")) true)
    ∷ Stage (staged_name 1 mbox) (Some (codes "x")) false
    ∷ Stage (staged_name 1 out) (Some []) false
    ∷ Stage (new_name home) (Some (written removal_record)) false
    ∷ Publish (new_name home) (record_name home) true false
    ∷ Publish (staged_name 1 mbox) mbox true false
    ∷ Erase out true false
    ∷ Erase (staged_name 1 out) true false
    ∷ Unlock mbox 1 true false
    ∷ Unlock out 1 true false
    ∷ Erase (record_name home) true false
    ∷ Release (right_name home)
    ∷ []

-- the disk that it leaves if it stops before the event of this number, from 0
abbrev pub removal_stopped_at : ℕ → Disk
removal_stopped_at n = disk out_stands (take n commit_of_removal)

-- what follows if a decided record of the two files is carried out
abbrev pub closing_of_removal : List Event
closing_of_removal =
    Unlock mbox 1 true false
    ∷ Unlock out 1 true false
    ∷ Erase (record_name home) true false
    ∷ Erase (new_name home) true false
    ∷ Release (right_name home)
    ∷ []

-- a recovery removes the file if its staged one stands
abbrev pub recovery_of_removal : List Event
recovery_of_removal =
    Seize (right_name home) true false
    ∷ Load (record_name home) (Bytes (Some (written removal_record)) false)
    ∷ Publish (staged_name 1 mbox) mbox false false
    ∷ Load (staged_name 1 out) (Bytes (Some []) false)
    ∷ Erase out true false
    ∷ Erase (staged_name 1 out) true false
    ∷ closing_of_removal

-- and leaves it alone if that is gone
abbrev pub recovery_of_removed : List Event
recovery_of_removed =
    Seize (right_name home) true false
    ∷ Load (record_name home) (Bytes (Some (written removal_record)) false)
    ∷ Publish (staged_name 1 mbox) mbox false false
    ∷ Load (staged_name 1 out) (Bytes None false)
    ∷ closing_of_removal

-- a commit that adds to a file that stands has fifteen: after the decision the file gets its tail, and then the staged one is taken away
abbrev pub commit_of_extension : List Event
commit_of_extension =
    Seize (right_name home) true false
    ∷ Now morning
    ∷ Load (record_name home) (Bytes None false)
    ∷ Stage (new_name home) (Some (written (record_for Prepare (out ∷ [])))) false
    ∷ Publish (new_name home) (record_name home) true false
    ∷ Lock out 1 true false
    ∷ Load out (Bytes (Some (codes "old")) true)
    ∷ Stage (staged_name 1 out) (Some (codes "x")) false
    ∷ Stage (new_name home) (Some (written extension_record)) false
    ∷ Publish (new_name home) (record_name home) true false
    ∷ Extend out 3 (codes "x") false
    ∷ Erase (staged_name 1 out) true false
    ∷ Unlock out 1 true false
    ∷ Erase (record_name home) true false
    ∷ Release (right_name home)
    ∷ []

-- the disk that it leaves if it stops inside the eleventh, with another tail written
abbrev pub torn_tail : Disk
torn_tail = after (disk out_stands (take 10 commit_of_extension)) (Extend out 3 (codes "zz") true)

-- a recovery writes the tail again
abbrev pub recovery_of_extension : List Event
recovery_of_extension =
    Seize (right_name home) true false
    ∷ Load (record_name home) (Bytes (Some (written extension_record)) false)
    ∷ Load (staged_name 1 out) (Bytes (Some (codes "x")) false)
    ∷ Extend out 3 (codes "x") false
    ∷ Erase (staged_name 1 out) true false
    ∷ Unlock out 1 true false
    ∷ Erase (record_name home) true false
    ∷ Erase (new_name home) true false
    ∷ Release (right_name home)
    ∷ []

-- the disk that a commit of two files leaves if it stops before the event of this number, from 0
abbrev pub stopped_at : ℕ → Disk
stopped_at n = disk nothing (take n commit_of_two)

-- A record that was decided is carried out; this one after its first file was put in place.
abbrev pub recovery_of_decided : List Event
recovery_of_decided =
    Seize (right_name home) true false
    ∷ Load (record_name home) (Bytes (Some (written (record_for Go (mbox ∷ out ∷ [])))) false)
    ∷ Publish (staged_name 1 mbox) mbox false false
    ∷ Publish (staged_name 1 out) out true false
    ∷ Unlock mbox 1 true false
    ∷ Unlock out 1 true false
    ∷ Erase (record_name home) true false
    ∷ Erase (new_name home) true false
    ∷ Release (right_name home)
    ∷ []

-- a record before its decision is undone
abbrev pub recovery_of_undecided : List Event
recovery_of_undecided =
    Seize (right_name home) true false
    ∷ Load (record_name home) (Bytes (Some (written (record_for Prepare (mbox ∷ out ∷ [])))) false)
    ∷ Erase (staged_name 1 mbox) true false
    ∷ Erase (staged_name 1 out) true false
    ∷ Unlock mbox 1 true false
    ∷ Unlock out 1 true false
    ∷ Erase (record_name home) true false
    ∷ Erase (new_name home) true false
    ∷ Release (right_name home)
    ∷ []

-- the lock of another stands on the second file
abbrev pub busy_second : Disk
busy_second = after_step nothing (step.Lock out 9)

-- a commit of two files that finds the second busy undoes what it did to the first
abbrev pub commit_of_busy : List Event
commit_of_busy =
    Seize (right_name home) true false
    ∷ Now morning
    ∷ Load (record_name home) (Bytes None false)
    ∷ Stage (new_name home) (Some (written (record_for Prepare (mbox ∷ out ∷ [])))) false
    ∷ Publish (new_name home) (record_name home) true false
    ∷ Lock mbox 1 true false
    ∷ Lock out 1 false false
    ∷ Unlock mbox 1 true false
    ∷ Erase (record_name home) true false
    ∷ Release (right_name home)
    ∷ []

-- another has the right at the start
abbrev pub held_right : Disk
held_right = after_step nothing (step.Seize (right_name home))

-- there a commit and a recovery do nothing
abbrev pub run_kept_out : List Event
run_kept_out = Seize (right_name home) false false ∷ []

-- the file has changed at its first message
abbrev pub changed_file : Job
changed_file = record one_file { refusal = λ files. Some (Changed out 0) }

-- a commit that is refused once its file is loaded undoes what it did
abbrev pub commit_of_changed : List Event
commit_of_changed = take 7 commit_of_one ++ Unlock out 1 true false ∷ Erase (record_name home) true false ∷ Release (right_name home) ∷ []

-- what stands as the record is none
abbrev pub bad_record : Disk
bad_record = record nothing { files = with_at nothing.files (record_name home) (Some (codes "x")) }

-- there a commit does nothing
abbrev pub commit_over_bad : List Event
commit_over_bad =
    Seize (right_name home) true false
    ∷ Now morning
    ∷ Load (record_name home) (Bytes (Some (codes "x")) false)
    ∷ Release (right_name home)
    ∷ []

abbrev pub later : Job
later = record { actor = home; token = 2; time = Some morning; edits = Some (becomes out (codes "z") ∷ []); refusal = λ files. None }

abbrev pub later_record : Phase → Record
later_record phase = record { phase = phase; token = 2; moment = Some morning; entries = entries_for (λ n. Replace) (out ∷ []) }

-- a commit over a record that was decided carries that one out first
abbrev pub commit_over_decided : List Event
commit_over_decided =
    Seize (right_name home) true false
    ∷ Now morning
    ∷ Load (record_name home) (Bytes (Some (written (record_for Go (mbox ∷ out ∷ [])))) false)
    ∷ Publish (staged_name 1 mbox) mbox false false
    ∷ Publish (staged_name 1 out) out true false
    ∷ Unlock mbox 1 true false
    ∷ Unlock out 1 true false
    ∷ Erase (record_name home) true false
    ∷ Erase (new_name home) true false
    ∷ Stage (new_name home) (Some (written (later_record Prepare))) false
    ∷ Publish (new_name home) (record_name home) true false
    ∷ Lock out 2 true false
    ∷ Load out (Bytes (Some (codes "y")) true)
    ∷ Stage (staged_name 2 out) (Some (codes "z")) false
    ∷ Stage (new_name home) (Some (written (later_record Go))) false
    ∷ Publish (new_name home) (record_name home) true false
    ∷ Publish (staged_name 2 out) out true false
    ∷ Unlock out 2 true false
    ∷ Erase (record_name home) true false
    ∷ Release (right_name home)
    ∷ []

abbrev pub box : List ℕ
box = codes "/h/box"

-- the right of another actor
abbrev pub other_right : List ℕ
other_right = codes "/g/.mailx.right"

-- The commit of two files, while another takes and gives up the actor's right before it and its own right meanwhile, stages a file, and
-- locks, writes, appends to, removes and unlocks one.
abbrev pub commit_among_others : List Event
commit_among_others =
    Foreign (step.Seize (right_name home))
    ∷ Foreign (step.Release (right_name home))
    ∷ Seize (right_name home) true false
    ∷ Foreign (step.Seize other_right)
    ∷ Now morning
    ∷ Load (record_name home) (Bytes None false)
    ∷ Stage (new_name home) (Some (written (record_for Prepare (mbox ∷ out ∷ [])))) false
    ∷ Publish (new_name home) (record_name home) true false
    ∷ Foreign (step.Lock box 7)
    ∷ Lock mbox 1 true false
    ∷ Lock out 1 true false
    ∷ Foreign (step.Write (staged_name 7 box) (codes "a"))
    ∷ Foreign (step.Write box (codes "a"))
    ∷ Load mbox (Bytes None true)
    ∷ Load out (Bytes None true)
    ∷ Stage (staged_name 1 mbox) (Some (codes "x")) false
    ∷ Stage (staged_name 1 out) (Some (codes "y")) false
    ∷ Stage (new_name home) (Some (written (record_for Go (mbox ∷ out ∷ [])))) false
    ∷ Publish (new_name home) (record_name home) true false
    ∷ Foreign (step.Write box (codes "ab"))
    ∷ Publish (staged_name 1 mbox) mbox true false
    ∷ Foreign (step.Remove box)
    ∷ Foreign (step.Unlock box 7)
    ∷ Publish (staged_name 1 out) out true false
    ∷ Foreign (step.Release other_right)
    ∷ Unlock mbox 1 true false
    ∷ Unlock out 1 true false
    ∷ Erase (record_name home) true false
    ∷ Release (right_name home)
    ∷ []

-- the worked runs are those that the machine makes
pub record WorkedRuns : Type 0 where
  pub one : Makes one_file nothing commit_of_one Done
  pub tenth : is_decision one_file (Publish (new_name home) (record_name home) true false) (disk nothing (take 9 commit_of_one)) ≡ true
  pub two : Makes two_files nothing commit_of_two Done
  pub none : Makes recovery nothing recovery_of_none (Recovered Nothing)
  pub decided : Makes recovery (stopped_at 14) recovery_of_decided (Recovered (Finished (Some morning)))
  pub undecided : Makes recovery (stopped_at 12) recovery_of_undecided (Recovered (RolledBack (Some morning)))
  pub busy : Makes two_files busy_second commit_of_busy (Refused (Busy out))
  pub kept_out : Makes one_file held_right run_kept_out (Refused (Busy (right_name home)))
  pub recovery_kept_out : Makes recovery held_right run_kept_out (Refused (Busy (right_name home)))
  pub changed : Makes changed_file nothing commit_of_changed (Refused (Changed out 0))
  pub not_a_record : Makes one_file bad_record commit_over_bad (Refused NotARecord)
  pub over_decided : Makes later (stopped_at 14) commit_over_decided Done
  pub removal : Makes one_removed out_stands commit_of_removal Done
  pub removed : (disk out_stands commit_of_removal).files out ≡ None
  pub removal_decided : Makes recovery (removal_stopped_at 14) recovery_of_removal (Recovered (Finished (Some morning)))
  pub removal_half_done : Makes recovery (removal_stopped_at 15) recovery_of_removal (Recovered (Finished (Some morning)))
  pub removal_done : Makes recovery (removal_stopped_at 16) recovery_of_removed (Recovered (Finished (Some morning)))
  pub extension : Makes one_extended out_stands commit_of_extension Done
  pub extended : (disk out_stands commit_of_extension).files out ≡ Some (codes "oldx")
  pub torn : Makes recovery torn_tail recovery_of_extension (Recovered (Finished (Some morning)))
  pub mended : (disk torn_tail recovery_of_extension).files out ≡ Some (codes "oldx")
  pub among_others : IsRun two_files nothing commit_among_others (Ended Done)
