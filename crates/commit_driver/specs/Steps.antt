-- How far a job has come, by numbers alone.
use Rattle.std.specs.Prelude.{◌<◌, ◌≤◌, ◌+◌, ◌-◌, ◌*◌, ℕ, Bool, true, false, Option, Some, None, nat_lt, if◌then◌else◌}
use Rattle.commit_record.specs.Format.{file_limit}
use Rattle.commit_record.specs.declared.record.Record.{Record}
use Rattle.commit_record.specs.declared.way.Way.{Way}
use Rattle.commit_record.specs.declared.way.Way.TheVariants.{Replace, Remove, Extend}
use Rattle.commit_machine.specs.Records.{is_go}
use Rattle.commit_driver.specs.declared.step.Passed.{Passed}
use Rattle.commit_driver.specs.declared.step.Passed.TheVariants.{Before, After, Unknown}
use Rattle.commit_driver.specs.declared.step.Recovered.{Recovered as Found}
use Rattle.commit_driver.specs.declared.step.Recovered.TheVariants as recovered
use Rattle.commit_driver.specs.declared.step.End.{End}
use Rattle.commit_driver.specs.declared.step.End.TheVariants.{Done, Recovered, Busy, NotARecord, RecordTooLarge, StagedTooLarge, TooLarge, Changed, Failed, NoMemory}
use Rattle.commit_driver.specs.declared.step.Then.{Then}
use Rattle.commit_driver.specs.declared.step.Then.TheVariants.{GoOn, Answer}
use Rattle.commit_driver.specs.declared.step.Step.{Step}
use Rattle.commit_driver.specs.declared.step.Step.TheVariants.{Looking, Undoing, Placing, Testing, Removing, Extending, Discarding, Unlocking, Erasing, Clearing, Preparing, Publishing, Locking, Loading, Staging, Deciding, Committing, Checking, Releasing, Ended}
use Rattle.commit_driver.specs.declared.next.Name.{Name}
use Rattle.commit_driver.specs.declared.next.Name.TheVariants as name
use Rattle.commit_driver.specs.declared.next.Call.{Call}
use Rattle.commit_driver.specs.declared.next.Call.TheVariants as call

-- a file of the record that is done with, and where it is made
abbrev pub file_at : Then → ℕ → Name
file_at GoOn at = name.Found at
file_at (Answer e) at = name.File at

abbrev pub staged_at : Then → ℕ → Name
staged_at GoOn at = name.FoundStaged at
staged_at (Answer e) at = name.Staged at

abbrev pub unlock_at : Then → ℕ → Call
unlock_at GoOn at = call.UnlockFound at
unlock_at (Answer e) at = call.Unlock at

abbrev pub extend_at : Then → ℕ → Call
extend_at GoOn at = call.ExtendFound at
extend_at (Answer e) at = call.Extend at

-- the call that a step is for
abbrev pub call_at : Step → Option Call
call_at Looking = Some (call.Load name.Record)
call_at (Undoing at end locks th) = Some (call.Erase (staged_at th at))
call_at (Placing at th) = Some (call.Publish (staged_at th at) (file_at th at))
call_at (Testing at) = Some (call.Load (name.FoundStaged at))
call_at (Removing at th) = Some (call.Erase (file_at th at))
call_at (Extending at th) = Some (extend_at th at)
call_at (Discarding at th) = Some (call.Erase (staged_at th at))
call_at (Unlocking at end th) = Some (unlock_at th at)
call_at (Erasing th) = Some (call.Erase name.Record)
call_at (Clearing found) = Some (call.Erase name.New)
call_at Preparing = Some call.StagePrepare
call_at Publishing = Some (call.Publish name.New name.Record)
call_at (Locking at) = Some (call.Lock at)
call_at (Loading at) = Some (call.Load (name.File at))
call_at (Staging at) = Some (call.StageFile at)
call_at Deciding = Some call.StageGo
call_at Committing = Some (call.Publish name.New name.Record)
call_at Checking = Some (call.Load name.Record)
call_at (Releasing e) = Some call.Release
call_at (Ended e) = None

-- how many names there are: of n files of the plan, or of m entries that were found
abbrev pub count_at : ℕ → ℕ → Then → ℕ
count_at n m GoOn = m
count_at n m (Answer e) = n

-- the numbers of files are those of n files, and of entries those of m
abbrev pub EndFits : ℕ → ℕ → End → Type 0
EndFits n m (Busy k) = k < n
EndFits n m (StagedTooLarge k length) = k < m
EndFits n m (TooLarge k length) = k < n
EndFits n m (Changed k message) = k < n
EndFits n m e = Unit {0}

abbrev pub ThenFits : ℕ → ℕ → Then → Type 0
ThenFits n m GoOn = Unit {0}
ThenFits n m (Answer e) = EndFits n m e

abbrev pub Fits : ℕ → ℕ → Step → Type 0
Fits n m (Undoing at end locks th) = (at < end) × (end ≤ count_at n m th) × (locks ≤ count_at n m th) × ThenFits n m th
Fits n m (Placing at th) = (at < count_at n m th) × ThenFits n m th
Fits n m (Testing at) = at < m
Fits n m (Removing at th) = (at < count_at n m th) × ThenFits n m th
Fits n m (Extending at th) = (at < count_at n m th) × ThenFits n m th
Fits n m (Discarding at th) = (at < count_at n m th) × ThenFits n m th
Fits n m (Unlocking at end th) = (at < end) × (end ≤ count_at n m th) × ThenFits n m th
Fits n m (Erasing th) = ThenFits n m th
Fits n m Preparing = 0 < n
Fits n m Publishing = 0 < n
Fits n m (Locking at) = at < n
Fits n m (Loading at) = at < n
Fits n m (Staging at) = at < n
Fits n m (Releasing e) = EndFits n m e
Fits n m (Ended e) = EndFits n m e
Fits n m s = Unit {0}

abbrev pub NameFits : ℕ → ℕ → Name → Type 0
NameFits n m (name.File k) = k < n
NameFits n m (name.Staged k) = k < n
NameFits n m (name.Found k) = k < m
NameFits n m (name.FoundStaged k) = k < m
NameFits n m x = Unit {0}

abbrev pub CallFits : ℕ → ℕ → Call → Type 0
CallFits n m (call.Load x) = NameFits n m x
CallFits n m (call.Publish x y) = NameFits n m x × NameFits n m y
CallFits n m (call.Extend k) = k < n
CallFits n m (call.ExtendFound k) = k < m
CallFits n m (call.Erase x) = NameFits n m x
CallFits n m (call.StageFile k) = k < n
CallFits n m (call.Lock k) = k < n
CallFits n m (call.Unlock k) = k < n
CallFits n m (call.UnlockFound k) = k < m
CallFits n m c = Unit {0}

-- the steps that numbers lead to
abbrev pub unlocking_at : ℕ → ℕ → Then → Step
unlocking_at at end th = if nat_lt at end then Unlocking at end th else Erasing th

abbrev pub undoing_at : ℕ → ℕ → ℕ → Then → Step
undoing_at at end locks th = if nat_lt at end then Undoing at end locks th else unlocking_at 0 locks th

-- a removal or an extension of a record that was found may be done already
abbrev pub removing_at : ℕ → Then → Step
removing_at at GoOn = Testing at
removing_at at (Answer e) = Removing at (Answer e)

abbrev pub extending_at : ℕ → Then → Step
extending_at at GoOn = Testing at
extending_at at (Answer e) = Extending at (Answer e)

abbrev pub place_at : Way → ℕ → Then → Step
place_at Replace at th = Placing at th
place_at Remove at th = removing_at at th
place_at (Extend stays) at th = extending_at at th

-- its staged file is known to stand; that of a file that is replaced isn't looked for
abbrev pub known_at : Way → ℕ → Step
known_at Replace at = Removing at GoOn
known_at Remove at = Removing at GoOn
known_at (Extend stays) at = Extending at GoOn

-- how the files come to be: those of the entries that were found, and those of the plan
abbrev pub Ways : Type 0
Ways = Then → ℕ → Way

abbrev pub placing_at : Ways → ℕ → ℕ → Then → Step
placing_at ways at end th = if nat_lt at end then place_at (ways th at) at th else unlocking_at 0 end th

abbrev pub locking_at : ℕ → ℕ → Step
locking_at at n = if nat_lt at n then Locking at else Loading 0

abbrev pub staging_at : ℕ → ℕ → Step
staging_at at n = if nat_lt at n then Staging at else Deciding

-- whether the decision was passed at a step where a call fails
abbrev pub passed_end : End → Passed
passed_end Done = After
passed_end (Failed passed) = passed
passed_end e = Before

abbrev pub passed_then : Then → Passed
passed_then GoOn = Before
passed_then (Answer e) = passed_end e

abbrev pub passed_at : Step → Passed
passed_at (Undoing at end locks th) = Before
passed_at (Placing at th) = passed_then th
passed_at (Removing at th) = passed_then th
passed_at (Extending at th) = passed_then th
passed_at (Discarding at th) = passed_then th
passed_at (Unlocking at end th) = passed_then th
passed_at (Erasing th) = passed_then th
passed_at (Releasing e) = passed_end e
passed_at (Ended e) = passed_end e
passed_at Checking = Unknown
passed_at s = Before

-- the step after a call that failed
abbrev pub faulted_at : Step → Step
faulted_at Committing = Checking
faulted_at s = Releasing (Failed (passed_at s))

-- after a load that met `length` bytes, if there are n files
abbrev pub too_large_at : ℕ → Step → ℕ → Step
too_large_at n Looking length = Releasing (RecordTooLarge length)
too_large_at n (Testing at) length = Releasing (StagedTooLarge at length)
too_large_at n (Loading at) length = unlocking_at 0 n (Answer (TooLarge at length))
too_large_at n s length = Releasing (Failed (passed_at s))

-- after a load that ran out of memory
abbrev pub no_memory_at : ℕ → Step → Step
no_memory_at n Looking = Releasing NoMemory
no_memory_at n (Testing at) = Releasing NoMemory
no_memory_at n (Loading at) = unlocking_at 0 n (Answer NoMemory)
no_memory_at n s = Releasing (Failed (passed_at s))

-- after a look for the staged file of a removal or an extension, if m entries were found
abbrev pub tested_at : Ways → ℕ → ℕ → Bool → Step
tested_at ways m at true = known_at (ways GoOn at) at
tested_at ways m at false = placing_at ways (at + 1) m GoOn

-- what a record that was found comes to
abbrev pub recovered_at : Record → Found
recovered_at r = if is_go r then recovered.Finished r.moment else recovered.RolledBack r.moment

-- after a record was closed: one that was found came to this
abbrev pub closed_at : Found → Then → Step
closed_at found GoOn = Clearing found
closed_at found (Answer e) = Releasing e

-- After a call that went so: in a commit or not, of n files, if a record of m entries was found that came to this.
abbrev pub done_at : Ways → Bool → ℕ → ℕ → Found → Step → Bool → Step
done_at ways commits n m found (Undoing at end locks th) did = undoing_at (at + 1) end locks th
done_at ways commits n m found (Placing at th) did = placing_at ways (at + 1) (count_at n m th) th
done_at ways commits n m found (Removing at th) did = Discarding at th
done_at ways commits n m found (Extending at th) did = Discarding at th
done_at ways commits n m found (Discarding at th) did = placing_at ways (at + 1) (count_at n m th) th
done_at ways commits n m found (Unlocking at end th) did = unlocking_at (at + 1) end th
done_at ways commits n m found (Erasing th) did = closed_at found th
done_at ways commits n m found (Clearing cleared) did = if commits then Preparing else Releasing (Recovered cleared)
done_at ways commits n m found Preparing did = Publishing
done_at ways commits n m found Publishing true = locking_at 0 n
done_at ways commits n m found Publishing false = Releasing NotARecord
done_at ways commits n m found (Locking at) true = locking_at (at + 1) n
done_at ways commits n m found (Locking at) false = unlocking_at 0 at (Answer (Busy at))
done_at ways commits n m found (Staging at) did = staging_at (at + 1) n
done_at ways commits n m found Deciding did = Committing
done_at ways commits n m found Committing true = placing_at ways 0 n (Answer Done)
done_at ways commits n m found Committing false = Releasing NotARecord
done_at ways commits n m found (Releasing e) did = Ended e
done_at ways commits n m found s did = Releasing (Failed (passed_at s))

-- more than is left to do within a rank: three calls for each file, and one more
abbrev pub round : ℕ
round = 3 * file_limit + 3

-- how much is left to do, at most: each answer makes it less
abbrev pub then_rank : Then → ℕ
then_rank GoOn = 10
then_rank (Answer e) = 0

abbrev pub weight : Step → ℕ
weight Looking = 19 * round
weight (Undoing at end locks th) = (then_rank th + 5) * round + (file_limit - at)
weight (Placing at th) = (then_rank th + 5) * round + (3 * (file_limit - at) + 2)
weight (Testing at) = 15 * round + (3 * (file_limit - at) + 2)
weight (Removing at th) = (then_rank th + 5) * round + (3 * (file_limit - at) + 1)
weight (Extending at th) = (then_rank th + 5) * round + (3 * (file_limit - at) + 1)
weight (Discarding at th) = (then_rank th + 5) * round + 3 * (file_limit - at)
weight (Unlocking at end th) = (then_rank th + 4) * round + (file_limit - at)
weight (Erasing th) = (then_rank th + 3) * round
weight (Clearing found) = 12 * round + 8
weight Preparing = 12 * round
weight Publishing = 11 * round
weight (Locking at) = 10 * round + (file_limit - at)
weight (Loading at) = 9 * round + (file_limit - at)
weight (Staging at) = 8 * round + (file_limit - at)
weight Deciding = 7 * round
weight Committing = 6 * round + file_limit
weight Checking = 2 * round
weight (Releasing e) = round
weight (Ended e) = 0
