-- What a commit of changes promises.
use Rattle.std.specs.Prelude.{◌≡◌, ◌⊎◌, ◌<◌, ◌≤◌, ℕ, ℤ, List, [], ◌∷◌, length}
use Rattle.std.specs.declared.result.Result.{Result}
use Rattle.std.specs.declared.result.Result.TheVariants.{Ok, Err}
use Rattle.host_port.specs.declared.event.Event.{Event}
use Rattle.folder_change.specs.declared.change.Change.{Change}
use Rattle.commit_machine.specs.Records.{names_of}
use Rattle.commit_record.specs.Format.{file_limit}
use Rattle.commit_machine.specs.Edits.{first_names, timed_for}
use Rattle.commit_driver.specs.declared.step.End.{End}
use Rattle.commit_driver.specs.declared.step.End.TheVariants as end
use Rattle.commit_driver.specs.declared.place.Plan.{Plan}
use Rattle.commit_driver.specs.declared.place.Place.{Place}
use Rattle.commit_driver.specs.Places.{nth}
use Rattle.folder_commit.specs.declared.error.CommitError.{CommitError}
use Rattle.folder_commit.specs.declared.error.CommitError.TheVariants as error
use Rattle.folder_commit.specs.Ends.{Commits, AreNamed}

-- too many files are named: there is no event, and running out of memory alone hides it
abbrev pub IsTooMany : ℕ → List Event → Result Unit CommitError → Type 0
IsTooMany count es result = (es ≡ []) × ((result ≡ Err (error.TooManyNames count)) ⊎ (result ≡ Err error.Memory))

-- Without a change there is no event, and with more than 256 files neither. Else the events carry the machine of the changes' commit from its
-- start to its end, as the answer says, at the time that it was told.
abbrev pub IsCommit : List ℕ → ℕ → List Change → List (List ℕ) → List Event → Result Unit CommitError → Type 0
IsCommit actor token [] base es result = (es ≡ []) × (result ≡ Ok tt)
IsCommit actor token (c ∷ cs) base es result =
    ((file_limit < length (first_names (c ∷ cs))) × IsTooMany (length (first_names (c ∷ cs))) es result)
    ⊎ ((length (first_names (c ∷ cs)) ≤ file_limit) × ((time : ℤ) × Commits (timed_for actor token time (c ∷ cs) base) es result))

-- the names in an answer
abbrev pub IsNamed : List ℕ → List Change → Result Unit CommitError → Type 0
IsNamed actor [] result = result ≡ Ok tt
IsNamed actor (c ∷ cs) result = AreNamed actor (first_names (c ∷ cs)) result

-- the answer if a commit of this plan, whose right was taken, ends so; it isn't a recovery
abbrev pub answer_of : End → Plan → Place → Result Unit CommitError
answer_of end.Done plan place = Ok tt
answer_of (end.Busy k) plan place = Err (error.Busy (nth (names_of plan.value) k))
answer_of (end.RecordTooLarge n) plan place = Err (error.TooLarge plan.record n)
answer_of (end.StagedTooLarge k n) plan place = Err (error.TooLarge (nth place.found_staged k) n)
answer_of (end.TooLarge k n) plan place = Err (error.TooLarge (nth (names_of plan.value) k) n)
answer_of (end.Changed k at) plan place = Err (error.Changed (nth (names_of plan.value) k) at)
answer_of (end.Failed p) plan place = Err (error.Disk p)
answer_of end.NoMemory plan place = Err error.Memory
answer_of e plan place = Err error.Record
