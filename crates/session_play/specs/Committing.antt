-- What a run commits, and the own events of that.
use Rattle.std.specs.Prelude.{◌≡◌, ℕ, List, [], ◌∷◌}
use Rattle.std.specs.Option.{option_map, option_or}
use Rattle.std.specs.declared.option.Option.{Option}
use Rattle.std.specs.declared.option.Option.TheVariants.{Some, None}
use Rattle.std.specs.declared.result.Result.{Result}
use Rattle.std.specs.declared.result.Result.TheVariants.{Ok, Err}
use Rattle.host_port.specs.declared.event.Event.{Event}
use Rattle.folder_change.specs.declared.change.Change.{Change}
use Rattle.folder_change.specs.Changes.{name_of}
use Rattle.commit_driver.specs.declared.step.Passed.{Passed}
use Rattle.folder_commit.specs.declared.error.CommitError.{CommitError}
use Rattle.folder_commit.specs.declared.error.CommitError.TheVariants as error
use Rattle.folder_commit.specs.Commits.{IsCommit}
use Rattle.session_play.specs.declared.stop.Stop.{Stop}
use Rattle.session_play.specs.declared.stop.Stop.TheVariants as stop
use Rattle.session_play.specs.declared.changing.Attempt.{Attempt}
use Rattle.session_play.specs.declared.changing.Attempt.TheVariants.{Made, Misnamed}
use Rattle.session_play.specs.declared.changing.Committed.{Committed}
use Rattle.session_play.specs.declared.changing.Committed.TheVariants as committed
use Rattle.session_play.specs.declared.naming.NameFault.{NameFault}
use Rattle.session_play.specs.Naming.{target_fault}

-- Changes of files, made at once by an actor under a token, and the texts of the folder that a rewrite among them was made for.
pub record Commit : Type 0 where
  pub actor : List ℕ
  pub token : ℕ
  pub changes : List Change
  pub base : List (List ℕ)

abbrev pub wanted_of : List ℕ → ℕ → List Change → List (List ℕ) → Commit
wanted_of actor token changes base = record { actor = actor; token = token; changes = changes; base = base }

-- the first of these changes' files whose name is at fault, for an actor
abbrev pub first_target_fault : List ℕ → List Change → Option (List ℕ × NameFault)
first_target_fault actor [] = None
first_target_fault actor (c ∷ cs) = option_or (option_map (λ fault. (name_of c, fault)) (target_fault actor (name_of c))) (first_target_fault actor cs)

-- the name of no file of a commit is at fault
abbrev pub IsWellNamed : Commit → Type 0
IsWellNamed c = first_target_fault c.actor c.changes ≡ None

-- an answer to a commit, as the commit gives it
abbrev pub answer_as : Committed → Result Unit CommitError
answer_as committed.Done = Ok tt
answer_as (committed.Busy name) = Err (error.Busy name)
answer_as committed.NotARecord = Err error.Record
answer_as (committed.Changed name at) = Err (error.Changed name at)
answer_as (committed.TooLarge name length) = Err (error.TooLarge name length)
answer_as (committed.TooManyNames count) = Err (error.TooManyNames count)

-- Own events of a commit that gives this answer: none without a change or with more than 256 files, else those of one bracket, which carry the
-- machine of its job from its start to its end, at the time that it was told.
abbrev pub IsCommitOf : Commit → List Event → Result Unit CommitError → Type 0
IsCommitOf c es answer = IsCommit c.actor c.token c.changes c.base es answer

-- Own events of a commit whose files are well named; or none, and the first name that is at fault.
abbrev pub Attempted : Commit → Attempt → List Event → Type 0
Attempted c (Made answer) es = IsWellNamed c × IsCommitOf c es (answer_as answer)
Attempted c (Misnamed name fault) es = (first_target_fault c.actor c.changes ≡ Some (name, fault)) × (es ≡ [])

-- a call failed in them, before the decision, after it, or where it isn't known which
abbrev pub FailsIn : Commit → List Event → Type 0
FailsIn c es = IsWellNamed c × ((passed : Passed) × IsCommitOf c es (Err (error.Disk passed)))

-- memory ran out in them
abbrev pub RunsOutIn : Commit → List Event → Type 0
RunsOutIn c es = IsWellNamed c × IsCommitOf c es (Err error.Memory)

-- what a run makes of a commit's answer: a fault of the disk and running out of memory cut it off
abbrev pub taken : Result Unit CommitError → Result Attempt Stop
taken (Ok u) = Ok (Made committed.Done)
taken (Err (error.Busy name)) = Ok (Made (committed.Busy name))
taken (Err error.Record) = Ok (Made committed.NotARecord)
taken (Err (error.Changed name at)) = Ok (Made (committed.Changed name at))
taken (Err (error.TooLarge name length)) = Ok (Made (committed.TooLarge name length))
taken (Err (error.TooManyNames count)) = Ok (Made (committed.TooManyNames count))
taken (Err (error.Disk passed)) = Err stop.Disk
taken (Err error.Memory) = Err stop.Memory
