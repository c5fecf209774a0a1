-- The place after an answer.
use Rattle.std.specs.Prelude.{◌≡◌, ◌⊎◌, ◌<◌, ◌≤◌, ◌+◌, ℕ, Bool, true, false, nat_eq, List, [], map, take, slice_set, length, is_some, if◌then◌else◌}
use Rattle.std.specs.declared.option.Option.{Option}
use Rattle.std.specs.declared.option.Option.TheVariants.{Some, None}
use Rattle.std.specs.declared.result.Result.{Result}
use Rattle.std.specs.declared.result.Result.TheVariants.{Ok, Err}
use Rattle.std.specs.List.{starts_with}
use Rattle.std.specs.Option.{option_map}
use Rattle.folder_change.specs.declared.change.Change.{Change}
use Rattle.commit_machine.specs.Refusals.{first_refusal}
use Rattle.commit_record.specs.Format.{IsWritten, written}
use Rattle.commit_record.specs.declared.record.Record.{Record}
use Rattle.commit_record.specs.declared.way.Way.{Way}
use Rattle.host_port.specs.Calls.{Rose, load_limit}
use Rattle.commit_machine.specs.Names.{staged_name}
use Rattle.commit_machine.specs.Records.{is_go, names_of}
use Rattle.commit_machine.specs.Settled.{Files}
use Rattle.commit_machine.specs.Jobs.{Job}
use Rattle.commit_machine.specs.Edits.{edits_for, cause_of}
use Rattle.commit_machine.specs.Machine.{State, after_reply, refused}
use Rattle.commit_machine.specs.Machine as machine
use Rattle.commit_driver.specs.declared.step.Passed.{Passed}
use Rattle.commit_driver.specs.declared.step.Passed.TheVariants.{Before, After}
use Rattle.commit_driver.specs.declared.step.Recovered.TheVariants as recovered
use Rattle.commit_driver.specs.declared.step.End.{End}
use Rattle.commit_driver.specs.declared.step.End.TheVariants as end
use Rattle.commit_driver.specs.declared.step.Then.{Then}
use Rattle.commit_driver.specs.declared.step.Then.TheVariants.{GoOn, Answer}
use Rattle.commit_driver.specs.declared.step.Step.{Step}
use Rattle.commit_driver.specs.declared.step.Step.TheVariants as step
use Rattle.commit_driver.specs.declared.next.Call.{Call}
use Rattle.commit_driver.specs.declared.next.Call.TheVariants as call
use Rattle.commit_driver.specs.declared.judge.Trouble.{Trouble}
use Rattle.commit_driver.specs.declared.judge.Trouble.TheVariants as trouble
use Rattle.commit_driver.specs.declared.answers.Found.{Found}
use Rattle.commit_driver.specs.declared.answers.Reply.{Reply}
use Rattle.commit_driver.specs.declared.answers.Reply.TheVariants as reply
use Rattle.commit_driver.specs.declared.place.Plan.{Plan}
use Rattle.commit_driver.specs.declared.place.Place.{Place}
use Rattle.commit_driver.specs.Steps.{passed_at, placing_at, recovered_at, tested_at, undoing_at, unlocking_at, staging_at, faulted_at, too_large_at, no_memory_at, done_at, weight}
use Rattle.commit_driver.specs.Judging.{Judges, TroubleFits}
use Rattle.commit_driver.specs.Places.{files_of, entries_of, file_ways, tails_for, parts_of, ways_in, ways_of, decided_record, IsPlan, IsPlace, StandsFor}

-- the answer as the machine has it
abbrev pub reply_as : Reply → machine.Reply
reply_as (reply.Done b) = machine.Went b
reply_as (reply.Loaded c) = machine.Saw c
reply_as (reply.TooLarge n) = machine.Long n
reply_as reply.NoMemory = machine.Short
reply_as reply.Fault = machine.Fault

-- a call answers so
abbrev pub IsAnswer : Option Call → Reply → Type 0
IsAnswer None r = ⊥
IsAnswer (Some (call.Load x)) (reply.Done b) = ⊥
IsAnswer (Some (call.Load x)) r = Unit {0}
IsAnswer (Some call.Release) (reply.Done b) = Unit {0}
IsAnswer (Some call.Release) r = ⊥
IsAnswer (Some c) (reply.Done b) = Unit {0}
IsAnswer (Some c) reply.Fault = Unit {0}
IsAnswer (Some c) r = ⊥

-- the first step of closing a record that was found
abbrev pub closing_at : Record → Step
closing_at r = if is_go r then placing_at (ways_in r.entries []) 0 (length r.entries) GoOn else undoing_at 0 (length r.entries) (length r.entries) GoOn

-- the step once all of n files are loaded and judged
abbrev pub judged_at : ℕ → Result Unit Trouble → Step
judged_at n (Ok u) = staging_at 0 n
judged_at n (Err (trouble.Changed k message)) = unlocking_at 0 n (Answer (end.Changed k message))
judged_at n (Err (trouble.TooLarge k m)) = unlocking_at 0 n (Answer (end.TooLarge k m))
judged_at n (Err trouble.Memory) = unlocking_at 0 n (Answer end.NoMemory)

-- what bytes are read as
abbrev pub Finds : List ℕ → Result Found End → Type 0
Finds bytes (Ok found) = IsWritten bytes found.value × (found.staged ≡ map (λ e. staged_name found.value.token e.name) found.value.entries)
Finds bytes (Err end.NotARecord) = (r : Record) → IsWritten bytes r → ⊥
Finds bytes (Err end.NoMemory) = Unit {0}
Finds bytes (Err e) = ⊥

-- whether what stands is the record of the decision, whose text this is
abbrev pub PassedSo : List ℕ → Option (List ℕ) → Passed → Type 0
PassedSo go None p = p ≡ Before
PassedSo go (Some bytes) p = p ≡ (if starts_with nat_eq bytes (take 47 go) then After else Before)

-- a place whose step alone changes
abbrev pub at_step : Place → Step → Place
at_step place s = record place { step = s }

abbrev pub LooksAt : Result Found End → Place → Place → Type 0
LooksAt (Ok found) old now = now ≡ record old { step = closing_at found.value; found = found.value; found_staged = found.staged }
LooksAt (Err e) old now = now ≡ at_step old (step.Releasing e)

abbrev pub Looks : Plan → Option (List ℕ) → Place → Place → Type 0
Looks plan None old now = now ≡ at_step old (if plan.commits then step.Preparing else step.Clearing recovered.Nothing)
Looks plan (Some bytes) old now = (result : Result Found End) × Finds bytes result × LooksAt result old now

-- How the files come to be is settled, and the text of the decision is written, if the files were judged so, unless memory runs out.
pub record WritesGo (plan : Plan) (tails : List (Option ℕ)) (judged : Result Unit Trouble) (old : Place) (result : Result Unit Trouble) (now : Place) : Type 0 where
  pub same : (result ≡ judged) ⊎ (result ≡ Err trouble.Memory)
  pub ways : List Way
  pub ways_are : result ≡ Ok tt → ways ≡ file_ways old.files tails
  pub go : List ℕ
  pub go_is : result ≡ Ok tt → go ≡ written (decided_record plan.value ways)
  pub is : now ≡ record old { ways = ways; go = go }

-- What is made of the files once all are loaded. Then it is settled how they come to be, the text of the decision is written, and of a file
-- that is extended no more is held than is staged for it.
pub record MakesFiles (plan : Plan) (changes : List Change) (base : List (List ℕ)) (old : Place) (result : Result Unit Trouble) (now : Place) : Type 0 where
  pub made : List (Option (List ℕ))
  pub judged : Judges changes base (names_of plan.value) old.files result made
  pub fits : TroubleFits (files_of plan) result
  pub ways : List Way
  pub ways_are : result ≡ Ok tt → ways ≡ file_ways made (tails_for changes (names_of plan.value) old.files)
  pub go : List ℕ
  pub go_is : result ≡ Ok tt → go ≡ written (decided_record plan.value ways)
  pub files : List (Option (List ℕ))
  pub files_are : result ≡ Ok tt → files ≡ parts_of made ways
  pub long : length files ≡ length old.files
  pub is : now ≡ record old { files = files; ways = ways; go = go }

-- the place once this file, the last, is loaded
pub record TakesAll (plan : Plan) (files : List (Option (List ℕ))) (changes : List Change) (base : List (List ℕ)) (old now : Place) : Type 0 where
  pub result : Result Unit Trouble
  pub place : Place
  pub settles : MakesFiles plan changes base (record old { files = files }) result place
  pub is : now ≡ record place { step = judged_at (files_of plan) result }

abbrev pub Takes : Plan → ℕ → Option (List ℕ) → List Change → List (List ℕ) → Place → Place → Type 0
Takes plan at file changes base old now =
    ((at + 1 < files_of plan) × (now ≡ record old { step = step.Loading (at + 1); files = slice_set old.files at file }))
    ⊎ ((files_of plan ≤ at + 1) × TakesAll plan (slice_set old.files at file) changes base old now)

abbrev pub LoadedSo : Plan → Option (List ℕ) → List Change → List (List ℕ) → Place → Step → Place → Type 0
LoadedSo plan file changes base old step.Looking now = Looks plan file old now
LoadedSo plan file changes base old (step.Loading at) now = Takes plan at file changes base old now
LoadedSo plan file changes base old (step.Testing at) now = now ≡ record old { step = tested_at (ways_of old) (entries_of old) at (is_some file); seen = file }
LoadedSo plan file changes base old step.Checking now = (p : Passed) × PassedSo old.go file p × (now ≡ at_step old (step.Releasing (end.Failed p)))
LoadedSo plan file changes base old s now = now ≡ at_step old (step.Releasing (end.Failed (passed_at s)))

-- the place after an answer, by numbers
abbrev pub Answered : Plan → Reply → List Change → List (List ℕ) → Place → Place → Type 0
Answered plan (reply.Done did) changes base old now = now ≡ at_step old (done_at (ways_of old) plan.commits (files_of plan) (entries_of old) (recovered_at old.found) old.step did)
Answered plan (reply.Loaded file) changes base old now = LoadedSo plan file changes base old old.step now
Answered plan (reply.TooLarge n) changes base old now = now ≡ at_step old (too_large_at (files_of plan) old.step n)
Answered plan reply.NoMemory changes base old now = now ≡ at_step old (no_memory_at (files_of plan) old.step)
Answered plan reply.Fault changes base old now = now ≡ at_step old (faulted_at old.step)

-- the job is the commit of these changes, or a recovery
pub record IsCommitOf (j : Job) (changes : List Change) (base : List (List ℕ)) : Type 0 where
  pub edits_are : j.edits ≡ Some (edits_for changes base)
  pub refusal_is : (files : Files) → j.refusal files ≡ option_map cause_of (first_refusal changes base files)

-- the state is this one, or memory ran out in place of its next call
abbrev pub Follows : Job → Place → State → Type 0
Follows j place s = (t : State) × ((t ≡ s) ⊎ (t ≡ refused j s)) × StandsFor j place t

-- whether the end is settled, and isn't that memory ran out
abbrev pub settled_end : End → Bool
settled_end end.NoMemory = false
settled_end e = true

abbrev pub settled_then : Then → Bool
settled_then GoOn = false
settled_then (Answer e) = settled_end e

abbrev pub is_settled : Step → Bool
is_settled (step.Undoing at e locks th) = settled_then th
is_settled (step.Placing at th) = settled_then th
is_settled (step.Removing at th) = settled_then th
is_settled (step.Extending at th) = settled_then th
is_settled (step.Discarding at th) = settled_then th
is_settled (step.Unlocking at e th) = settled_then th
is_settled (step.Erasing th) = settled_then th
is_settled step.Checking = true
is_settled (step.Releasing e) = settled_end e
is_settled (step.Ended e) = settled_end e
is_settled s = false

abbrev pub is_too_large : Reply → Bool
is_too_large (reply.TooLarge n) = true
is_too_large r = false

-- A fault is told only if the count of disk faults rose from one number to another, and too many bytes only past the limit.
abbrev pub EndCaused : ℕ → ℕ → End → Type 0
EndCaused before now (end.Failed p) = Rose before now
EndCaused before now (end.RecordTooLarge n) = load_limit < n
EndCaused before now (end.StagedTooLarge k n) = load_limit < n
EndCaused before now (end.TooLarge k n) = load_limit < n
EndCaused before now e = Unit {0}

abbrev pub ThenCaused : ℕ → ℕ → Then → Type 0
ThenCaused before now GoOn = Unit {0}
ThenCaused before now (Answer e) = EndCaused before now e

abbrev pub Caused : ℕ → ℕ → Step → Type 0
Caused before now (step.Undoing at e locks th) = ThenCaused before now th
Caused before now (step.Placing at th) = ThenCaused before now th
Caused before now (step.Removing at th) = ThenCaused before now th
Caused before now (step.Extending at th) = ThenCaused before now th
Caused before now (step.Discarding at th) = ThenCaused before now th
Caused before now (step.Unlocking at e th) = ThenCaused before now th
Caused before now (step.Erasing th) = ThenCaused before now th
Caused before now step.Checking = Rose before now
Caused before now (step.Releasing e) = EndCaused before now e
Caused before now (step.Ended e) = EndCaused before now e
Caused before now s = Unit {0}

abbrev pub ReplyCaused : ℕ → ℕ → Reply → Type 0
ReplyCaused before now reply.Fault = Rose before now
ReplyCaused before now (reply.TooLarge n) = load_limit < n
ReplyCaused before now r = Unit {0}

-- the answer is what the load of the last file saw, which the changes are made of
abbrev pub IsLastLoad : Plan → Step → Reply → Type 0
IsLastLoad plan (step.Loading at) (reply.Loaded file) = files_of plan ≤ at + 1
IsLastLoad plan s r = ⊥

-- The place after an answer: its state is the machine's, it has less to do, and its end is settled and caused as the answer has it.
pub record IsAfter (plan : Plan) (r : Reply) (changes : List Change) (base : List (List ℕ)) (old now : Place) : Type 0 where
  pub place : IsPlace plan now
  pub lighter : weight now.step < weight old.step
  pub settled : is_settled now.step ≡ false → (is_settled old.step ≡ false) × (is_too_large r ≡ false)
  pub caused : (before after : ℕ) → Caused before after old.step → ReplyCaused before after r → Caused before after now.step
  pub follows : (j : Job) (s : State) → IsPlan j plan → (IsLastLoad plan old.step r → (j.edits ≡ None) ⊎ IsCommitOf j changes base) → StandsFor j old s → Follows j now (after_reply j s (reply_as r))
