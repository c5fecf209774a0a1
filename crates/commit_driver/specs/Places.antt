-- The machine's state that a place stands for.
use Rattle.std.specs.Prelude.{◌≡◌, ◌⊎◌, ◌≤◌, ◌+◌, ℕ, Bool, true, false, nat_le, if◌then◌else◌, List, [], ◌∷◌, map, take, drop, get_or, length, is_some, All}
use Rattle.std.specs.declared.option.Option.{Option}
use Rattle.std.specs.declared.option.Option.TheVariants.{Some, None}
use Rattle.std.specs.Option.{option_map}
use Rattle.host_port.specs.Names.{IsFileName}
use Rattle.folder_change.specs.Outcomes.{bytes_of}
use Rattle.commit_record.specs.Format.{is_valid, file_limit, written}
use Rattle.commit_record.specs.declared.record.Phase.TheVariants.{Prepare, Go}
use Rattle.commit_record.specs.Ways.{way_of, entry_for}
use Rattle.commit_record.specs.declared.record.Entry.{Entry}
use Rattle.commit_record.specs.declared.record.Record.{Record}
use Rattle.commit_record.specs.declared.way.Way.{Way}
use Rattle.commit_record.specs.declared.way.Way.TheVariants.{Replace, Remove, Extend}
use Rattle.commit_machine.specs.Names.{record_name, new_name, right_name, staged_name}
use Rattle.commit_machine.specs.Records.{names_of, AreDistinct}
use Rattle.commit_machine.specs.Settled.{Mem}
use Rattle.commit_machine.specs.Jobs.{Ending, Outcome, Puts, Edit, Job, Made, moment_of, edits_of, all_of, prepare_of, go_of}
use Rattle.commit_machine.specs.Jobs as jobs
use Rattle.commit_machine.specs.Edits.{only_adds}
use Rattle.folder_change.specs.declared.change.Change.{Change}
use Rattle.host_port.specs.Calls.{load_limit}
use Rattle.commit_machine.specs.Items.{Item, found_items, made_items}
use Rattle.commit_machine.specs.Machine.{State, stay, next, go_front, undoing, unlocking, locking, loading, staging}
use Rattle.commit_machine.specs.Machine as machine
use Rattle.commit_driver.specs.declared.step.Passed.{Passed}
use Rattle.commit_driver.specs.declared.step.Passed.TheVariants as passed
use Rattle.commit_driver.specs.declared.step.Recovered.{Recovered}
use Rattle.commit_driver.specs.declared.step.Recovered.TheVariants as recovered
use Rattle.commit_driver.specs.declared.step.End.{End}
use Rattle.commit_driver.specs.declared.step.End.TheVariants as end
use Rattle.commit_driver.specs.declared.step.Then.{Then}
use Rattle.commit_driver.specs.declared.step.Then.TheVariants as then
use Rattle.commit_driver.specs.declared.step.Step.{Step}
use Rattle.commit_driver.specs.declared.step.Step.TheVariants as step
use Rattle.commit_driver.specs.declared.next.Name.{Name}
use Rattle.commit_driver.specs.declared.next.Name.TheVariants as name
use Rattle.commit_driver.specs.declared.next.Call.{Call}
use Rattle.commit_driver.specs.declared.next.Call.TheVariants as call
use Rattle.commit_driver.specs.declared.place.Plan.{Plan}
use Rattle.commit_driver.specs.declared.place.Place.{Place}
use Rattle.commit_driver.specs.Steps.{Ways, Fits}

-- a place once the right was taken, with room for as many files as these
abbrev pub begun : List (Option (List ℕ)) → Place
begun files = record { step = step.Looking; found = record { phase = Prepare; token = 0; moment = None; entries = [] }; found_staged = []; seen = None; files = files; ways = []; go = [] }

-- how many files a plan has, and how many entries the record that was found
abbrev pub files_of : Plan → ℕ
files_of plan = length plan.value.entries

abbrev pub entries_of : Place → ℕ
entries_of place = length place.found.entries

-- how a file comes to be that is to be so, if so many of its bytes stay
abbrev pub file_way : Option (List ℕ) → Option ℕ → Way
file_way None tail = Remove
file_way (Some bytes) None = Replace
file_way (Some bytes) (Some at) = Extend at

abbrev pub file_ways : List (Option (List ℕ)) → List (Option ℕ) → List Way
file_ways [] tails = []
file_ways (file ∷ files) [] = []
file_ways (file ∷ files) (tail ∷ tails) = file_way file tail ∷ file_ways files tails

-- how many bytes of a loaded file stay, if it stands and is only added to
abbrev pub tail_at : Bool → Option (List ℕ) → Option ℕ
tail_at false file = None
tail_at true None = None
tail_at true (Some bytes) = if nat_le (length bytes) load_limit then Some (length bytes) else None

abbrev pub tails_for : List Change → List (List ℕ) → List (Option (List ℕ)) → List (Option ℕ)
tails_for changes [] files = []
tails_for changes (n ∷ ns) [] = []
tails_for changes (n ∷ ns) (file ∷ files) = tail_at (only_adds changes n) file ∷ tails_for changes ns files

-- how the files of entries that were found come to be, and those of a plan
abbrev pub ways_in : List Entry → List Way → Ways
ways_in entries ways then.GoOn k = get_or (map way_of entries) k Replace
ways_in entries ways (then.Answer e) k = get_or ways k Replace

abbrev pub ways_of : Place → Ways
ways_of place = ways_in place.found.entries place.ways

-- the entries of files that come to be so
abbrev pub decided_entries : List Entry → List Way → List Entry
decided_entries [] ways = []
decided_entries (e ∷ es) [] = []
decided_entries (e ∷ es) (way ∷ ways) = entry_for way e.name ∷ decided_entries es ways

-- the record of the decision, of files that come to be so
abbrev pub decided_record : Record → List Way → Record
decided_record value ways = record { phase = Go; token = value.token; moment = value.moment; entries = decided_entries value.entries ways }

-- the name with this number
abbrev pub nth : List (List ℕ) → ℕ → List ℕ
nth names k = get_or names k []

abbrev pub name_in : Plan → Place → Name → List ℕ
name_in plan place name.Record = plan.record
name_in plan place name.New = plan.new
name_in plan place name.Right = plan.right
name_in plan place (name.File k) = nth (names_of plan.value) k
name_in plan place (name.Staged k) = nth plan.staged k
name_in plan place (name.Found k) = nth (names_of place.found) k
name_in plan place (name.FoundStaged k) = nth place.found_staged k

-- what is held of a file that comes to be so: of one that is extended, what comes behind the bytes that stay
abbrev pub part_of : Way → Option (List ℕ) → Option (List ℕ)
part_of (Extend at) (Some bytes) = Some (drop at bytes)
part_of way file = file

abbrev pub parts_of : List (Option (List ℕ)) → List Way → List (Option (List ℕ))
parts_of [] ways = []
parts_of (file ∷ files) [] = file ∷ files
parts_of (file ∷ files) (way ∷ ways) = part_of way file ∷ parts_of files ways

-- what is staged for the file with this number, once that is held
abbrev pub content_at : List (Option (List ℕ)) → ℕ → List ℕ
content_at files k = bytes_of (get_or files k None)

-- the machine's call that a call is
abbrev pub call_in : Plan → Place → Call → machine.Call
call_in plan place (call.Load x) = machine.ToLoad (name_in plan place x)
call_in plan place call.StagePrepare = machine.ToStage plan.new plan.prepare
call_in plan place call.StageGo = machine.ToStage plan.new place.go
call_in plan place (call.StageFile k) = machine.ToStage (nth plan.staged k) (content_at place.files k)
call_in plan place (call.Publish x y) = machine.ToPublish (name_in plan place x) (name_in plan place y)
call_in plan place (call.Extend k) = machine.ToExtend (nth (names_of plan.value) k) (stay (get_or place.ways k Replace)) (content_at place.files k)
call_in plan place (call.ExtendFound k) = machine.ToExtend (nth (names_of place.found) k) (stay (get_or (map way_of place.found.entries) k Replace)) (bytes_of place.seen)
call_in plan place (call.Erase x) = machine.ToErase (name_in plan place x)
call_in plan place (call.Lock k) = machine.ToLock (nth (names_of plan.value) k) plan.value.token
call_in plan place (call.Unlock k) = machine.ToUnlock (nth (names_of plan.value) k) plan.value.token
call_in plan place (call.UnlockFound k) = machine.ToUnlock (nth (names_of place.found) k) place.found.token
call_in plan place call.Release = machine.ToRelease plan.right

abbrev pub passed_as : Passed → jobs.Passed
passed_as passed.Before = jobs.Before
passed_as passed.After = jobs.After
passed_as passed.Unknown = jobs.Unknown

abbrev pub found_as : Recovered → jobs.Found
found_as recovered.Nothing = jobs.Nothing
found_as (recovered.RolledBack moment) = jobs.RolledBack moment
found_as (recovered.Finished moment) = jobs.Finished moment

-- The machine's end that an end is, if this record was found. Running out of memory may stand for another end, which it hides.
abbrev pub end_as : Job → Ending → Record → End → Ending
end_as j hidden found end.Done = jobs.Done
end_as j hidden found (end.Recovered f) = jobs.Recovered (found_as f)
end_as j hidden found (end.Busy k) = jobs.Refused (jobs.Busy (nth (all_of j) k))
end_as j hidden found end.NotARecord = jobs.Refused jobs.NotARecord
end_as j hidden found (end.RecordTooLarge n) = jobs.Refused (jobs.TooLarge (record_name j.actor) n)
end_as j hidden found (end.StagedTooLarge k n) = jobs.Refused (jobs.TooLarge (staged_name found.token (nth (names_of found) k)) n)
end_as j hidden found (end.TooLarge k n) = jobs.Refused (jobs.TooLarge (nth (all_of j) k) n)
end_as j hidden found (end.Changed k at) = jobs.Refused (jobs.Changed (nth (all_of j) k) at)
end_as j hidden found (end.Failed p) = jobs.Failed (passed_as p)
end_as j hidden found end.NoMemory = hidden

abbrev pub then_as : Job → Ending → Record → Then → machine.Then
then_as j hidden found then.GoOn = machine.GoOn
then_as j hidden found (then.Answer e) = machine.Answer (end_as j hidden found e)

-- the record that is done with, and its names
abbrev pub own_record : Job → List Made → End → Record
own_record j made end.Done = go_of j made
own_record j made e = prepare_of j

abbrev pub record_as : Job → List Made → Record → Then → Record
record_as j made found then.GoOn = found
record_as j made found (then.Answer e) = own_record j made e

abbrev pub names_as : Job → Record → Then → List (List ℕ)
names_as j found then.GoOn = names_of found
names_as j found (then.Answer e) = all_of j

-- what is put in place
abbrev pub items_as : Job → List Made → Record → Then → List Item
items_as j made found then.GoOn = found_items found
items_as j made found (then.Answer e) = made_items j made

-- the one with this number
abbrev pub nth_item : List Item → ℕ → Item
nth_item xs k = get_or xs k (record { name = []; way = Replace; staged = None })

-- the one that is next, once its staged file was looked for
abbrev pub item_seen : Then → Option (List ℕ) → Item → Item
item_seen then.GoOn seen x = record x { staged = seen }
item_seen (then.Answer e) seen x = x

abbrev pub outcome_way : Outcome → Way
outcome_way (Puts way content) = way

abbrev pub outcome_content : Outcome → List ℕ
outcome_content (Puts way content) = content

-- what is made of edits if their files were loaded so
abbrev pub made_by : Edit → Option (List ℕ) → Outcome → Made
made_by e seen o = record { edit = e; seen = seen; way = outcome_way o; content = outcome_content o }

abbrev pub made_from : List Edit → List (Option (List ℕ)) → List Made
made_from [] files = []
made_from (e ∷ es) [] = []
made_from (e ∷ es) (file ∷ files) = made_by e file (e.by file) ∷ made_from es files

-- The state that a step stands for: in a job, with what running out of memory hides, what was made of the files, the record that was found,
-- what was seen of a staged file of it, and the files that were loaded.
abbrev pub state_as : Job → Ending → List Made → Record → Option (List ℕ) → List (Option (List ℕ)) → Step → State
state_as j hidden made found seen files step.Looking = machine.Looking
state_as j hidden made found seen files (step.Undoing at end locks th) =
    undoing (record_as j made found th) (drop at (take end (names_as j found th))) (take locks (names_as j found th)) (then_as j hidden found th)
state_as j hidden made found seen files (step.Placing at th) =
    machine.Placing (record_as j made found th) (nth_item (items_as j made found th) at) (drop (at + 1) (items_as j made found th)) (names_as j found th) (then_as j hidden found th)
state_as j hidden made found seen files (step.Testing at) = machine.Testing found (nth_item (found_items found) at) (drop (at + 1) (found_items found)) (names_of found)
state_as j hidden made found seen files (step.Removing at th) =
    machine.Removing (record_as j made found th) (item_seen th seen (nth_item (items_as j made found th) at))
    (drop (at + 1) (items_as j made found th)) (names_as j found th) (then_as j hidden found th)
state_as j hidden made found seen files (step.Extending at th) =
    machine.Extending (record_as j made found th) (item_seen th seen (nth_item (items_as j made found th) at))
    (drop (at + 1) (items_as j made found th)) (names_as j found th) (then_as j hidden found th)
state_as j hidden made found seen files (step.Discarding at th) =
    machine.Discarding (record_as j made found th) (item_seen th seen (nth_item (items_as j made found th) at))
    (drop (at + 1) (items_as j made found th)) (names_as j found th) (then_as j hidden found th)
state_as j hidden made found seen files (step.Unlocking at end th) =
    unlocking (record_as j made found th) (drop at (take end (names_as j found th))) (then_as j hidden found th)
state_as j hidden made found seen files (step.Erasing th) = machine.Erasing (record_as j made found th) (then_as j hidden found th)
state_as j hidden made found seen files (step.Clearing f) = machine.Clearing (found_as f)
state_as j hidden made found seen files step.Preparing = machine.Preparing
state_as j hidden made found seen files step.Publishing = machine.Publishing
state_as j hidden made found seen files (step.Locking at) = locking j (take at (all_of j)) (drop at (edits_of j))
state_as j hidden made found seen files (step.Loading at) = loading j (made_from (edits_of j) (take at files)) (drop at (edits_of j))
state_as j hidden made found seen files (step.Staging at) = staging (take at (all_of j)) made (drop at made)
state_as j hidden made found seen files step.Deciding = machine.Deciding made
state_as j hidden made found seen files step.Committing = machine.Committing made
state_as j hidden made found seen files step.Checking = machine.Checking
state_as j hidden made found seen files (step.Releasing e) = machine.Releasing (end_as j hidden found e)
state_as j hidden made found seen files (step.Ended e) = machine.Ended (end_as j hidden found e)

-- What running out of memory may hide, in a commit of files of these names. To read the record takes memory, and so does to judge the
-- changes of a file. A right or a lock that another has is seen without memory.
abbrev pub MayHide : List (List ℕ) → jobs.Refusal → Type 0
MayHide files (jobs.Busy n) = ⊥
MayHide files jobs.NotARecord = Unit {0}
MayHide files (jobs.TooLarge n length) = Mem n files
MayHide files (jobs.Changed n at) = Mem n files

-- memory was wanting, which may hide such a refusal
abbrev pub WantedAs : List (List ℕ) → Ending → Type 0
WantedAs files e = (e ≡ jobs.NoMemory) ⊎ ((why : jobs.Refusal) × MayHide files why × (e ≡ jobs.Refused why))

-- the texts of a commit
pub record AreTexts (j : Job) (plan : Plan) : Type 0 where
  pub distinct : AreDistinct (all_of j)
  pub prepare_is : plan.prepare ≡ written (prepare_of j)

-- the plan is that of a job
pub record IsPlan (j : Job) (plan : Plan) : Type 0 where
  pub record_is : plan.record ≡ record_name j.actor
  pub new_is : plan.new ≡ new_name j.actor
  pub right_is : plan.right ≡ right_name j.actor
  pub commits_is : plan.commits ≡ is_some j.edits
  pub token_is : 1 ≤ files_of plan → plan.value.token ≡ j.token
  pub moment_is : plan.value.moment ≡ moment_of j
  pub names_are : names_of plan.value ≡ all_of j
  pub staged_are : plan.staged ≡ map (staged_name j.token) (all_of j)
  pub texts_are : is_some j.edits ≡ true → AreTexts j plan

-- what was made is what is staged, by the record of the decision
pub record IsMade (j : Job) (made : List Made) (files : List (Option (List ℕ))) (ways : List Way) (go : List ℕ) : Type 0 where
  pub distinct : AreDistinct (all_of j)
  pub names_are : map (λ x. x.edit.name) made ≡ all_of j
  pub ways_are : ways ≡ map (λ x. x.way) made
  pub contents_are : map bytes_of files ≡ map (λ x. x.content) made
  pub go_is : go ≡ written (go_of j made)

-- an entry is put in place of a record that was found, or of the own one once it is decided
abbrev pub PlacesSo : Job → List Made → List (Option (List ℕ)) → List Way → List ℕ → Then → Type 0
PlacesSo j made files ways go then.GoOn = Unit {0}
PlacesSo j made files ways go (then.Answer end.Done) = IsMade j made files ways go
PlacesSo j made files ways go (then.Answer e) = ⊥

-- what a step takes for granted: some belong to a commit, and a file is staged once all are made
abbrev pub Holds : Job → List Made → List (Option (List ℕ)) → List Way → List ℕ → Step → Type 0
Holds j made files ways go (step.Placing at th) = PlacesSo j made files ways go th
Holds j made files ways go (step.Removing at th) = PlacesSo j made files ways go th
Holds j made files ways go (step.Extending at th) = PlacesSo j made files ways go th
Holds j made files ways go (step.Discarding at th) = PlacesSo j made files ways go th
Holds j made files ways go step.Preparing = is_some j.edits ≡ true
Holds j made files ways go step.Publishing = is_some j.edits ≡ true
Holds j made files ways go (step.Locking at) = is_some j.edits ≡ true
Holds j made files ways go (step.Loading at) = is_some j.edits ≡ true
Holds j made files ways go (step.Staging at) = IsMade j made files ways go
Holds j made files ways go step.Deciding = IsMade j made files ways go
Holds j made files ways go step.Committing = IsMade j made files ways go
Holds j made files ways go step.Checking = take 47 go ≡ go_front (moment_of j) j.token
Holds j made files ways go s = Unit {0}

-- The place stands for this state of the job.
pub record StandsFor (j : Job) (place : Place) (s : State) : Type 0 where
  pub hidden : Ending
  pub wanted : WantedAs (all_of j) hidden
  pub made : List Made
  pub holds : Holds j made place.files place.ways place.go place.step
  pub is : state_as j hidden made place.found place.seen place.files place.step ≡ s

-- what a place keeps in order, for a plan
pub record IsPlace (plan : Plan) (place : Place) : Type 0 where
  pub fits : Fits (files_of plan) (entries_of place) place.step
  pub staged_are : place.found_staged ≡ map (staged_name place.found.token) (names_of place.found)
  pub few : entries_of place ≤ file_limit
  pub files_are : length place.files ≡ files_of plan
  pub distinct : AreDistinct (names_of place.found)
  pub names : All IsFileName (names_of place.found)
  pub staged : All IsFileName place.found_staged

-- a host takes the names of the plan
pub record IsSafe (plan : Plan) : Type 0 where
  pub record_file : IsFileName plan.record
  pub new_file : IsFileName plan.new
  pub right_file : IsFileName plan.right
  pub names : All IsFileName (names_of plan.value)
  pub staged : All IsFileName plan.staged
  pub staged_long : length plan.staged ≡ files_of plan
  pub few : files_of plan ≤ file_limit
  pub some : plan.commits ≡ true → 1 ≤ files_of plan
  pub valid : 1 ≤ files_of plan → is_valid plan.value ≡ true

-- the files of the plan are as many as a record may have, and a commit has some
pub record IsCounted (plan : Plan) : Type 0 where
  pub few : files_of plan ≤ file_limit
  pub some : plan.commits ≡ true → 1 ≤ files_of plan
  pub valid : 1 ≤ files_of plan → is_valid plan.value ≡ true

-- a call is the machine's next
abbrev pub NextOf : Plan → Place → Option Call → Type 0
NextOf plan place result = (j : Job) (s : State) → IsPlan j plan → IsPlace plan place → StandsFor j place s → option_map (call_in plan place) result ≡ next j s
