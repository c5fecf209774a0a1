-- One machine for commit and recovery: the next disk call by the state, and the state after its answer.
use Rattle.std.specs.Prelude.{ℕ, ℤ, Bool, true, false, ◌&&◌, ◌==◌, nat_eq, List, [], ◌∷◌, ◌++◌, codes, Option, Some, None, if◌then◌else◌}
use Rattle.std.specs.List.{starts_with}
use Rattle.commit_record.specs.Format.{line, phase_word, token_digits, version_line, written}
use Rattle.commit_record.specs.declared.record.Phase.TheVariants.{Go}
use Rattle.commit_record.specs.declared.record.Record.{Record}
use Rattle.commit_record.specs.declared.way.Way.{Way}
use Rattle.commit_record.specs.declared.way.Way.TheVariants.{Replace, Remove, Extend}
use Rattle.folder_change.specs.Outcomes.{bytes_of}
use Rattle.commit_machine.specs.Names.{record_name, new_name, right_name, staged_name}
use Rattle.commit_machine.specs.Records.{record_of, is_go, names_of}
use Rattle.commit_machine.specs.Items.{Item, found_items, made_items}
use Rattle.commit_machine.specs.Jobs.{Passed, Before, After, Unknown, Found, Nothing, RolledBack, Finished, Busy, NotARecord, TooLarge, Ending, Done, Recovered, Refused, Failed, NoMemory, Refusal, Outcome, Puts, Edit, Job, Made, moment_of, edits_of, all_of, seen_files, prepare_of, go_of}

-- what follows when a record is done with: the rest of the job, or the end
pub data Then : Type 0 where
  GoOn : Then
  Answer : Ending → Then

pub data State : Type 0 where
  Seizing : State
  -- the time is asked for, which is this
  Timing : ℤ → State
  Looking : State
  -- a record, the name that is next, the names after it, and the names to unlock then
  Undoing : Record → List ℕ → List (List ℕ) → List (List ℕ) → Then → State
  -- a record, what is next put in place, what after it, and the names to unlock then
  Placing : Record → Item → List Item → List (List ℕ) → Then → State
  -- A file that is removed or extended. If the record was found, the staged file is looked for first; then the file is taken away, or
  -- gets its tail, and then its staged file is taken away.
  Testing : Record → Item → List Item → List (List ℕ) → State
  Extending : Record → Item → List Item → List (List ℕ) → Then → State
  Removing : Record → Item → List Item → List (List ℕ) → Then → State
  Discarding : Record → Item → List Item → List (List ℕ) → Then → State
  Unlocking : Record → List ℕ → List (List ℕ) → Then → State
  Erasing : Record → Then → State
  -- what a recovery found
  Clearing : Found → State
  Preparing : State
  Publishing : State
  -- the names that are locked, the edit that is next, and those after it
  Locking : List (List ℕ) → Edit → List Edit → State
  Loading : List Made → Edit → List Edit → State
  -- the names that are staged, all that was made, what is staged next, and what after it
  Staging : List (List ℕ) → List Made → Made → List Made → State
  Deciding : List Made → State
  Committing : List Made → State
  Checking : State
  Releasing : Ending → State
  Ended : Ending → State

pub data Call : Type 0 where
  -- the time, which is this
  ToAsk : ℤ → Call
  ToLoad : List ℕ → Call
  ToStage : List ℕ → List ℕ → Call
  ToPublish : List ℕ → List ℕ → Call
  ToExtend : List ℕ → ℕ → List ℕ → Call
  ToErase : List ℕ → Call
  ToLock : List ℕ → ℕ → Call
  ToUnlock : List ℕ → ℕ → Call
  ToSeize : List ℕ → Call
  ToRelease : List ℕ → Call

pub data Reply : Type 0 where
  Went : Bool → Reply
  Saw : Option (List ℕ) → Reply
  Long : ℕ → Reply
  Short : Reply
  Fault : Reply

-- once the right is taken: a job with a time asks for it
abbrev pub asking : Option ℤ → State
asking None = Looking
asking (Some time) = Timing time

-- the states that a list of names leads to
abbrev pub unlocking : Record → List (List ℕ) → Then → State
unlocking r [] th = Erasing r th
unlocking r (n ∷ ns) th = Unlocking r n ns th

abbrev pub undoing : Record → List (List ℕ) → List (List ℕ) → Then → State
undoing r [] ls th = unlocking r ls th
undoing r (n ∷ ns) ls th = Undoing r n ns ls th

-- a removal or an extension of a record that was found may be done already
abbrev pub removing : Record → Item → List Item → List (List ℕ) → Then → State
removing r x xs ls GoOn = Testing r x xs ls
removing r x xs ls (Answer e) = Removing r x xs ls (Answer e)

abbrev pub extending : Record → Item → List Item → List (List ℕ) → Then → State
extending r x xs ls GoOn = Testing r x xs ls
extending r x xs ls (Answer e) = Extending r x xs ls (Answer e)

abbrev pub place_one : Way → Record → Item → List Item → List (List ℕ) → Then → State
place_one Replace r x xs ls th = Placing r x xs ls th
place_one Remove r x xs ls th = removing r x xs ls th
place_one (Extend at) r x xs ls th = extending r x xs ls th

-- the staged file is known to stand; that of a file that is replaced isn't looked for
abbrev pub place_known : Way → Record → Item → List Item → List (List ℕ) → Then → State
place_known Replace r x xs ls th = Removing r x xs ls th
place_known Remove r x xs ls th = Removing r x xs ls th
place_known (Extend at) r x xs ls th = Extending r x xs ls th

-- how many bytes of the file stay
abbrev pub stay : Way → ℕ
stay (Extend at) = at
stay way = 0

abbrev pub placing : Record → List Item → List (List ℕ) → Then → State
placing r [] ls th = unlocking r ls th
placing r (x ∷ xs) ls th = place_one x.way r x xs ls th

-- a removal or an extension whose staged file is gone was done before
abbrev pub tested : Record → Item → List Item → List (List ℕ) → Option (List ℕ) → State
tested r x xs ls None = placing r xs ls GoOn
tested r x xs ls (Some bytes) = place_known x.way r (record x { staged = Some bytes }) xs ls GoOn

abbrev pub staging : List (List ℕ) → List Made → List Made → State
staging ns done [] = Deciding done
staging ns done (x ∷ left) = Staging ns done x left

-- once no record stands
abbrev pub mended : Option (List Edit) → Found → State
mended None found = Releasing (Recovered found)
mended (Some es) found = Preparing

abbrev pub none_stands : Option (List Edit) → State
none_stands None = Clearing Nothing
none_stands (Some es) = Preparing

-- a record stands
abbrev pub mending : Record → State
mending r = if is_go r then placing r (found_items r) (names_of r) GoOn else undoing r (names_of r) (names_of r) GoOn

abbrev pub found_of : Record → Found
found_of r = if is_go r then Finished r.moment else RolledBack r.moment

abbrev pub record_seen : Option Record → State
record_seen None = Releasing (Refused NotARecord)
record_seen (Some r) = mending r

abbrev pub looked : Job → Option (List ℕ) → State
looked j None = none_stands j.edits
looked j (Some bytes) = record_seen (record_of bytes)

-- the clean-up of the own record before a refusal: what is staged, what is locked
abbrev pub refusing : Job → List (List ℕ) → List (List ℕ) → Ending → State
refusing j ns ls why = undoing (prepare_of j) ns ls (Answer why)

-- once all files are loaded: the job is refused, or the outcomes are staged
abbrev pub judged : Job → List Made → Option Refusal → State
judged j done None = staging [] done done
judged j done (Some why) = refusing j [] (all_of j) (Refused why)

abbrev pub loading : Job → List Made → List Edit → State
loading j done [] = judged j done (j.refusal (seen_files done))
loading j done (e ∷ left) = Loading done e left

abbrev pub locking : Job → List (List ℕ) → List Edit → State
locking j ls [] = loading j [] (edits_of j)
locking j ls (e ∷ left) = Locking ls e left

abbrev pub loaded : Job → List Made → Edit → List Edit → Option (List ℕ) → Outcome → State
loaded j done e left seen (Puts way content) = loading j (done ++ (record { edit = e; seen = seen; way = way; content = content } ∷ [])) left

-- the next call; none at the end
abbrev pub next : Job → State → Option Call
next j Seizing = Some (ToSeize (right_name j.actor))
next j (Timing time) = Some (ToAsk time)
next j Looking = Some (ToLoad (record_name j.actor))
next j (Undoing r n ns ls th) = Some (ToErase (staged_name r.token n))
next j (Placing r x xs ls th) = Some (ToPublish (staged_name r.token x.name) x.name)
next j (Testing r x xs ls) = Some (ToLoad (staged_name r.token x.name))
next j (Removing r x xs ls th) = Some (ToErase x.name)
next j (Extending r x xs ls th) = Some (ToExtend x.name (stay x.way) (bytes_of x.staged))
next j (Discarding r x xs ls th) = Some (ToErase (staged_name r.token x.name))
next j (Unlocking r n ns th) = Some (ToUnlock n r.token)
next j (Erasing r th) = Some (ToErase (record_name j.actor))
next j (Clearing found) = Some (ToErase (new_name j.actor))
next j Preparing = Some (ToStage (new_name j.actor) (written (prepare_of j)))
next j Publishing = Some (ToPublish (new_name j.actor) (record_name j.actor))
next j (Locking ls e left) = Some (ToLock e.name j.token)
next j (Loading done e left) = Some (ToLoad e.name)
next j (Staging ns done x left) = Some (ToStage (staged_name j.token x.edit.name) x.content)
next j (Deciding done) = Some (ToStage (new_name j.actor) (written (go_of j done)))
next j (Committing done) = Some (ToPublish (new_name j.actor) (record_name j.actor))
next j Checking = Some (ToLoad (record_name j.actor))
next j (Releasing why) = Some (ToRelease (right_name j.actor))
next j (Ended why) = None

-- whether the decision was passed at a state where a call fails
abbrev pub passed_ending : Ending → Passed
passed_ending Done = After
passed_ending (Failed passed) = passed
passed_ending e = Before

abbrev pub passed_then : Then → Passed
passed_then GoOn = Before
passed_then (Answer e) = passed_ending e

abbrev pub passed_at : State → Passed
passed_at (Placing r x xs ls th) = passed_then th
passed_at (Removing r x xs ls th) = passed_then th
passed_at (Extending r x xs ls th) = passed_then th
passed_at (Discarding r x xs ls th) = passed_then th
passed_at (Unlocking r n ns th) = passed_then th
passed_at (Erasing r th) = passed_then th
passed_at (Releasing e) = passed_ending e
passed_at (Ended e) = passed_ending e
passed_at Checking = Unknown
passed_at s = Before

-- after a failed call nothing more is done but the release; if the decision was in flight, the record is looked at first
abbrev pub faulted : State → State
faulted (Committing done) = Checking
faulted s = Releasing (Failed (passed_at s))

abbrev pub is_own_go : Job → Option Record → Bool
is_own_go j None = false
is_own_go j (Some r) = is_go r && (r.token == j.token)

-- the first three lines of the record of a token's decision, of the version of such a moment
unfoldable pub go_front : Option ℤ → ℕ → List ℕ
go_front moment token = version_line moment ++ line (codes "phase " ++ phase_word Go) ++ line (codes "token " ++ token_digits token)

-- the decision was passed if what was loaded as the record begins with these lines
abbrev pub passed_by : Job → Option (List ℕ) → Passed
passed_by j None = Before
passed_by j (Some bytes) = if starts_with nat_eq bytes (go_front (moment_of j) j.token) then After else Before

abbrev pub saw : Job → State → Option (List ℕ) → State
saw j Looking c = looked j c
saw j (Testing r x xs ls) c = tested r x xs ls c
saw j (Loading done e left) c = loaded j done e left c (e.by c)
saw j Checking c = Releasing (Failed (passed_by j c))
saw j s c = Releasing (Failed (passed_at s))

abbrev pub too_long : Job → State → ℕ → State
too_long j Looking n = Releasing (Refused (TooLarge (record_name j.actor) n))
too_long j (Testing r x xs ls) n = Releasing (Refused (TooLarge (staged_name r.token x.name) n))
too_long j (Loading done e left) n = refusing j [] (all_of j) (Refused (TooLarge e.name n))
too_long j s n = Releasing (Failed (passed_at s))

abbrev pub went_on : Job → State → Bool → State
went_on j Seizing true = asking j.time
went_on j Seizing false = Ended (Refused (Busy (right_name j.actor)))
went_on j (Timing time) b = Looking
went_on j (Undoing r n ns ls th) b = undoing r ns ls th
went_on j (Placing r x xs ls th) b = placing r xs ls th
went_on j (Removing r x xs ls th) b = Discarding r x xs ls th
went_on j (Extending r x xs ls th) b = Discarding r x xs ls th
went_on j (Discarding r x xs ls th) b = placing r xs ls th
went_on j (Unlocking r n ns th) b = unlocking r ns th
went_on j (Erasing r GoOn) b = Clearing (found_of r)
went_on j (Erasing r (Answer why)) b = Releasing why
went_on j (Clearing found) b = mended j.edits found
went_on j Preparing b = Publishing
went_on j Publishing true = locking j [] (edits_of j)
went_on j Publishing false = Releasing (Refused NotARecord)
went_on j (Locking ls e left) true = locking j (ls ++ (e.name ∷ [])) left
went_on j (Locking ls e left) false = refusing j [] ls (Refused (Busy e.name))
went_on j (Staging ns done x left) b = staging (ns ++ (x.edit.name ∷ [])) done left
went_on j (Deciding done) b = Committing done
went_on j (Committing done) true = placing (go_of j done) (made_items j done) (all_of j) (Answer Done)
went_on j (Committing done) false = Releasing (Refused NotARecord)
went_on j (Releasing why) b = Ended why
went_on j s b = Releasing (Failed (passed_at s))

-- Memory runs out in place of the next call: the clean-up. A clean-up that has begun takes no memory, nor does what follows a decision.
abbrev pub refused : Job → State → State
refused j Seizing = Ended NoMemory
refused j (Timing time) = Releasing NoMemory
refused j Looking = Releasing NoMemory
refused j (Undoing r n ns ls GoOn) = Releasing NoMemory
refused j (Placing r x xs ls GoOn) = Releasing NoMemory
refused j (Testing r x xs ls) = Releasing NoMemory
refused j (Removing r x xs ls GoOn) = Releasing NoMemory
refused j (Extending r x xs ls GoOn) = Releasing NoMemory
refused j (Discarding r x xs ls GoOn) = Releasing NoMemory
refused j (Unlocking r n ns GoOn) = Releasing NoMemory
refused j (Erasing r GoOn) = Releasing NoMemory
refused j (Clearing found) = Releasing NoMemory
refused j Preparing = Releasing NoMemory
refused j Publishing = Releasing NoMemory
refused j (Locking ls e left) = refusing j [] ls NoMemory
refused j (Loading done e left) = refusing j [] (all_of j) NoMemory
refused j (Staging ns done x left) = refusing j ns (all_of j) NoMemory
refused j (Deciding done) = refusing j (all_of j) (all_of j) NoMemory
refused j (Committing done) = refusing j (all_of j) (all_of j) NoMemory
refused j s = s

-- a load that runs out of memory: that of a decision in flight counts as a failed one
abbrev pub wanted : Job → State → State
wanted j Checking = Releasing (Failed Unknown)
wanted j s = refused j s

abbrev pub after_reply : Job → State → Reply → State
after_reply j s (Went b) = went_on j s b
after_reply j s (Saw c) = saw j s c
after_reply j s (Long n) = too_long j s n
after_reply j s Short = wanted j s
after_reply j s Fault = faulted s
