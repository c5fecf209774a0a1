-- What a host in memory means.
use Rattle.std.specs.Prelude.{◌≡◌, ℕ, Bool, true, false, List, [], is_some, is_none, min, take, drop}
use Rattle.std.specs.declared.option.Option.{Option}
use Rattle.std.specs.declared.option.Option.TheVariants.{Some, None}
use Rattle.host_port.specs.declared.event.Event.{Event}
use Rattle.host_port.specs.declared.event.Event.TheVariants.{Out}
use Rattle.host_memory.specs.declared.plan.Plan.{Plan}
use Rattle.host_memory.specs.declared.memory.MemHost.{MemHost}
use Rattle.host_port.specs.Disk.{Disk}
use Rattle.host_port.specs.Calls.{Counts, World}
use Rattle.host_memory.specs.Plans.{AddsPlanned}
use Rattle.host_memory.specs.Views.{disk_of, part_at, next_call, steps_before, AddsOne}
use Rattle.host_port.specs.declared.event.Part.{Part}
use Rattle.host_port.specs.declared.event.Part.TheVariants.{Before, After, Bytes, Nothing}
use Rattle.std.specs.declared.result.Result.{Result}
use Rattle.std.specs.declared.result.Result.TheVariants.{Err}
use Rattle.host_port.specs.declared.event.LoadAnswer.{LoadAnswer}
use Rattle.host_port.specs.declared.host.LoadError.{LoadError}
use Rattle.host_port.specs.declared.host.LoadError.TheVariants as error
use Rattle.host_port.specs.declared.event.ChildAnswer.{ChildAnswer}
use Rattle.host_port.specs.declared.event.EditAnswer.{EditAnswer}
use Rattle.host_port.specs.declared.host.ChildError.{ChildError}
use Rattle.host_port.specs.declared.host.ChildError.TheVariants as child_error

-- the disk that it began with
abbrev pub host_start : MemHost → Disk
host_start m = disk_of m.tape.start.files m.tape.start.locks

-- its trace, until it is lost
abbrev pub told_of : Bool → List Event → Option (List Event)
told_of true trace = None
told_of false trace = Some trace

abbrev pub host_told : MemHost → Option (List Event)
host_told m = told_of m.lost m.tape.trace.items

abbrev pub host_counts : MemHost → Counts
host_counts m = record { ins = m.ins; outs = m.outs; disks = m.disks; children = m.children }

abbrev pub host_world : World MemHost
host_world = record { start = host_start; told = host_told; counts = host_counts }

-- whether the plan names the next call among those that fail
abbrev pub fails_next : MemHost → Bool
fails_next m = is_some (part_at m.plan.fails (next_call m.calls))

-- whether a load answered a fault of the disk
abbrev pub is_failed_load : Result LoadAnswer LoadError → Bool
is_failed_load (Err error.Failed) = true
is_failed_load r = false

-- whether a load answered that memory ran out
abbrev pub wants_memory : Result LoadAnswer LoadError → Bool
wants_memory (Err error.Memory) = true
wants_memory r = false

-- whether a child answered that it could not be run
abbrev pub is_failed_child : Result ChildAnswer ChildError → Bool
is_failed_child (Err child_error.Failed) = true
is_failed_child r = false

-- whether a child answered that memory ran out
abbrev pub child_wants_memory : Result ChildAnswer ChildError → Bool
child_wants_memory (Err child_error.Memory) = true
child_wants_memory r = false

-- whether an editor answered that it could not be run
abbrev pub is_failed_edit : Result EditAnswer ChildError → Bool
is_failed_edit (Err child_error.Failed) = true
is_failed_edit r = false

-- whether an editor answered that memory ran out
abbrev pub edit_wants_memory : Result EditAnswer ChildError → Bool
edit_wants_memory (Err child_error.Memory) = true
edit_wants_memory r = false

-- whether the host tells its trace no more
abbrev pub is_lost : MemHost → Bool
is_lost m = is_none (host_told m)

-- A call takes the next number. While the host tells its trace afterwards, it added the steps that the plan has before
-- this call and its own event, and it failed exactly if the plan names it.
pub record IsAsPlanned (old new : MemHost) (failed : Bool) : Type 0 where
  pub plan : new.plan ≡ old.plan
  pub calls : new.calls ≡ next_call old.calls
  pub told : (trace : List Event) → host_told new ≡ Some trace
      → (failed ≡ fails_next old) × (own : Event) × AddsOne old.tape.trace.items trace (steps_before old.plan.foreign (next_call old.calls)) own

-- A call on the disk takes the next number. While the host tells its trace afterwards, it added the steps that the plan
-- has before this call and its own event, which is as the plan has it: carried out, or failing with this part done. It
-- failed exactly if the plan has a part for it or the disk refused it.
pub record IsDoneAsPlanned (old new : MemHost) (whole : Event) (part : Option Part) (failed : Bool) : Type 0 where
  pub plan : new.plan ≡ old.plan
  pub calls : new.calls ≡ next_call old.calls
  pub told : (trace : List Event) → host_told new ≡ Some trace → AddsPlanned (host_start old) old.tape.trace.items trace (steps_before old.plan.foreign (next_call old.calls)) whole part failed

-- the part that the plan has for the next call
abbrev pub next_part : MemHost → Option Part
next_part m = part_at m.plan.fails (next_call m.calls)

-- what is left of the input
abbrev pub input_left : MemHost → List ℕ
input_left m = drop m.at m.input

-- the planned answers of children that are left
abbrev pub answers_left : MemHost → List ChildAnswer
answers_left m = drop m.used m.plan.children

-- the planned answers of editors that are left
abbrev pub edits_left : MemHost → List EditAnswer
edits_left m = drop m.edited m.plan.edits

-- a call that takes nothing: what is left of the input and of the answers of children and editors stays
pub record TakesNothing (old new : MemHost) : Type 0 where
  pub input : input_left new ≡ input_left old
  pub answers : answers_left new ≡ answers_left old
  pub edits : edits_left new ≡ edits_left old

-- the next bytes of the input, for which a buffer of `room` bytes and one chunk have room
abbrev pub next_input : MemHost → ℕ → List ℕ
next_input m room = take (min room m.plan.chunk) (input_left m)

-- a host that was called by nobody yet
pub record IsUncalled (input : List ℕ) (plan : Plan) (m : MemHost) : Type 0 where
  pub plan_is : m.plan ≡ plan
  pub calls : m.calls ≡ 0
  pub input_is : input_left m ≡ input
  pub answers_are : answers_left m ≡ plan.children
  pub edits_are : edits_left m ≡ plan.edits
  pub counts : host_counts m ≡ record { ins = 0; outs = 0; disks = 0; children = 0 }

-- what goes out of an output: all of it, or if it fails what the plan says, all or nothing
abbrev pub sent : Option Part → List ℕ → List ℕ
sent None bytes = bytes
sent (Some After) bytes = bytes
sent (Some Before) bytes = []
sent (Some Nothing) bytes = []
sent (Some (Bytes left)) bytes = []

-- While the host tells its trace after an output, its own event says what went out by the plan.
abbrev pub SaysAsPlanned : MemHost → MemHost → List ℕ → Bool → Type 0
SaysAsPlanned old new bytes failed = (trace : List Event) → host_told new ≡ Some trace
    → AddsOne old.tape.trace.items trace (steps_before old.plan.foreign (next_call old.calls)) (Out (sent (next_part old) bytes) failed)

-- a count after a call: greater exactly if the call failed
abbrev pub counted : Bool → ℕ → ℕ
counted true n = next_call n
counted false n = n

-- the counts after a call of each kind
abbrev pub after_input : Bool → Counts → Counts
after_input failed c = record c { ins = counted failed c.ins }

abbrev pub after_output : Bool → Counts → Counts
after_output failed c = record c { outs = counted failed c.outs }

abbrev pub after_disk : Bool → Counts → Counts
after_disk failed c = record c { disks = counted failed c.disks }

abbrev pub after_child : Bool → Counts → Counts
after_child failed c = record c { children = counted failed c.children }
