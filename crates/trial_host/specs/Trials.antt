-- A host on which so many messages are tried.
use Rattle.std.specs.Prelude.{◌≡◌, ◌&&◌, nat_le, ℕ, Bool, true, false, List, [], ◌∷◌, ◌++◌, if◌then◌else◌, map, length, codes, pos}
use Rattle.std.specs.declared.option.Option.TheVariants.{Some, None}
use Rattle.host_port.specs.declared.event.Event.{Event}
use Rattle.host_port.specs.declared.event.Event.TheVariants.{In, Out, Load, Stage, Publish, Erase, Lock, Unlock, Seize, Child, Edit, Now}
use Rattle.host_port.specs.declared.event.Seen.{Seen}
use Rattle.host_port.specs.declared.event.Seen.TheVariants as seen
use Rattle.host_port.specs.Calls.{load_limit}
use Rattle.host_port.specs.Disk.{Disk}
use Rattle.host_port.specs.Own.{own}
use Rattle.host_memory.specs.Children.{silence}
use Rattle.host_memory.specs.Edits.{edit_given}
use Rattle.host_memory.specs.declared.plan.Plan.{Plan}
use Rattle.host_memory.specs.declared.memory.MemHost.{MemHost}
use Rattle.host_memory.specs.MemHosts.{host_told, input_left}
use Rattle.host_memory.specs.Views.{disk_of}
use Rattle.trial_host.specs.Texts.{mailbox_of, trial_lines}

-- the disk that it begins with has one file
abbrev pub trial_start : ℕ → Disk
trial_start n = disk_of ((codes "box", mailbox_of n) ∷ []) []

-- nothing fails, nobody else does anything, and the time stands still
abbrev pub trial_plan : Plan
trial_plan = record { now = pos 0; chunk = 65536; foreign = []; fails = []; children = []; edits = [] }

-- what a load sees if it doesn't fail: a file past the limit is too large
abbrev pub seen_plainly : Seen → Seen
seen_plainly (seen.Bytes None held) = seen.Bytes None held
seen_plainly (seen.Bytes (Some bytes) held) = if nat_le (length bytes) load_limit then seen.Bytes (Some bytes) held else seen.TooLarge (length bytes)
seen_plainly (seen.TooLarge n) = seen.TooLarge n
seen_plainly s = seen.Bytes None false

-- An event as it is if no call fails and memory suffices, children say nothing, editors leave texts as they are, and the clock shows zero. Only whether a file can be extended is left
-- to the disk.
abbrev pub plainly : Event → Event
plainly (In bytes failed) = In bytes false
plainly (Out bytes failed) = Out bytes false
plainly (Load name s) = Load name (seen_plainly s)
plainly (Stage name bytes failed) = Stage name bytes false
plainly (Publish from to done failed) = Publish from to done false
plainly (Erase name done failed) = Erase name done false
plainly (Lock name token got failed) = Lock name token got false
plainly (Unlock name token done failed) = Unlock name token done false
plainly (Seize name got failed) = Seize name got false
plainly (Child program args input answer failed) = Child program args input (Some silence) false
plainly (Edit name shell command text answer failed) = Edit name shell command text (Some (edit_given (pos 0) text false)) false
plainly (Now seconds) = Now (pos 0)
plainly e = e

-- the input that an event took
abbrev pub taken_by : Event → List ℕ
taken_by (In bytes failed) = bytes
taken_by e = []

-- the input that events took
abbrev pub taken : List Event → List ℕ
taken [] = []
taken (e ∷ es) = taken_by e ++ taken es

abbrev pub is_nothing : List ℕ → Bool
is_nothing [] = true
is_nothing (b ∷ bytes) = false

-- if an event took no bytes, there were none, neither those that were taken later nor those that are left
abbrev pub ends_once : List Event → List ℕ → Bool
ends_once [] left = true
ends_once (In [] failed ∷ es) left = is_nothing (taken es ++ left) && ends_once es left
ends_once (e ∷ es) left = ends_once es left

-- The events of a trial, which leave this of its lines: none is of others, each is as it is if no call fails, and what they took is of the lines, with
-- no bytes only at their end.
pub record GoesPlainly (es : List Event) (left : List ℕ) : Type 0 where
  pub alone : own es ≡ es
  pub plain : map plainly es ≡ es
  pub input : trial_lines ≡ taken es ++ left
  pub ends : ends_once es left ≡ true

-- A host with this plan, whose events go so while it tells its trace.
pub record IsScripted (m : MemHost) : Type 0 where
  pub plan : m.plan ≡ trial_plan
  pub goes : (es : List Event) → host_told m ≡ Some es → GoesPlainly es (input_left m)
