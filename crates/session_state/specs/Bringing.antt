-- Lines that a command brings, out of a file or of a macro.
use Rattle.std.specs.Prelude.{◌≡◌, ◌≤◌, ◌<◌, ◌+◌, ◌-◌, ◌*◌, ◌^◌, ℕ, Bool, true, false, List, [], ◌∷◌, ◌++◌, length, slice_get}
use Rattle.std.specs.List.{count_by}
use Rattle.std.specs.declared.option.Option.{Option}
use Rattle.std.specs.declared.option.Option.TheVariants.{Some, None}
use Rattle.read_commands.specs.declared.origin.Origin.{Origin}
use Rattle.read_commands.specs.declared.origin.Origin.TheVariants.{Input}
use Rattle.session_state.specs.declared.kinds.FrameKind.{FrameKind}
use Rattle.session_state.specs.declared.kinds.FrameKind.TheVariants as kinds
use Rattle.session_state.specs.declared.state.SessionState.{SessionState}
use Rattle.session_state.specs.Waits.{Pending}
use Rattle.session_state.specs.Pending.{frame_of, lines_left}
use Rattle.session_state.specs.States.{command_limit, with_frames, KeepsOthers}

-- the most sourced files that are open at once
abbrev pub source_limit : ℕ
source_limit = 16

-- the most calls that are open at once
abbrev pub call_limit : ℕ
call_limit = 32

-- lines that a command brought out of a file
abbrev pub is_source : FrameKind → Bool
is_source kinds.Source = true
is_source other = false

-- lines of a macro that a command called
abbrev pub is_call : FrameKind → Bool
is_call kinds.Call = true
is_call other = false

-- how many sourced files are open: each until a line is wanted after its last
abbrev pub sources : List Pending → ℕ
sources frames = count_by (λ f. is_source f.kind) frames

-- how many calls are open, in the same way
abbrev pub calls : List Pending → ℕ
calls frames = count_by (λ f. is_call f.kind) frames

-- a command may bring one frame more of this kind
abbrev pub HasPlace : FrameKind → List Pending → Type 0
HasPlace kinds.Source frames = sources frames < source_limit
HasPlace kinds.Call frames = calls frames < call_limit
HasPlace kinds.Startup frames = ⊥

abbrev pub origin_of : Option Pending → Origin
origin_of None = Input
origin_of (Some f) = f.origin

-- where the line comes from that is carried out: it is one of the innermost frame, or of the input
abbrev pub origin_at : List Pending → Origin
origin_at frames = origin_of (slice_get frames (length frames - 1))

-- lines that wait come all from there
abbrev pub AllFrom : Origin → List Pending → Type 0
AllFrom from [] = Unit {0}
AllFrom from (f ∷ fs) = (f.origin ≡ from) × AllFrom from fs

-- if all of them come from where the line does that is carried out, so do those that wait after it
abbrev pub StaysAlike : List Pending → List Pending → Type 0
StaysAlike old new = AllFrom (origin_at old) old → AllFrom (origin_at old) new

-- lines that were brought so are put in front of those that wait; they come from where the command does
abbrev pub with_lines : FrameKind → SessionState → List ℕ → SessionState
with_lines kind s text = with_frames s (s.frames ++ frame_of (origin_at s.frames) kind (length s.desk.conditions) text ∷ [])

-- how many lines wait, and how many the files and macros may bring that can still be opened inside of the open ones:
-- each less than 2 ^ 64
abbrev pub room : List Pending → ℕ
room frames = lines_left frames + ((source_limit - sources frames) + (call_limit - calls frames)) * 2 ^ 64

-- asks change the desk, the lines that wait and the draft alone: they may put frames inside of those that are there, whose lines come from where
-- the line does that is carried out
pub record OnlyBrings (old new : SessionState) : Type 0 where
  pub rest : KeepsOthers old new
  pub inside : (more : List Pending) × AllFrom (origin_at old.frames) more × (new.frames ≡ old.frames ++ more)
  pub room : room new.frames ≤ room old.frames

-- what falls with each line from elsewhere: the commands that the line of the input may still give count for more than
-- all lines that one of them can bring
abbrev pub weight : SessionState → ℕ
weight s = (command_limit - s.count) * 2 ^ 70 + lines_left s.frames
