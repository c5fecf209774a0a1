-- The next of the lines from elsewhere that are still to run.
use Rattle.std.specs.Prelude.{◌≡◌, ◌+◌, ℕ, List, [], ◌∷◌, drop, length, map, min}
use Rattle.std.specs.declared.option.Option.{Option}
use Rattle.std.specs.declared.option.Option.TheVariants.{Some, None}
use Rattle.mail_text.specs.Lines.{lines_of}
use Rattle.read_commands.specs.declared.origin.Origin.{Origin}
use Rattle.session_state.specs.declared.frames.WaitingLine.{WaitingLine}
use Rattle.session_state.specs.declared.kinds.FrameKind.{FrameKind}
use Rattle.session_state.specs.Waits.{Pending}

-- the lines of a text from somewhere, brought so, when this many conditions are open
abbrev pub frame_of : Origin → FrameKind → ℕ → List ℕ → Pending
frame_of origin kind nested text = record { origin = origin; kind = kind; nested = nested; lines = lines_of text }

-- a line from somewhere
abbrev pub line_from : Origin → List ℕ → WaitingLine
line_from origin text = record { origin = origin; text = text }

-- a frame's own next line, and the frame without it
abbrev pub own_line : Pending → List (List ℕ) → Option (WaitingLine × List Pending)
own_line f [] = None
own_line f (l ∷ ls) = Some (line_from f.origin l, record f { lines = ls } ∷ [])

-- the next line of frames inside of another, else its own
abbrev pub or_own : Pending → Option (WaitingLine × List Pending) → Option (WaitingLine × List Pending)
or_own f (Some taken) = Some (taken.0, f ∷ taken.1)
or_own f None = own_line f f.lines

-- the next line of the innermost frame that has one, the last such of the list, and the frames with which that leaves: those
-- inside of it, which have none, are closed
abbrev pub taken : List Pending → Option (WaitingLine × List Pending)
taken [] = None
taken (f ∷ inner) = or_own f (taken inner)

-- a line was taken, or there is none left
abbrev pub IsTaken : Option WaitingLine → List Pending → List Pending → Type 0
IsTaken (Some line) old new = taken old ≡ Some (line, new)
IsTaken None old new = (taken old ≡ None) × (new ≡ [])

-- a frame handed out its next line, or has none
abbrev pub IsHanded : Option (List ℕ) → Pending → Pending → Type 0
IsHanded (Some line) old new = (new ≡ record old { lines = new.lines }) × (old.lines ≡ line ∷ new.lines)
IsHanded None old new = (old.lines ≡ []) × (new ≡ old)

-- the frame, if this many conditions are open: of those before it no more are still open
abbrev pub capped_to : ℕ → Pending → Pending
capped_to depth f = record f { nested = min f.nested depth }

-- each of the frames so
abbrev pub capped : ℕ → List Pending → List Pending
capped depth frames = map (capped_to depth) frames

-- how many of the conditions are still open that were open before the outermost of these frames
abbrev pub open_before : List Pending → Option ℕ
open_before [] = None
open_before (f ∷ fs) = Some f.nested

-- the frames that are closed if these are left
abbrev pub closed : List Pending → List Pending → List Pending
closed frames left = drop (length left) frames

-- how many lines wait
abbrev pub lines_left : List Pending → ℕ
lines_left [] = 0
lines_left (f ∷ fs) = length f.lines + lines_left fs
