-- What a session knows between two lines.
use Rattle.std.specs.Prelude.{◌≡◌, ◌≤◌, ℕ, Bool, true, false, List, [], length, take, is_some, if◌then◌else◌}
use Rattle.std.specs.declared.option.Option.{Option}
use Rattle.std.specs.declared.option.Option.TheVariants.{Some, None}
use Rattle.host_port.specs.Names.{has_no_zero}
use Rattle.commit_machine.specs.Names.{actor_limit}
use Rattle.mailx_macros.specs.Macros.{Definitions}
use Rattle.rc_conditionals.specs.declared.conditions.Condition.{Condition}
use Rattle.command_desk.specs.declared.desk.Desk.{Desk}
use Rattle.command_desk.specs.declared.effects.Effects.{Effects}
use Rattle.command_desk.specs.Desks.{IsDesk}
use Rattle.command_desk.specs.Effects.{effect}
use Rattle.session_state.specs.declared.outcome.SendOutcome.{SendOutcome}
use Rattle.session_state.specs.declared.state.SessionState.{SessionState}
use Rattle.compose_tilde.specs.declared.machine.Machine.{Machine}
use Rattle.session_state.specs.declared.frames.WaitingLine.{WaitingLine}
use Rattle.session_state.specs.Waits.{Pending}
use Rattle.session_state.specs.Pending.{taken, capped, open_before, closed}

-- the files of an actor of this name can have their names
pub record IsActor (name : List ℕ) : Type 0 where
  pub short : length name ≤ actor_limit
  pub no_zero : has_no_zero name ≡ true

-- the state is valid
pub record IsState (s : SessionState) : Type 0 where
  pub desk : IsDesk s.desk
  pub actor : IsActor s.actor

-- a draft is open, so that the lines of the input are those of it
abbrev pub is_drafting : SessionState → Bool
is_drafting s = is_some s.draft

-- Between two lines of the input the state is valid; no line waits, and no command is counted, unless a draft is open.
pub record IsSession (s : SessionState) : Type 0 where
  pub state : IsState s
  pub frames : is_drafting s ≡ false → s.frames ≡ []
  pub count : is_drafting s ≡ false → s.count ≡ 0

-- the most commands that one line of the input gives
abbrev pub command_limit : ℕ
command_limit = 100000

-- the state with another desk
abbrev pub with_desk : SessionState → Desk → SessionState
with_desk s desk = record s { desk = desk }

-- the state with other lines that wait
abbrev pub with_frames : SessionState → List Pending → SessionState
with_frames s frames = record s { frames = frames }

-- the state with another count of commands
abbrev pub with_count : SessionState → ℕ → SessionState
with_count s count = record s { count = count }

-- the state with another draft, or with none
abbrev pub with_draft : SessionState → Option Machine → SessionState
with_draft s draft = record s { draft = draft }

-- the state with another file of its draft, or with none
abbrev pub with_file : SessionState → Option (List ℕ) → SessionState
with_file s file = record s { file = file }

-- the state in which drafts came to this
abbrev pub with_outcome : SessionState → SendOutcome → SessionState
with_outcome s outcome = record s { outcome = outcome }

-- the draft is over
abbrev pub without_draft : SessionState → SessionState
without_draft s = record s { draft = None; file = None }

-- the line that is carried out next: one of those that wait, unless a draft is open, whose lines come from the input.
-- Each frame is told how many conditions are open by now, so none counts one that was open before it and is closed.
abbrev pub next_waiting : SessionState → Option (WaitingLine × List Pending)
next_waiting s = if is_drafting s then None else taken (capped (length s.desk.conditions) s.frames)

-- the conditions that stay open, if this many of those before are still open
abbrev pub still_open : Option ℕ → List Condition → List Condition
still_open None conditions = conditions
still_open (Some n) conditions = take n conditions

-- the macros after lines that are over, if any are: a definition that these left is dropped.
-- None was under way before them, or the command that brought them would have been a line of it.
abbrev pub still_defining : Option ℕ → Definitions → Definitions
still_defining None macros = macros
still_defining (Some n) macros = record macros { unfinished = None }

-- the desk after lines that are over, if any are: without the conditions that were opened in them, so that this many
-- of those before stay, and without the definition that was begun in them
abbrev pub cut_to : Option ℕ → Desk → Desk
cut_to nested desk = record desk {
  conditions = still_open nested desk.conditions;
  macros = still_defining nested desk.macros;
}

-- the state with these frames alone, the outermost of those that it has: the conditions and the definition that the
-- others left open are cut
abbrev pub resumed : SessionState → List Pending → SessionState
resumed s frames = record s { desk = cut_to (open_before (closed s.frames frames)) s.desk; frames = frames }

-- the state without lines that wait and without the conditions and the definition that they left open, and with no
-- command counted
abbrev pub at_rest : SessionState → SessionState
at_rest s = record s { desk = cut_to (open_before s.frames) s.desk; frames = []; count = 0 }

-- the state at rest, unless a draft is open, after which the lines that wait go on
abbrev pub line_ended : SessionState → SessionState
line_ended s = if is_drafting s then s else at_rest s

-- the state after a command: what its effects don't name stays
abbrev pub settled : SessionState → Effects → SessionState
settled s effects = with_desk s (effect s.desk effects)

-- only the lines that wait changed
abbrev pub OnlyFrames : SessionState → SessionState → Type 0
OnlyFrames old new = new ≡ with_frames old new.frames

-- only the desk, the lines that wait, the draft and its file changed
abbrev pub KeepsOthers : SessionState → SessionState → Type 0
KeepsOthers old new = new ≡ with_file (with_draft (with_frames (with_desk old new.desk) new.frames) new.draft) new.file

-- only what became of drafts changed
abbrev pub KeepsButOutcome : SessionState → SessionState → Type 0
KeepsButOutcome old new = new ≡ with_outcome old new.outcome

-- only the draft, its file and what became of drafts changed
abbrev pub KeepsButDraft : SessionState → SessionState → Type 0
KeepsButDraft old new = new ≡ with_outcome (with_file (with_draft old new.draft) new.file) new.outcome
