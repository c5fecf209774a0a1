-- A draft that begins.
use Rattle.std.specs.Prelude.{ℕ, Bool, true, false, nat_le, List, length, codes, if◌then◌else◌}
use Rattle.std.specs.declared.option.Option.{Option}
use Rattle.std.specs.declared.option.Option.TheVariants.{Some, None}
use Rattle.draft_text.specs.declared.draft.Draft.{Draft}
use Rattle.draft_text.specs.Texts.{flattened}
use Rattle.compose_tilde.specs.declared.machine.Machine.{Machine}
use Rattle.compose_tilde.specs.Answering.{new_machine}
use Rattle.compose_tilde.specs.Lines.{asks_subject}
use Rattle.compose_tilde.specs.Views.{View}
use Rattle.command_desk.specs.declared.desk.Desk.{Desk}
use Rattle.command_desk.specs.Effects.{moved}
use Rattle.session_play.specs.Play.{Play, Ret, Ask, Say, bind}
use Rattle.session_play.specs.Steps.{After, On, Over, Refused, Ended}
use Rattle.session_state.specs.declared.state.SessionState.{SessionState}
use Rattle.session_state.specs.declared.status.Status.{Status}
use Rattle.session_state.specs.States.{with_draft, with_file, settled}
use Rattle.session_state.specs.Saving.{name_fault}

-- what a line of a draft is read with
abbrev pub view_as : Desk → View
view_as desk = record {
  vars = desk.vars;
  places = desk.places;
  shown = desk.shown;
  folder = Some desk.folder.folder;
  sets = desk.sets;
  mode = desk.mode;
  terminal = desk.terminal;
}

abbrev pub view_in : SessionState → View
view_in s = view_as s.desk

-- the state with a draft that begins
abbrev pub with_new_draft : SessionState → Draft → SessionState
with_new_draft s draft = with_draft s (Some (new_machine (flattened draft)))

abbrev pub subject_prompt : List ℕ
subject_prompt = codes "Subject: "

-- `Subject: ` is printed, if the next line is the subject
abbrev pub subject_asked : Bool → Play (Unit {0})
subject_asked true = Ask (Say subject_prompt) Ret
subject_asked false = Ret tt

-- a draft begins, once its subject was asked for, and the command is over
abbrev pub begun_with : SessionState → Machine → Play (After SessionState Status)
begun_with s m = bind (subject_asked (asks_subject m (view_in s))) (λ u. Ret (Over (with_draft s (Some m))))

-- a draft begins after it is made flat: no part but the body holds a line feed then
abbrev pub begun : SessionState → Draft → Play (After SessionState Status)
begun s draft = begun_with s (new_machine (flattened draft))

-- the draft of send mode begins in the same way
abbrev pub composing : SessionState → Draft → Play SessionState
composing s draft =
    bind (subject_asked (asks_subject (new_machine (flattened draft)) (view_in s))) (λ u. Ret (with_new_draft s draft))

-- message n is current, if the desk has at least n messages; it is unwritten, if another was current before
abbrev pub at_message : SessionState → Option ℕ → SessionState
at_message s None = s
at_message s (Some n) = if nat_le n (length s.desk.shown.rows) then settled s (moved s.desk n) else s

-- a draft that has begun is recorded in this file, if it has one of its own, and this message is current
abbrev pub placed : Option (List ℕ) → Option ℕ → After SessionState Status → Play (After SessionState Status)
placed file current (On s) = Ret (On s)
placed file current (Over s) = Ret (Over (with_file (at_message s current) file))
placed file current (Refused line) = Ret (Refused line)
placed file current (Ended e) = Ret (Ended e)

-- the line of what is wrong with the file that a draft is recorded in, if it has one of its own
abbrev pub file_fault : SessionState → Option (List ℕ) → Option (List ℕ)
file_fault s None = None
file_fault s (Some name) = name_fault s name

-- a draft that a command asks for begins, unless something is wrong with its file
abbrev pub beginning : SessionState → Draft → Option (List ℕ) → Option ℕ → Option (List ℕ) → Play (After SessionState Status)
beginning s draft file current (Some line) = Ret (Refused line)
beginning s draft file current None = bind (begun s draft) (placed file current)
