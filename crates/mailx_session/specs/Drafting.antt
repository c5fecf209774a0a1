-- What a line of a draft does that is open.
use Rattle.std.specs.Prelude.{ℕ, List, [], ◌∷◌, ◌++◌, codes, if◌then◌else◌}
use Rattle.std.specs.Option.{option_map}
use Rattle.std.specs.declared.option.Option.{Option}
use Rattle.std.specs.declared.option.Option.TheVariants.{Some, None}
use Rattle.std.specs.declared.result.Result.TheVariants.{Ok, Err}
use Rattle.mail_text.specs.Lines.{with_feed}
use Rattle.host_port.specs.declared.event.ChildAnswer.{ChildAnswer}
use Rattle.host_port.specs.declared.event.EditAnswer.{EditAnswer}
use Rattle.folder_change.specs.declared.change.Change.TheVariants.{AddRaw}
use Rattle.mailx_vars.specs.Names.{is_short_name}
use Rattle.compose_tilde.specs.declared.machine.Machine.{Machine}
use Rattle.compose_tilde.specs.declared.need.Need.{Need}
use Rattle.compose_tilde.specs.declared.need.Need.TheVariants as need
use Rattle.compose_tilde.specs.declared.need.Answer.{Answer}
use Rattle.compose_tilde.specs.declared.need.Answer.TheVariants as answer
use Rattle.compose_tilde.specs.declared.need.ComposeError.{ComposeError}
use Rattle.compose_tilde.specs.declared.need.ComposeError.TheVariants as error
use Rattle.compose_tilde.specs.Steps.{Step}
use Rattle.compose_tilde.specs.Lines.{line_step}
use Rattle.compose_tilde.specs.Answering.{idle, answer_step}
use Rattle.session_play.specs.declared.act.Found.{Found}
use Rattle.session_play.specs.declared.act.Found.TheVariants as found
use Rattle.session_play.specs.Play.{Play, Ret, Ask, Say, Try, Editor, Next, Go}
use Rattle.session_play.specs.Steps.{refused}
use Rattle.command_desk.specs.declared.steps.Ask.TheVariants as asks
use Rattle.command_desk.specs.declared.steps.Steps.{Steps}
use Rattle.command_desk.specs.Answers.{OrFault}
use Rattle.command_desk.specs.Effects.{unchanged}
use Rattle.command_desk.specs.FileNames.{expanded}
use Rattle.command_desk.specs.Faults.{bad_name, no_such_file, too_large, cannot_be_read}
use Rattle.command_desk.specs.Selecting.{list_line}
use Rattle.folder_commands.specs.Saving.{receipt}
use Rattle.read_commands.specs.declared.origin.Origin.TheVariants as origin
use Rattle.read_commands.specs.Origins.{commanded}
use Rattle.session_state.specs.declared.state.SessionState.{SessionState}
use Rattle.session_state.specs.declared.status.Status.{Status}
use Rattle.session_state.specs.Placing.{edit_file, placed}
use Rattle.session_state.specs.States.{with_draft, without_draft}
use Rattle.mailx_session.specs.Sessions.{carried_out}
use Rattle.session_asks.specs.Running.{by_shell, not_run}
use Rattle.session_asks.specs.Editing.{not_edited}
use Rattle.session_asks.specs.Beginning.{view_in}
use Rattle.draft_sending.specs.Sending.{ended_draft, quit_draft}

-- an escape as its faults name it
abbrev pub tilde : List ℕ → List ℕ
tilde letters = codes "~" ++ letters

-- the line that refuses an escape
abbrev pub escape_fault : ComposeError → List ℕ
escape_fault (error.Unknown None) = with_feed (tilde [] ++ codes ": unknown escape")
escape_fault (error.Unknown (Some letter)) = with_feed (tilde (letter ∷ []) ++ codes ": unknown escape")
escape_fault (error.BadArguments letter) = with_feed (tilde (letter ∷ []) ++ codes ": bad arguments")
escape_fault error.NotSending = with_feed (codes "not while sending")
escape_fault error.TooMuch = with_feed (codes "too much output")
escape_fault (error.List e) = list_line e
escape_fault error.Memory = []

-- the draft waits for no answer any more, and is as it was
abbrev pub released : SessionState → SessionState
released s = with_draft s (option_map idle s.draft)

-- once the draft took an answer what it asks to print is printed
abbrev pub told : SessionState → Need → Play (Next SessionState Status)
told s (need.Say bytes) = Ask (Say bytes) (λ _. Ret (Go s))
told s other = Ret (Go s)

-- the draft takes an answer, or refuses it
abbrev pub took_answer : SessionState → Step → Play (Next SessionState Status)
took_answer s (Ok step) = told (with_draft s (Some step.0)) step.1
took_answer s (Err e) = refused (released s) (escape_fault e)

abbrev pub given : SessionState → Option Machine → Answer → Play (Next SessionState Status)
given s None answer = Ret (Go s)
given s (Some m) answer = took_answer s (answer_step m answer)

-- an answer is given to the draft
abbrev pub answered : SessionState → Answer → Play (Next SessionState Status)
answered s answer = given s s.draft answer

-- what follows the load of a file that is said by this name, for the draft; a lock on it is no matter
abbrev pub after_fetch : SessionState → List ℕ → Option Found → Play (Next SessionState Status)
after_fetch s name None = refused s (cannot_be_read name)
after_fetch s name (Some (found.TooLarge n)) = refused s (too_large name)
after_fetch s name (Some (found.Bytes None held)) = refused s (no_such_file name)
after_fetch s name (Some (found.Bytes (Some text) held)) = answered s (answer.Loaded text)

-- the file of this name is loaded for the draft, if it can be a file's
abbrev pub fetched_named : SessionState → List ℕ → Play (Next SessionState Status)
fetched_named s name =
    if is_short_name (placed s.here name) then Ask (Try (placed s.here name)) (after_fetch s name) else refused s (bad_name name)

-- a file that is read into the draft, if the word stands for a name
abbrev pub fetched : SessionState → OrFault (List ℕ) → Play (Next SessionState Status)
fetched s (Ok name) = fetched_named s name
fetched s (Err line) = refused s line

-- what follows a command that was run for the draft
abbrev pub after_child : SessionState → Option ChildAnswer → Play (Next SessionState Status)
after_child s None = refused s not_run
after_child s (Some a) = answered s (answer.Ran a)

-- a command is run for the draft by the shell
abbrev pub run_for : SessionState → List ℕ → List ℕ → Play (Next SessionState Status)
run_for s command input = Ask (by_shell s.desk command input) (after_child s)

-- what follows an editor that was run for the draft
abbrev pub after_edit : SessionState → Option EditAnswer → Play (Next SessionState Status)
after_edit s None = refused s not_edited
after_edit s (Some a) = answered s (answer.Edited a)

-- a text is edited for the draft by this command, which the shell of the places runs
abbrev pub edit_for : SessionState → List ℕ → List ℕ → Play (Next SessionState Status)
edit_for s command text = Ask (Editor (edit_file s.actor s.token) s.desk.places.shell command text) (after_edit s)

-- bytes are put at the end of a file by a commit, and then the reply is printed
abbrev pub written : List ℕ → List ℕ → Steps
written name bytes = record {
  asks = asks.Commit (AddRaw name bytes ∷ []) ∷ asks.Say (receipt name (codes "Written") 1) ∷ [];
  effects = unchanged;
}

-- bytes that are written to the file that a word stands for
abbrev pub add_to_file : SessionState → OrFault (List ℕ) → List ℕ → Play (Next SessionState Status)
add_to_file s (Ok name) bytes = carried_out s (Ok (written name bytes))
add_to_file s (Err line) bytes = refused s line

-- a command of the session is carried out while the draft is open; it brings no lines, so it isn't counted
abbrev pub commanded_within : SessionState → List ℕ → Play (Next SessionState Status)
commanded_within s line = carried_out s (commanded origin.Draft s.desk line)

-- what the draft needs
abbrev pub needed : SessionState → Need → Play (Next SessionState Status)
needed s need.More = Ret (Go s)
needed s (need.Say bytes) = Ask (Say bytes) (λ _. Ret (Go s))
needed s (need.Load word) = fetched s (expanded s.desk word)
needed s need.Dead = fetched s (Ok s.desk.places.dead)
needed s (need.Child command input) = run_for s command input
needed s (need.Edit command text) = edit_for s command text
needed s (need.Command line) = commanded_within s line
needed s (need.Put word bytes) = add_to_file s (expanded s.desk word) bytes
needed s need.Done = ended_draft s
needed s need.Quit = quit_draft s
needed s need.Drop = Ret (Go (without_draft s))

-- the draft took a line, or refuses it
abbrev pub took_line : SessionState → Step → Play (Next SessionState Status)
took_line s (Ok step) = needed (with_draft s (Some step.0)) step.1
took_line s (Err e) = refused s (escape_fault e)

abbrev pub drafted : SessionState → Option Machine → List ℕ → Play (Next SessionState Status)
drafted s None line = Ret (Go s)
drafted s (Some m) line = took_line s (line_step m line (view_in s))

abbrev pub drafted_on : SessionState → List ℕ → Play (Next SessionState Status)
drafted_on s line = drafted s s.draft line

-- a line of the draft that is open, which waits for no answer any more
abbrev pub draft_play : SessionState → List ℕ → Play (Next SessionState Status)
draft_play s line = drafted_on (released s) line
