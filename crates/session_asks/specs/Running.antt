-- Commands that the shell runs.
use Rattle.std.specs.Prelude.{ℕ, List, [], ◌∷◌, codes}
use Rattle.std.specs.declared.option.Option.{Option}
use Rattle.std.specs.declared.option.Option.TheVariants.{Some, None}
use Rattle.mail_text.specs.Lines.{with_feed}
use Rattle.host_port.specs.declared.event.ChildAnswer.{ChildAnswer}
use Rattle.compose_tilde.specs.Answering.{said_of}
use Rattle.session_play.specs.Play.{Play, Ret, Ask, Act, Say, Child}
use Rattle.session_play.specs.Steps.{After, On, Refused}
use Rattle.command_desk.specs.declared.desk.Desk.{Desk}
use Rattle.session_state.specs.declared.state.SessionState.{SessionState}
use Rattle.session_state.specs.declared.status.Status.{Status}

-- the arguments with which the shell runs a command
abbrev pub shell_args : List ℕ → List (List ℕ)
shell_args command = codes "-c" ∷ command ∷ []

-- a command is run by the shell of the places, with this input
abbrev pub by_shell : Desk → List ℕ → List ℕ → Act
by_shell desk command input = Child desk.places.shell (shell_args command) input

-- the line that says so if it could not be run
abbrev pub not_run : List ℕ
not_run = with_feed (codes "command could not be run")

-- what follows a command that was asked for: what there is to print of it is printed; one that could not be run refuses
-- what follows
abbrev pub after_run : SessionState → Option ChildAnswer → Play (After SessionState Status)
after_run s None = Ret (Refused not_run)
after_run s (Some child) = Ask (Say (said_of child)) (λ _. Ret (On s))

-- a command that is asked for is run by the shell
abbrev pub run_asked : SessionState → List ℕ → List ℕ → Play (After SessionState Status)
run_asked s command input = Ask (by_shell s.desk command input) (after_run s)
