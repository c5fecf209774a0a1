-- What a commit leaves of a command, and what is taken of lines that wait.
use Rattle.std.specs.Prelude.{◌≡◌, ℕ, List}
use Rattle.std.specs.declared.option.Option.{Option}
use Rattle.std.specs.declared.option.Option.TheVariants.{Some, None}
use Rattle.std.specs.declared.result.Result.{Result}
use Rattle.std.specs.declared.result.Result.TheVariants.{Ok, Err}
use Rattle.folder_change.specs.declared.change.Change.{Change}
use Rattle.session_play.specs.declared.changing.Attempt.{Attempt}
use Rattle.session_play.specs.declared.stop.Stop.{Stop}
use Rattle.session_state.specs.declared.answers.AskResult.{AskResult}
use Rattle.session_state.specs.declared.error.RunError.{RunError}
use Rattle.session_state.specs.declared.error.RunError.TheVariants as error
use Rattle.session_state.specs.declared.state.SessionState.{SessionState}
use Rattle.session_state.specs.declared.frames.WaitingLine.{WaitingLine}
use Rattle.session_state.specs.States.{next_waiting, resumed, line_ended}
use Rattle.session_state.specs.Saving.{after_placed}
use Rattle.session_state.specs.Answers.{after_asks, stop_of}

-- an answered commit of changes, of files that are said by these names, leaves what it is to leave, unless memory runs out; one that was cut off
-- is that cut
abbrev pub Follows : SessionState → List (List ℕ) → List Change → Result Attempt Stop → Result AskResult RunError → Type 0
Follows s names changes (Ok answer) (Ok asked) = after_asks s asked ≡ after_placed s names changes answer
Follows s names changes (Ok answer) (Err error.Memory) = Unit {0}
Follows s names changes (Ok answer) (Err e) = ⊥
Follows s names changes (Err cause) (Ok asked) = ⊥
Follows s names changes (Err cause) (Err e) = stop_of e ≡ cause

-- the line that is carried out next was taken, or there is none
abbrev pub IsNext : Option WaitingLine → SessionState → SessionState → Type 0
IsNext (Some line) old new = (next_waiting old ≡ Some (line, new.frames)) × (new ≡ resumed old new.frames)
IsNext None old new = (next_waiting old ≡ None) × (line_ended new ≡ line_ended old)
