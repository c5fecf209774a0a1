-- What a command asks for, and what its answer leaves.
use Rattle.std.specs.Prelude.{◌≡◌, Bool, true, false}
use Rattle.std.specs.List.{list_any}
use Rattle.std.specs.declared.result.Result.{Result}
use Rattle.std.specs.declared.result.Result.TheVariants.{Ok, Err}
use Rattle.session_play.specs.Play.{Play, Ret, Ask, Say}
use Rattle.session_play.specs.Steps.{After, On, Ended}
use Rattle.command_desk.specs.declared.steps.Ask as asked_of
use Rattle.command_desk.specs.declared.steps.Ask.TheVariants as asks
use Rattle.command_desk.specs.declared.steps.Steps.{Steps}
use Rattle.command_desk.specs.Answers.{OrFault}
use Rattle.command_desk.specs.declared.steps.Refusal.{Refusal}
use Rattle.command_desk.specs.declared.steps.Refusal.TheVariants as refusal
use Rattle.session_state.specs.declared.answers.AskResult.{AskResult}
use Rattle.session_state.specs.declared.answers.AskResult.TheVariants as answered
use Rattle.session_state.specs.declared.error.RunError.{RunError}
use Rattle.session_state.specs.declared.error.RunError.TheVariants as error
use Rattle.session_state.specs.declared.state.SessionState.{SessionState}
use Rattle.session_state.specs.declared.status.Status.{Status}
use Rattle.session_state.specs.States.{OnlyFrames}
use Rattle.session_asks.specs.Beginning.{beginning, file_fault}
use Rattle.session_state.specs.Outcomes.{status_of}
use Rattle.session_asks.specs.Running.{run_asked}
use Rattle.session_state.specs.Saving.{saved}
use Rattle.session_asks.specs.Sourcing.{source_fault, sourced}
use Rattle.session_asks.specs.Calling.{called}
use Rattle.session_asks.specs.Gathering.{gather_fault, gathers}
use Rattle.session_asks.specs.Switching.{open_fault, switches}
use Rattle.session_asks.specs.Renewing.{folder_fault, renews}
use Rattle.session_asks.specs.Viewing.{views}
use Rattle.session_asks.specs.Editing.{edits}

-- what is asked for, and what its answer leaves
abbrev pub asked : SessionState → asked_of.Ask → Play (After SessionState Status)
asked s (asks.Say bytes) = Ask (Say bytes) (λ _. Ret (On s))
asked s (asks.Commit changes) = saved s changes
asked s (asks.Gather name) = Ret (gathers s (gather_fault s name))
asked s (asks.Source name) = sourced s name (source_fault s name)
asked s (asks.Lines text) = Ret (called s text)
asked s (asks.Open name changes reply) = switches s name changes reply (open_fault s name changes)
asked s asks.Newmail = renews s (folder_fault s)
asked s (asks.View kind) = views s kind
asked s (asks.Draft draft file current) = beginning s draft file current (file_fault s file)
asked s (asks.Child command input) = run_asked s command input
asked s (asks.Edit number command) = edits s number command
asked s asks.Exit = Ret (Ended (status_of s.outcome))

-- the ask brings something into the session: lines from elsewhere, another folder or view, an edited message, or a draft
abbrev pub brings : asked_of.Ask → Bool
brings (asks.Source name) = true
brings (asks.Lines text) = true
brings (asks.Open name changes reply) = true
brings asks.Newmail = true
brings (asks.View kind) = true
brings (asks.Draft draft file current) = true
brings (asks.Edit number command) = true
brings ask = false

-- a command's steps bring lines, a folder or a draft
abbrev pub brings_lines : OrFault Steps → Bool
brings_lines (Ok steps) = list_any brings steps.asks
brings_lines (Err line) = false

-- all was done, and the command isn't over
abbrev pub all_done : Result AskResult RunError → Bool
all_done (Ok answered.On) = true
all_done r = false

-- all was done, to the last or to one with which the command is over
abbrev pub is_on : Result AskResult RunError → Bool
is_on (Ok answered.On) = true
is_on (Ok answered.Over) = true
is_on r = false

-- if what follows is refused, or the run ends, the state stays; one that is cut off is looked at no more
abbrev pub StaysUnlessOn : SessionState → SessionState → Result AskResult RunError → Type 0
StaysUnlessOn old new (Ok answered.On) = Unit {0}
StaysUnlessOn old new (Ok answered.Over) = Unit {0}
StaysUnlessOn old new (Ok (answered.Refused line)) = new ≡ old
StaysUnlessOn old new (Ok (answered.Ended status)) = new ≡ old
StaysUnlessOn old new (Err error) = Unit {0}

-- desk and draft stay, unless the command is over with an ask, or cut off in it
abbrev pub KeepsDesk : SessionState → SessionState → Result AskResult RunError → Type 0
KeepsDesk old new (Ok answered.On) = OnlyFrames old new
KeepsDesk old new (Ok answered.Over) = Unit {0}
KeepsDesk old new (Ok (answered.Refused line)) = OnlyFrames old new
KeepsDesk old new (Ok (answered.Ended status)) = OnlyFrames old new
KeepsDesk old new (Err error) = Unit {0}

-- a refusal leaves its line, or is a cut because memory ran out
abbrev pub IsRefusedSo : Refusal → Result AskResult RunError → Type 0
IsRefusedSo (refusal.Fault line) r = r ≡ Ok (answered.Refused line)
IsRefusedSo refusal.Memory r = r ≡ Err error.Memory
