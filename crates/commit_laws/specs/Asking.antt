-- What a line of a session asks for, and when it may be refused.
use Rattle.std.specs.Prelude.{◌≡◌, ℕ, Bool, true, false, List, [], ◌∷◌}
use Rattle.std.specs.declared.result.Result.TheVariants.{Ok}
use Rattle.session_play.specs.declared.changing.Attempt.TheVariants.{Made}
use Rattle.session_play.specs.declared.changing.Committed.TheVariants as committed
use Rattle.session_play.specs.Acts.{AllEnds}
use Rattle.session_play.specs.Play.{Act, Answer, Changes, Play, Ret, Ask}
use Rattle.session_play.specs.Steps.{After, Refused, in_order}
use Rattle.quit_rules.specs.Gathering.{change_of}
use Rattle.command_desk.specs.declared.desk.Desk.{Desk}
use Rattle.command_desk.specs.declared.steps.Ask as asked_of
use Rattle.command_desk.specs.declared.steps.Ask.TheVariants as asks
use Rattle.command_desk.specs.declared.steps.Steps.{Steps}
use Rattle.folder_commands.specs.declared.wanted.Filing.{Filing}
use Rattle.folder_commands.specs.Leaving.{changes_of, left_reply, quit}
use Rattle.filing_laws.specs.Saving.{Files}
use Rattle.read_commands.specs.declared.origin.Origin.{Origin}
use Rattle.read_commands.specs.Origins.{commanded}
use Rattle.session_state.specs.declared.state.SessionState.{SessionState}
use Rattle.session_state.specs.declared.status.Status.{Status}
use Rattle.session_asks.specs.Asks.{asked}

-- the ask is for no commit of changes that it names
abbrev pub IsQuiet : asked_of.Ask → Type 0
IsQuiet (asks.Commit changes) = ⊥
IsQuiet (asks.Open name changes reply) = ⊥
IsQuiet ask = Unit {0}

-- A line asks for nothing, or for one thing that isn't a commit; or it commits what is put into a file, and then prints the receipt; or it leaves the
-- folder, and ends the run or opens another file.
pub data LineAsks (desk : Desk) : List asked_of.Ask → Type 0 where
  nothing : LineAsks desk []
  one : {a : asked_of.Ask} → IsQuiet a → LineAsks desk (a ∷ [])
  files : (words : List (List ℕ)) (filing : Filing) → Files desk words filing
      → LineAsks desk (asks.Commit (change_of filing.put ∷ []) ∷ asks.Say filing.put.reply ∷ [])
  leaves : LineAsks desk (quit desk).asks
  opens : (name : List ℕ) → LineAsks desk (asks.Open name (changes_of desk) (left_reply desk) ∷ [])

-- wherever it comes from
abbrev pub LinesAsk : Type 0
LinesAsk = (from : Origin) (desk : Desk) (line : List ℕ) (steps : Steps) → commanded from desk line ≡ Ok steps → LineAsks desk steps.asks

-- the act is a commit that was answered as done
abbrev pub is_done : (act : Act) → Answer act → Bool
is_done (Changes c) (Made committed.Done) = true
is_done (Changes c) refused = false
is_done act answer = false

abbrev pub IsNotRefused : After SessionState Status → Type 0
IsNotRefused (Refused line) = ⊥
IsNotRefused after = Unit {0}

-- once a commit was answered as done what is asked isn't refused any more
abbrev pub RefusedOnlyBefore : Play (After SessionState Status) → Type 0
RefusedOnlyBefore (Ret r) = Unit {0}
RefusedOnlyBefore (Ask act go) = (answer : Answer act) → (is_done act answer ≡ true → AllEnds IsNotRefused (go answer)) × RefusedOnlyBefore (go answer)

-- so a line that is refused has changed no file
abbrev pub RefusedLinesChangeNothing : Type 0
RefusedLinesChangeNothing = (from : Origin) (s : SessionState) (line : List ℕ) (steps : Steps) → commanded from s.desk line ≡ Ok steps
    → RefusedOnlyBefore (in_order asked s steps.asks)
