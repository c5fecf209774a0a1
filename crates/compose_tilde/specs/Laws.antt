-- What holds of all lines and answers of a draft.
use Rattle.std.specs.Prelude.{◌≡◌, ◌==◌, ℕ, Bool, true, false, List, ◌∷◌, ◌++◌, fold, map, All, Option, Some, None}
use Rattle.std.specs.List.{flat_map}
use Rattle.std.specs.List.Sorted.{IsStrictlyIncreasing}
use Rattle.std.specs.declared.result.Result.TheVariants.{Ok, Err}
use Rattle.mail_text.specs.Lines.{lines_of, with_feed}
use Rattle.mailx_vars.specs.Settings.{Settings}
use Rattle.host_port.specs.declared.event.ChildAnswer.{ChildAnswer}
use Rattle.host_port.specs.declared.event.EditAnswer.{EditAnswer}
use Rattle.draft_text.specs.declared.draft.Draft.{Draft}
use Rattle.draft_text.specs.DraftLaws.{HasFlatParts}
use Rattle.compose_tilde.specs.declared.machine.Machine.{Machine}
use Rattle.compose_tilde.specs.declared.machine.Wait.{Wait}
use Rattle.compose_tilde.specs.declared.need.Need.{Need}
use Rattle.compose_tilde.specs.declared.need.Need.TheVariants.{More, Load, Dead, Child, Edit, Command, Put}
use Rattle.compose_tilde.specs.declared.need.Answer.{Answer}
use Rattle.compose_tilde.specs.declared.need.Answer.TheVariants.{Loaded, Ran, Edited, Carried}
use Rattle.compose_tilde.specs.Escapes.{escapes}
use Rattle.compose_tilde.specs.Reading.{escape_byte, is_end}
use Rattle.compose_tilde.specs.Views.{View}
use Rattle.compose_tilde.specs.Values.{appended, with_body}
use Rattle.compose_tilde.specs.Steps.{Step}
use Rattle.compose_tilde.specs.Lines.{asks_subject, line_step}
use Rattle.compose_tilde.specs.Answering.{is_waited_for, answer_step}

-- the letters of the escapes ascend, so each stands for one
abbrev pub LettersAscend : Type 0
LettersAscend = IsStrictlyIncreasing (map (λ r. r.letter) escapes)

-- the line is one of the body: it doesn't end the draft, and doesn't begin with the escape byte
abbrev pub begins_with : Option ℕ → List ℕ → Bool
begins_with (Some mark) (b ∷ rest) = b == mark
begins_with mark line = false

pub record IsBodyLine (vars : Settings) (line : List ℕ) : Type 0 where
  pub goes_on : is_end vars line ≡ false
  pub no_escape : begins_with (escape_byte vars) line ≡ false

-- the machine takes lines of the body: neither `~h` nor the terminal asks for a value
pub record TakesBody (m : Machine) (view : View) : Type 0 where
  pub no_value : m.header ≡ None
  pub no_subject : asks_subject m view ≡ false

-- the machine once the body has taken bytes
abbrev pub with_bytes : Machine → List ℕ → Machine
with_bytes m bytes = record m { draft = appended m.draft bytes; taken = true }

-- a line of the body is put at its end with a line feed, and nothing else of the draft changes
abbrev pub BodyTakesLine : Type 0
BodyTakesLine = (m : Machine) (line : List ℕ) (view : View) → TakesBody m view → IsBodyLine view.vars line
    → line_step m line view ≡ Ok (with_bytes m (with_feed line), More)

-- the machine after a step; one that is refused leaves it
abbrev pub after_step : Machine → Step → Machine
after_step m (Ok (after, need)) = after
after_step m (Err e) = m

-- the machine after lines, one after the other
abbrev pub after_lines : View → Machine → List (List ℕ) → Machine
after_lines view m lines = fold (λ m line. after_step m (line_step m line view)) m lines

-- lines of the body, one after the other, are just what is put at its end
abbrev pub BodyIsLines : Type 0
BodyIsLines = (m : Machine) (lines : List (List ℕ)) (view : View) → TakesBody m view → All (IsBodyLine view.vars) lines
    → (after_lines view m lines).draft ≡ appended m.draft (flat_map with_feed lines)

-- the body keeps its lines, and has behind them those of what it takes
abbrev pub BodyKeepsLines : Type 0
BodyKeepsLines = (draft : Draft) (bytes : List ℕ) → lines_of (appended draft bytes).body ≡ lines_of draft.body ++ lines_of bytes

-- a line that begins with the escape byte twice is put at the end of the body without the first of them
abbrev pub TwiceIsOnce : Type 0
TwiceIsOnce = (m : Machine) (mark : ℕ) (rest : List ℕ) (view : View) → TakesBody m view → escape_byte view.vars ≡ Some mark
    → line_step m (mark ∷ mark ∷ rest) view ≡ Ok (with_bytes m (with_feed (mark ∷ rest)), More)

-- a step leaves no line feed in a part of the draft but its body
abbrev pub IsFlatStep : Step → Type 0
IsFlatStep (Ok (after, need)) = HasFlatParts after.draft
IsFlatStep (Err e) = Unit {0}

-- if there was none, none comes, by lines and by answers
abbrev pub LinesStayFlat : Type 0
LinesStayFlat = (m : Machine) (line : List ℕ) (view : View) → HasFlatParts m.draft → IsFlatStep (line_step m line view)

abbrev pub AnswersStayFlat : Type 0
AnswersStayFlat = (m : Machine) (answer : Answer) → HasFlatParts m.draft → IsFlatStep (answer_step m answer)

-- a step changes no part of the draft but its body
abbrev pub KeepsParts : Draft → Step → Type 0
KeepsParts draft (Ok (after, need)) = with_body after.draft draft.body ≡ draft
KeepsParts draft (Err e) = Unit {0}

-- so it is with each answer
abbrev pub AnswersKeep : Type 0
AnswersKeep = (m : Machine) (answer : Answer) → KeepsParts m.draft (answer_step m answer)

-- what is waited for, once this is needed: an answer to it, or nothing
abbrev pub IsWaiting : Option Wait → Need → Type 0
IsWaiting waits (Load name) = (bytes : List ℕ) → is_waited_for waits (Loaded bytes) ≡ true
IsWaiting waits Dead = (bytes : List ℕ) → is_waited_for waits (Loaded bytes) ≡ true
IsWaiting waits (Child command input) = (child : ChildAnswer) → is_waited_for waits (Ran child) ≡ true
IsWaiting waits (Edit command text) = (edit : EditAnswer) → is_waited_for waits (Edited edit) ≡ true
IsWaiting waits (Command line) = is_waited_for waits Carried ≡ true
IsWaiting waits (Put name bytes) = is_waited_for waits Carried ≡ true
IsWaiting waits need = waits ≡ None

-- so it is after a step
abbrev pub IsWaitingStep : Step → Type 0
IsWaitingStep (Ok (after, need)) = IsWaiting after.waits need
IsWaitingStep (Err e) = Unit {0}

-- and after each line, if nothing was waited for
abbrev pub LinesAsk : Type 0
LinesAsk = (m : Machine) (line : List ℕ) (view : View) → m.waits ≡ None → IsWaitingStep (line_step m line view)

-- after a step nothing is waited for
abbrev pub IsIdleStep : Step → Type 0
IsIdleStep (Ok (after, need)) = after.waits ≡ None
IsIdleStep (Err e) = Unit {0}

abbrev pub AnswersIdle : Type 0
AnswersIdle = (m : Machine) (answer : Answer) → IsIdleStep (answer_step m answer)
