-- What a line comes to that the machine of a draft takes.
use Rattle.std.specs.Prelude.{ℕ, Bool, true, not, ◌&&◌, List, Option, Some, None, is_none, codes, if◌then◌else◌}
use Rattle.std.specs.declared.result.Result.TheVariants.{Ok, Err}
use Rattle.mail_text.specs.Lines.{with_feed}
use Rattle.mailx_vars.specs.Settings.{is_set}
use Rattle.draft_text.specs.declared.draft.Draft.{Draft}
use Rattle.compose_tilde.specs.declared.machine.Machine.{Machine}
use Rattle.compose_tilde.specs.declared.machine.Part.{Part}
use Rattle.compose_tilde.specs.declared.need.Need.TheVariants as need
use Rattle.compose_tilde.specs.declared.need.ComposeError.TheVariants as error
use Rattle.compose_tilde.specs.declared.escape.Escape.{Escape}
use Rattle.compose_tilde.specs.Escapes.{escape_of, takes}
use Rattle.compose_tilde.specs.declared.reading.Given.{Given}
use Rattle.compose_tilde.specs.Reading.{Written, plain, alone, escaped, reading_of, escape_byte, argument, given_for, is_end, is_empty}
use Rattle.compose_tilde.specs.Views.{View}
use Rattle.compose_tilde.specs.Values.{with_subject, appended, part_after, put_value}
use Rattle.compose_tilde.specs.Steps.{Step, goes_on}
use Rattle.compose_tilde.specs.Meanings.{meaning, ask_for}

-- The next line is the subject: no line was taken yet, `~h` asks for no value, the input is a terminal, `asksub` is set,
-- and there is no subject
abbrev pub asks_subject : Machine → View → Bool
asks_subject m view =
    not m.taken && is_none m.header && view.terminal && is_set view.vars (codes "asksub") && is_empty m.draft.subject

-- an escape with its argument, which is missing or of no use, or which it takes
abbrev pub with_given : ℕ → Escape → Option Given → Machine → View → Step
with_given letter escape None m view = Err (error.BadArguments letter)
with_given letter escape (Some given) m view = meaning escape m given view

-- the escape of a letter, if it stands for one, with the rest of its line
abbrev pub with_letter : Option Escape → ℕ → List ℕ → Machine → View → Step
with_letter None letter rest m view = Err (error.Unknown (Some letter))
with_letter (Some escape) letter rest m view = with_given letter escape (given_for (takes escape) (argument rest)) m view

-- bytes for the body, or an escape
abbrev pub written_step : Written → Machine → View → Step
written_step (plain line) m view = goes_on m (appended m.draft (with_feed line))
written_step alone m view = Err (error.Unknown None)
written_step (escaped letter rest) m view = with_letter (escape_of letter) letter rest m view

-- a line of the draft: its end, or bytes for the body or an escape
abbrev pub draft_line : Machine → List ℕ → View → Step
draft_line m line view =
    if is_end view.vars line then Ok (m, need.Done)
    else written_step (reading_of (escape_byte view.vars) line) m view

-- the draft with a value that `~h` asked for, and then the next value; a quote in names that isn't closed refuses the line
abbrev pub next_value : Machine → Part → Option Draft → Step
next_value m part None = Err (error.BadArguments 104)
next_value m part (Some draft) = ask_for (record m { draft = draft }) (part_after part)

-- a line if `~h` asks for no value: the subject, if that is asked for, or a line of the draft
abbrev pub subject_or_line : Machine → List ℕ → View → Step
subject_or_line m line view =
    if asks_subject m view then goes_on m (with_subject m.draft line) else draft_line m line view

-- the machine has taken a line, unless it was refused
abbrev pub begun : Step → Step
begun (Ok (m, need)) = Ok (record m { taken = true }, need)
begun (Err e) = Err e

-- a line if `~h` asks for this value, if it asks for one
abbrev pub asked_line : Option Part → Machine → List ℕ → View → Step
asked_line (Some part) m line view = next_value m part (put_value m.draft part line)
asked_line None m line view = begun (subject_or_line m line view)

-- what a line comes to
unfoldable pub line_step : Machine → List ℕ → View → Step
line_step m line view = asked_line m.header m line view
