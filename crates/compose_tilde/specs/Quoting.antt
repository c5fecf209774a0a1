-- The messages that a draft takes.
use Rattle.std.specs.Prelude.{ℕ, List, [], ◌++◌, unwrap_or, codes}
use Rattle.std.specs.List.{flat_map}
use Rattle.mail_text.specs.Lines.{lines_of, with_feed}
use Rattle.mailx_vars.specs.Settings.{Settings, value_of}
use Rattle.message_show.specs.declared.text.How.{How}
use Rattle.message_show.specs.ShownText.{shown_text}
use Rattle.compose_tilde.specs.Views.{View, message_text}

-- a message as it is printed, without the line of its number
abbrev pub forwarded : View → How → ℕ → List ℕ
forwarded view how n = with_feed (shown_text (message_text view n) view.sets how)

-- what stands in front of the lines of a message that is quoted
abbrev pub indent : Settings → List ℕ
indent vars = unwrap_or (value_of vars (codes "indentprefix")) []

-- a text with this in front of each line
abbrev pub indented : List ℕ → List ℕ → List ℕ
indented front text = flat_map (λ line. front ++ with_feed line) (lines_of text)

-- a message whose lines are quoted
abbrev pub quoted : View → How → ℕ → List ℕ
quoted view how n = indented (indent view.vars) (forwarded view how n)

-- messages, one after the other
abbrev pub all_forwarded : View → How → List ℕ → List ℕ
all_forwarded view how ns = flat_map (forwarded view how) ns

abbrev pub all_quoted : View → How → List ℕ → List ℕ
all_quoted view how ns = flat_map (quoted view how) ns
