-- Commands that tell of messages, of the desk and of the commands.
use Rattle.std.specs.Prelude.{ℕ, ◌+◌, List, ◌++◌, length, codes}
use Rattle.std.specs.List.{flat_map, join_with_byte}
use Rattle.std.specs.Fmt.{decimal}
use Rattle.mail_text.specs.Lines.{with_feed}
use Rattle.line_words.specs.Spellings.{names}
use Rattle.message_list.specs.declared.list.Purpose.TheVariants.{Any}
use Rattle.message_show.specs.Summary.{summaries}
use Rattle.command_desk.specs.declared.desk.Desk.{Desk}
use Rattle.command_desk.specs.declared.steps.Steps.{Steps}
use Rattle.command_desk.specs.Answers.{OrFault, next, says}
use Rattle.command_desk.specs.Desks.{message_text}
use Rattle.command_desk.specs.Effects.{unchanged}
use Rattle.command_desk.specs.Selecting.{chosen}

-- `from`: the summary lines of the selected messages, deleted ones too
abbrev pub from : Desk → List (List ℕ) → OrFault Steps
from desk words = next (chosen Any desk words) (λ ns. says (summaries desk.shown ns desk.places.width) unchanged)

-- a message's number and size, which is the length of its text and one
abbrev pub size_line : Desk → ℕ → List ℕ
size_line desk n = with_feed (decimal n ++ codes ": " ++ decimal (length (message_text desk n) + 1))

-- `size`: the sizes of the selected messages, deleted ones too
abbrev pub size : Desk → List (List ℕ) → OrFault Steps
size desk words = next (chosen Any desk words) (λ ns. says (flat_map (size_line desk) ns) unchanged)

-- `=`: the number of the current message, 0 if there is none
abbrev pub number : Desk → OrFault Steps
number desk = says (with_feed (decimal desk.shown.current)) unchanged

-- `echo`: the words joined by one space
abbrev pub echo : Desk → List (List ℕ) → OrFault Steps
echo desk words = says (with_feed (join_with_byte 32 words)) unchanged

-- `help`: the names of all commands, one a line
abbrev pub help : Desk → OrFault Steps
help desk = says (flat_map with_feed names) unchanged
