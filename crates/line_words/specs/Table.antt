-- What a row of the code's table stands for.
use Rattle.std.specs.Prelude.{take}
use Rattle.line_words.specs.declared.table.Spelling as code
use Rattle.line_words.specs.Spellings.{Spelling}

-- the spelling that a row writes down
abbrev pub row_of : code.Spelling → Spelling
row_of s = record { command = s.command; least = take s.least s.whole.now; whole = s.whole.now }
