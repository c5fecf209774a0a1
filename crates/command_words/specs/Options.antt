-- The flags, options and operands of a command line, from the rows that a parse gives.
use Rattle.std.specs.Prelude.{Bool, false, List, Option, Some, None, codes}
use Rattle.std.specs.Str.{bytes_eq}
use Rattle.clap.specs.Walk.{Row, Text, first_of}
use Rattle.command_words.specs.Words.{operands_of}
use Rattle.command_words.specs.declared.options.Options.{Options}

-- the value of a flag that is given
abbrev pub is_true : Option Text → Bool
is_true None = false
is_true (Some text) = bytes_eq text (codes "true")

-- a flag is given
abbrev pub is_on : Text → List Row → Bool
is_on id rows = is_true (first_of id rows)

abbrev pub options_of : List Row → Options
options_of rows = record {
  exists = is_on (codes "e") rows;
  headers = is_on (codes "H") rows;
  ignores = is_on (codes "i") rows;
  quiet = is_on (codes "N") rows;
  no_system_file = is_on (codes "n") rows;
  named = is_on (codes "F") rows;
  folder = is_on (codes "f") rows;
  user = first_of (codes "u") rows;
  subject = first_of (codes "s") rows;
  blind = first_of (codes "b") rows;
  copies = first_of (codes "c") rows;
  tries = first_of (codes "try") rows;
  operands = operands_of rows;
}
