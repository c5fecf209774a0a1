-- What the words of the command line ask for.
use Rattle.std.specs.Prelude.{ℕ, ◌&&◌, List, Option, None, if◌then◌else◌}
use Rattle.std.specs.List.{list_all}
use Rattle.std.specs.Option.{option_map}
use Rattle.std.specs.Str.{is_utf8}
use Rattle.clap.specs.Simple.{matches_of}
use Rattle.command_words.specs.Modes.{mode_of}
use Rattle.command_words.specs.Options.{options_of}
use Rattle.command_words.specs.Words.{mailx, reads}
use Rattle.command_words.specs.declared.options.Options.{Options}
use Rattle.command_words.specs.declared.reading.Wanted.{Wanted}

-- a mode with its options, if they go together
abbrev pub wanted_by : Options → Option Wanted
wanted_by o = option_map (λ mode. record { mode = mode; options = o }) (mode_of o)

-- the words are UTF-8 and a command line, and its options go together
abbrev pub reading : List (List ℕ) → Option Wanted
reading words = if list_all is_utf8 words && reads words then wanted_by (options_of (matches_of mailx words)) else None
