-- What the words of the command line ask a run to do.
use Rattle.std.specs.Prelude.{not, ℕ, Bool, false, List, [], ◌∷◌, if◌then◌else◌, codes}
use Rattle.std.specs.Option.{option_and_then}
use Rattle.std.specs.declared.option.Option.{Option}
use Rattle.std.specs.declared.option.Option.TheVariants.{Some, None}
use Rattle.command_words.specs.declared.mode.Mode.{Mode}
use Rattle.command_words.specs.declared.mode.Mode.TheVariants as mode
use Rattle.command_words.specs.declared.options.Options.{Options}
use Rattle.command_words.specs.declared.reading.Wanted.{Wanted}
use Rattle.command_words.specs.Readings.{reading}
use Rattle.mailx_vars.specs.Environment.{Pairs, knows_user}
use Rattle.mailx_top.specs.declared.words.Manner.{Manner}
use Rattle.mailx_top.specs.declared.words.Manner.TheVariants.{Silent, Rows, Quiet, Greeting}

-- how to start, with the options of the words: a folder is opened, or a draft is sent
pub data Start : Type 0 where
  Opens : Options → Start
  Sends : Options → Start

-- the options with which a run starts
abbrev pub options_of : Start → Options
options_of (Opens o) = o
options_of (Sends o) = o

-- the first of these words, or another if there is none
abbrev pub first_or : List ℕ → List (List ℕ) → List ℕ
first_or other [] = other
first_or other (word ∷ words) = word

-- the word of the folder: with `-f` the operand, or that of mbox; else that of the system mailbox
abbrev pub folder_word : Options → List ℕ
folder_word o = if o.folder then first_or (codes "&") o.operands else codes "%"

-- nothing is printed with `-e`; with `-H` the summary lines of all messages are, and else a greeting, unless `-N` is given
abbrev pub manner_of : Options → Manner
manner_of o = if o.exists then Silent else if o.headers then Rows else if o.quiet then Quiet else Greeting

-- how to start in a mode; a run that tries itself starts none here
abbrev pub start_in : Mode → Options → Option Start
start_in mode.Exists o = Some (Opens o)
start_in mode.Receive o = Some (Opens o)
start_in mode.Send o = Some (Sends o)
start_in m o = None

abbrev pub start_by : Wanted → Option Start
start_by wanted = start_in wanted.mode wanted.options

-- what the words ask for; none if they are refused
abbrev pub asked : List (List ℕ) → Option Start
asked words = option_and_then start_by (reading words)

-- a last line may be printed: the words aren't refused, nor do they ask for silence with `-e`
abbrev pub may_say : Option Start → Bool
may_say None = false
may_say (Some start) = not (options_of start).exists

-- how to start; none if the words are refused, or home folder and user aren't known
abbrev pub start_of : Option Start → Pairs → Option Start
start_of start pairs = if knows_user pairs then start else None
