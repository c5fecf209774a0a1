-- Which arguments of an escape are bad.
use Rattle.std.specs.Prelude.{◌≡◌, ◌≢◌, ◌⊎◌, ◌↔◌, ℕ, Bool, true, false, List, [], None, codes}
use Rattle.line_words.specs.Words.{HasOpenQuote}
use Rattle.compose_tilde.specs.declared.escape.Escape.{Escape}
use Rattle.compose_tilde.specs.declared.escape.Escape.TheVariants.{Shell, Command, Value, Add, Subject, Read, Forward, Quote}
use Rattle.compose_tilde.specs.declared.escape.Escape.TheVariants.{Write, Pipe}
use Rattle.compose_tilde.specs.Escapes.{takes}
use Rattle.compose_tilde.specs.Reading.{given_for}

-- what the help of an escape names after its letter; a list of messages stands in brackets, since it may be missing
pub data Named : Type 0 where
  nothing : Named
  command : Named
  name : Named
  names : Named
  text : Named
  file : Named
  list : Named

-- `~! command`, `~: command`, `~i name`, `~b names`, `~s text`, `~r file`, `~f [list]`, `~m [list]`, `~w file`, `~| command`;
-- the others name nothing
abbrev pub named : Escape → Named
named Shell = command
named Command = command
named Value = name
named (Add to) = names
named Subject = text
named Read = file
named (Forward how) = list
named (Quote how) = list
named Write = file
named Pipe = command
named other = nothing

-- it stands outside of brackets, and isn't `text`, which may be missing
abbrev pub must_stand : Named → Bool
must_stand command = true
must_stand name = true
must_stand names = true
must_stand file = true
must_stand other = false

-- a quote in its words isn't closed; names are words, and a list is words
abbrev pub OpensQuote : Named → List ℕ → Type 0
OpensQuote names argument = HasOpenQuote false argument
OpensQuote list argument = HasOpenQuote true argument
OpensQuote other argument = ⊥

-- the argument is missing; or one stands where none is named; or `!`, which a command may follow for a file, has none; or a
-- quote isn't closed
abbrev pub IsBad : Escape → List ℕ → Type 0
IsBad escape argument =
    ((must_stand (named escape) ≡ true) × (argument ≡ []))
    ⊎ (((named escape ≡ nothing) × (argument ≢ []))
    ⊎ (((escape ≡ Read) × (argument ≡ codes "!"))
    ⊎ OpensQuote (named escape) argument))

-- an escape is given nothing exactly if its argument is bad
abbrev pub BadAreRefused : Type 0
BadAreRefused = (escape : Escape) (argument : List ℕ) → (given_for (takes escape) argument ≡ None) ↔ IsBad escape argument
