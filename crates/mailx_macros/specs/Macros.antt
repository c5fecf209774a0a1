-- Macros by name, and the definition that is under way. A list of macros is in order of definition.
use Rattle.std.specs.Prelude.{◌≡◌, ◌≤◌, ◌+◌, ◌&&◌, not, nat_le, ℕ, Bool, true, false, List, [], ◌∷◌, ◌++◌, Option, Some, None, Result, Ok, Err, is_some, length, codes, sum_by, if◌then◌else◌}
use Rattle.std.specs.List.{IsDistinct}
use Rattle.std.specs.Map.{lookup, remove_entry, keys_of}
use Rattle.std.specs.Option.{option_to_list}
use Rattle.std.specs.Str.{bytes_eq}
use Rattle.line_words.specs.Line.{reading}
use Rattle.line_words.specs.declared.command.Command.{Command}
use Rattle.line_words.specs.declared.command.Command.TheVariants.{Define}
use Rattle.line_words.specs.declared.line.CommandLine.{CommandLine}
use Rattle.line_words.specs.declared.line.LineError.{LineError}
use Rattle.mailx_macros.specs.declared.error.MacroError.{MacroError}
use Rattle.mailx_macros.specs.declared.error.MacroError.TheVariants.{Nested, Taken, TooMany}

-- a name, and the lines of the macro
abbrev pub Macro : Type 0
Macro = List ℕ × List (List ℕ)

-- the macros that are defined, and the definition that is under way
pub record Definitions : Type 0 where
  pub done : List Macro
  pub unfinished : Option Macro

-- the lines of a macro, if the name is defined
abbrev pub body_of : List Macro → List ℕ → Option (List (List ℕ))
body_of macros name = lookup (bytes_eq name) macros

-- the name is defined
abbrev pub is_defined : List Macro → List ℕ → Bool
is_defined macros name = is_some (body_of macros name)

-- the macro has this name
abbrev pub named : List ℕ → Macro → Bool
named name macro = bytes_eq name macro.0

-- once a macro is removed
abbrev pub without : List Macro → List ℕ → List Macro
without macros name = remove_entry (bytes_eq name) macros

-- how many lines macros have together
abbrev pub lines_in : List Macro → ℕ
lines_in macros = sum_by (λ m. length m.1) macros

-- how many lines all bodies have together, that under way among them
abbrev pub line_count : List Macro → Option Macro → ℕ
line_count done unfinished = lines_in done + lines_in (option_to_list unfinished)

-- the command is `define`
abbrev pub is_define : Command → Bool
is_define Define = true
is_define other = false

-- there are two words, the second of them `{`
abbrev pub has_brace : List (List ℕ) → Bool
has_brace [] = false
has_brace (name ∷ []) = false
has_brace (name ∷ brace ∷ []) = bytes_eq brace (codes "{")
has_brace (name ∷ brace ∷ more ∷ others) = false

-- the command with these words begins a definition
abbrev pub opens_definition : Command → List (List ℕ) → Bool
opens_definition command words = is_define command && has_brace words

-- what is read begins a definition
abbrev pub is_opening : Result CommandLine LineError → Bool
is_opening (Ok line) = opens_definition line.command line.words
is_opening (Err e) = false

-- the line reads as the command `define` with two words, the second of them `{`
abbrev pub begins_definition : List ℕ → Bool
begins_definition line = is_opening (reading line)

-- why a definition can't be begun: one is under way, the name is defined, or 1,000 macros are
abbrev pub begin_refusal : Definitions → List ℕ → Option MacroError
begin_refusal d name =
    if is_some d.unfinished then Some Nested
    else if is_defined d.done name then Some Taken
    else if nat_le 1000 (length d.done) then Some TooMany
    else None

-- why the definition that is under way takes no line: the line begins another, or all bodies have 100,000 lines
abbrev pub line_refusal : Definitions → List ℕ → Option MacroError
line_refusal d line =
    if begins_definition line then Some Nested
    else if nat_le 100000 (line_count d.done d.unfinished) then Some TooMany
    else None

-- once a definition is begun
abbrev pub begun : Definitions → List ℕ → Definitions
begun d name = record d { unfinished = Some (name, []) }

-- the definition with one more line
abbrev pub with_line_in : Option Macro → List ℕ → Option Macro
with_line_in None line = None
with_line_in (Some macro) line = Some (macro.0, macro.1 ++ line ∷ [])

abbrev pub with_line : Definitions → List ℕ → Definitions
with_line d line = record d { unfinished = with_line_in d.unfinished line }

-- once the definition that is under way has ended: its macro is the last
abbrev pub ended : Definitions → Definitions
ended d = record { done = d.done ++ option_to_list d.unfinished; unfinished = None }

-- the name of a definition that is under way isn't defined
abbrev pub is_apart : List Macro → Option Macro → Bool
is_apart done None = true
is_apart done (Some macro) = not (is_defined done macro.0)

-- what holds of definitions: there are at most 1,000 macros, with 100,000 lines, and their names are distinct
pub record AreDefinitions (done : List Macro) (unfinished : Option Macro) : Type 0 where
  pub few : length done + length (option_to_list unfinished) ≤ 1000
  pub short : line_count done unfinished ≤ 100000
  pub distinct : IsDistinct bytes_eq (keys_of done)
  pub apart : is_apart done unfinished ≡ true
