-- Definitions of macros, their lines, and macros that are removed.
use Rattle.std.specs.Prelude.{ℕ, List, [], ◌∷◌, codes, if◌then◌else◌}
use Rattle.std.specs.Str.{bytes_eq}
use Rattle.std.specs.declared.option.Option.{Option}
use Rattle.std.specs.declared.option.Option.TheVariants.{Some, None}
use Rattle.std.specs.declared.result.Result.TheVariants.{Err}
use Rattle.mailx_macros.specs.Macros.{begin_refusal, line_refusal}
use Rattle.mailx_macros.specs.declared.error.MacroError.{MacroError}
use Rattle.mailx_macros.specs.declared.error.MacroError.TheVariants as error
use Rattle.command_desk.specs.declared.desk.Desk.{Desk}
use Rattle.command_desk.specs.declared.naming.Naming.TheVariants as naming
use Rattle.command_desk.specs.declared.steps.Steps.{Steps}
use Rattle.command_desk.specs.Answers.{OrFault, effects_alone}
use Rattle.command_desk.specs.Effects.{renames}
use Rattle.command_desk.specs.Faults.{bad_arguments, already_defined, define_inside_define, too_many_macros}

-- the line of why the definition of a macro of this name isn't begun, or takes no line
abbrev pub macro_fault : List ℕ → MacroError → List ℕ
macro_fault name error.Nested = define_inside_define
macro_fault name error.Taken = already_defined name
macro_fault name error.TooMany = too_many_macros
macro_fault name error.Memory = []

-- if it is refused its line is printed
abbrev pub or_macro_fault : List ℕ → Option MacroError → OrFault Steps → OrFault Steps
or_macro_fault name (Some e) meant = Err (macro_fault name e)
or_macro_fault name None meant = meant

-- a definition of this name is begun, unless it is refused
abbrev pub define_named : Desk → List ℕ → OrFault Steps
define_named desk name = or_macro_fault name (begin_refusal desk.macros name) (effects_alone (renames (naming.Begin name)))

-- a definition of this name is begun, if the word after the name is `{`, unless it is refused
abbrev pub define_braced : Desk → List ℕ → List ℕ → OrFault Steps
define_braced desk name brace =
    if bytes_eq brace (codes "{") then define_named desk name
    else Err (bad_arguments (codes "define"))

-- `define NAME {`: the definition of a macro is begun
abbrev pub define : Desk → List (List ℕ) → OrFault Steps
define desk (name ∷ brace ∷ []) = define_braced desk name brace
define desk words = Err (bad_arguments (codes "define"))

-- the definition that is under way takes a line, unless it is refused
abbrev pub line_taken : Desk → List ℕ → OrFault Steps
line_taken desk line = or_macro_fault [] (line_refusal desk.macros line) (effects_alone (renames (naming.Line line)))

-- a line of the definition that is under way: `}` alone ends it, another is a line of the macro
abbrev pub definition_line : Desk → List ℕ → OrFault Steps
definition_line desk line =
    if bytes_eq line (codes "}") then effects_alone (renames naming.End)
    else line_taken desk line

-- `undef`: one that isn't defined is passed over
abbrev pub undef : Desk → List (List ℕ) → OrFault Steps
undef desk [] = Err (bad_arguments (codes "undef"))
undef desk (w ∷ ws) = effects_alone (renames (naming.Undef (w ∷ ws)))
