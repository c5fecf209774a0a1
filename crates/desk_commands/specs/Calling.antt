-- Macros that are called and listed.
use Rattle.std.specs.Prelude.{ℕ, List, [], ◌∷◌, ◌++◌, codes}
use Rattle.std.specs.List.{flat_map}
use Rattle.std.specs.declared.option.Option.{Option}
use Rattle.std.specs.declared.option.Option.TheVariants.{Some, None}
use Rattle.std.specs.declared.result.Result.TheVariants.{Ok, Err}
use Rattle.mail_text.specs.Lines.{with_feed}
use Rattle.mailx_macros.specs.Macros.{Macro, body_of}
use Rattle.command_desk.specs.declared.desk.Desk.{Desk}
use Rattle.command_desk.specs.declared.steps.Ask.TheVariants as asks
use Rattle.command_desk.specs.declared.steps.Steps.{Steps}
use Rattle.command_desk.specs.Answers.{OrFault, says}
use Rattle.command_desk.specs.Effects.{unchanged}
use Rattle.command_desk.specs.Faults.{bad_arguments, no_such_macro}

-- these lines are asked for, and nothing is changed
abbrev pub calling : List (List ℕ) → Steps
calling lines = record { asks = asks.Lines (flat_map with_feed lines) ∷ []; effects = unchanged }

-- the lines of the macro of this name, if it is defined
abbrev pub calling_or_fault : List ℕ → Option (List (List ℕ)) → OrFault Steps
calling_or_fault name (Some lines) = Ok (calling lines)
calling_or_fault name None = Err (no_such_macro name)

abbrev pub call_named : Desk → List ℕ → OrFault Steps
call_named desk name = calling_or_fault name (body_of desk.macros.done name)

-- `call`: the lines of the macro that its one word names
abbrev pub call : Desk → List (List ℕ) → OrFault Steps
call desk (name ∷ []) = call_named desk name
call desk words = Err (bad_arguments (codes "call"))

-- a macro as it is listed: `define NAME {`, its lines, and `}`
abbrev pub listed : Macro → List ℕ
listed macro = ((codes "define " ++ macro.0) ++ codes " {\n") ++ (flat_map with_feed macro.1 ++ codes "}\n")

-- `defines`: all macros are listed
abbrev pub defines : Desk → OrFault Steps
defines desk = says (flat_map listed desk.macros.done) unchanged
