-- Conditions: `if`, `else` and `endif`.
use Rattle.std.specs.Prelude.{ℕ, List, [], ◌∷◌, codes, if◌then◌else◌}
use Rattle.std.specs.Str.{bytes_eq}
use Rattle.std.specs.declared.option.Option.TheVariants.{Some}
use Rattle.std.specs.declared.result.Result.{Result}
use Rattle.std.specs.declared.result.Result.TheVariants.{Ok, Err}
use Rattle.rc_conditionals.specs.declared.conditions.Condition.{Condition}
use Rattle.rc_conditionals.specs.declared.error.CondError.{CondError}
use Rattle.rc_conditionals.specs.declared.error.CondError.TheVariants as error
use Rattle.rc_conditionals.specs.Turns.{turned}
use Rattle.command_desk.specs.declared.desk.Desk.{Desk}
use Rattle.command_desk.specs.declared.effects.Effects.{Effects}
use Rattle.command_desk.specs.declared.steps.Steps.{Steps}
use Rattle.command_desk.specs.Answers.{OrFault, effects_alone}
use Rattle.command_desk.specs.Effects.{unchanged}
use Rattle.command_desk.specs.Faults.{bad_arguments, bad_condition, conditions_too_deep, else_without_if, endif_without_if}

-- the line of what is wrong with a condition, whose test this is
abbrev pub condition_fault : List ℕ → CondError → List ℕ
condition_fault test error.TooDeep = conditions_too_deep
condition_fault test error.ElseWithoutIf = else_without_if
condition_fault test error.EndWithoutIf = endif_without_if
condition_fault test error.BadTest = bad_condition test

-- these conditions are open then
abbrev pub turns : List Condition → Effects
turns list = record unchanged { conditions = Some list }

abbrev pub turns_or_fault : List ℕ → Result (List Condition) CondError → OrFault Steps
turns_or_fault test (Ok list) = effects_alone (turns list)
turns_or_fault test (Err e) = Err (condition_fault test e)

-- a condition is opened, turned round or closed
abbrev pub turning : Desk → List ℕ → List ℕ → OrFault Steps
turning desk name test = turns_or_fault test (turned name test desk.mode desk.terminal desk.conditions)

-- `if`: its one word is the test
abbrev pub opening : Desk → List (List ℕ) → OrFault Steps
opening desk (test ∷ []) = turning desk (codes "if") test
opening desk words = Err (bad_arguments (codes "if"))

-- `else` and `endif`, which take no words
abbrev pub turning_alone : Desk → List ℕ → List (List ℕ) → OrFault Steps
turning_alone desk name [] = turning desk name []
turning_alone desk name (w ∷ ws) = Err (bad_arguments name)

-- the command of conditions with this name
abbrev pub condition : Desk → List ℕ → List (List ℕ) → OrFault Steps
condition desk name words =
    if bytes_eq name (codes "if") then opening desk words
    else if bytes_eq name (codes "else") then turning_alone desk (codes "else") words
    else turning_alone desk (codes "endif") words
