-- Conditions that are opened, turned round and closed. A list of open conditions has the outermost first.
use Rattle.std.specs.Prelude.{◌≡◌, ◌⊎◌, ◌-◌, ◌==◌, nat_le, ℕ, Bool, true, false, not, List, [], ◌∷◌, ◌++◌, Option, Some, None, Result, Ok, Err, codes, length, take, slice_get, if◌then◌else◌}
use Rattle.std.specs.List.{list_all}
use Rattle.std.specs.Str.{bytes_eq}
use Rattle.rc_conditionals.specs.declared.conditions.Mode.{Mode}
use Rattle.rc_conditionals.specs.declared.conditions.Mode.TheVariants.{Send, Receive}
use Rattle.rc_conditionals.specs.declared.conditions.Condition.{Condition}
use Rattle.rc_conditionals.specs.declared.error.CondError.{CondError}
use Rattle.rc_conditionals.specs.declared.error.CondError.TheVariants.{TooDeep, ElseWithoutIf, EndWithoutIf, BadTest}

-- the word is one of the three
abbrev pub IsConditionWord : List ℕ → Type 0
IsConditionWord word = (word ≡ codes "if") ⊎ (word ≡ codes "else") ⊎ (word ≡ codes "endif")

-- lines are carried out: each open condition holds
abbrev pub is_live : List Condition → Bool
is_live list = list_all (λ c. c.holds) list

abbrev pub is_send : Mode → Bool
is_send Send = true
is_send Receive = false

-- whether a test holds: `s` in send mode, `r` in receive mode, `t` on a terminal; another word is no test
abbrev pub test_of : List ℕ → Mode → Bool → Option Bool
test_of test mode terminal =
    if bytes_eq test (codes "s") then Some (is_send mode)
    else if bytes_eq test (codes "r") then Some (not (is_send mode))
    else if bytes_eq test (codes "t") then Some terminal
    else None

-- with one more condition, if its test is one and 16 aren't open
abbrev pub with_condition : Option Bool → List Condition → Result (List Condition) CondError
with_condition None list = Err BadTest
with_condition (Some holds) list =
    if nat_le 16 (length list) then Err TooDeep else Ok (list ++ (record { holds = holds; had_else = false }) ∷ [])

-- after `if`
abbrev pub opened : List ℕ → Mode → Bool → List Condition → Result (List Condition) CondError
opened test mode terminal list = with_condition (test_of test mode terminal) list

-- all but the innermost condition
abbrev pub outer : List Condition → List Condition
outer list = take (length list - 1) list

-- the innermost condition
abbrev pub innermost : List Condition → Option Condition
innermost list = slice_get list (length list - 1)

-- with the innermost condition turned round, if it has had no else
abbrev pub turned_round : Option Condition → List Condition → Result (List Condition) CondError
turned_round None list = Err ElseWithoutIf
turned_round (Some c) list =
    if c.had_else then Err ElseWithoutIf else Ok (outer list ++ (record { holds = not c.holds; had_else = true }) ∷ [])

-- after `else`
abbrev pub turned_else : List Condition → Result (List Condition) CondError
turned_else list = turned_round (innermost list) list

-- after `endif`
abbrev pub closed : List Condition → Result (List Condition) CondError
closed list = if length list == 0 then Err EndWithoutIf else Ok (outer list)

-- after one of the three
abbrev pub turned : List ℕ → List ℕ → Mode → Bool → List Condition → Result (List Condition) CondError
turned word test mode terminal list =
    if bytes_eq word (codes "if") then opened test mode terminal list
    else if bytes_eq word (codes "else") then turned_else list
    else closed list
