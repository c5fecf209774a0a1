-- Commands that set and unset variables.
use Rattle.std.specs.Prelude.{◌≡◌, ℕ, Bool, true, false, ◌&&◌, nat_lt, nat_le, nat_eq, ◌||◌, ◌-◌, ◌==◌, List, [], ◌∷◌, ◌++◌, length, drop, map, Option, codes, if◌then◌else◌}
use Rattle.std.specs.Borrow.{Bor}
use Rattle.std.specs.List.{flat_map, list_any, starts_with, before_first, after_first}
use Rattle.std.specs.Option.{option_map, option_or}
use Rattle.std.specs.declared.option.Option.TheVariants.{Some, None}
use Rattle.std.specs.declared.result.Result.TheVariants.{Err}
use Rattle.mail_text.specs.Lines.{with_feed}
use Rattle.mailx_vars.specs.Settings.{Settings, refusal}
use Rattle.mailx_vars.specs.Changes.{changed}
use Rattle.mailx_vars.specs.declared.settings.Setting.{Setting}
use Rattle.mailx_vars.specs.declared.error.VarError.{VarError}
use Rattle.mailx_vars.specs.declared.error.VarError.TheVariants.{BadName}
use Rattle.command_desk.specs.declared.desk.Desk.{Desk}
use Rattle.command_desk.specs.declared.effects.Effects.{Effects}
use Rattle.command_desk.specs.declared.steps.Steps.{Steps}
use Rattle.command_desk.specs.Answers.{OrFault, unless, says, effects_alone}
use Rattle.command_desk.specs.Effects.{unchanged}
use Rattle.command_desk.specs.Faults.{bad_arguments, bad_name, too_many_variables}

abbrev pub is_equals : ℕ → Bool
is_equals b = b == 61

-- the pieces before and after the first `=`, if there is one
abbrev pub IsSplit : Option (Bor (List ℕ) × Bor (List ℕ)) → List ℕ → Type 0
IsSplit (Some p) word =
    (list_any is_equals word ≡ true) × (p.0.now ≡ before_first is_equals word) × (p.1.now ≡ after_first is_equals word)
IsSplit None word = list_any is_equals word ≡ false

-- a variable as it is listed
abbrev pub setting_line : List ℕ × List ℕ → List ℕ
setting_line setting = with_feed (setting.0 ++ 61 ∷ setting.1)

-- a variable is unset
abbrev pub unsetting : List ℕ → Setting
unsetting name = record { name = name; value = None }

-- the word is `no` and a name
abbrev pub unsets : List ℕ → Bool
unsets word = starts_with nat_eq word (codes "no") && nat_lt 2 (length word)

-- what a word of `set` changes: `name=value`, `noname` or `name`
abbrev pub setting_of : List ℕ → Setting
setting_of word =
    if list_any is_equals word
    then record { name = before_first is_equals word; value = Some (after_first is_equals word) }
    else if unsets word then unsetting (drop 2 word)
    else record { name = word; value = Some [] }

-- the line of what stands in the way of setting a variable of this name
abbrev pub refusal_line : List ℕ → VarError → List ℕ
refusal_line name BadName = bad_name name
refusal_line name e = too_many_variables

-- the line of what stands in the way of a change
abbrev pub line_of_change : Settings → List ℕ → Option (List ℕ) → Option (List ℕ)
line_of_change vars name (Some value) = option_map (refusal_line name) (refusal vars name)
line_of_change vars name None = None

-- the line of the first change that can't be made, once those before it are
abbrev pub first_refusal : Settings → List Setting → Option (List ℕ)
first_refusal vars [] = None
first_refusal vars (s ∷ ss) = option_or (line_of_change vars s.name s.value) (first_refusal (changed vars s) ss)

-- the line of the first change that can't be made alone
abbrev pub first_apart : Settings → List Setting → Option (List ℕ)
first_apart vars [] = None
first_apart vars (s ∷ ss) = option_or (line_of_change vars s.name s.value) (first_apart vars ss)

-- the changes are one, or can't reach the most variables that can be set
abbrev pub are_few : Settings → List Setting → Bool
are_few vars settings = nat_le (length settings) 1 || nat_le (length settings) (1000 - length vars)

-- the changes that some settings are
abbrev pub sets : List Setting → Effects
sets settings = record unchanged { settings = settings }

-- `set`: without words all variables are listed; the first word that can't be done refuses the line
abbrev pub set : Desk → List (List ℕ) → OrFault Steps
set desk [] = says (flat_map setting_line desk.vars) unchanged
set desk (w ∷ ws) =
    let settings = map setting_of (w ∷ ws) in
    unless (first_refusal desk.vars settings) (λ line. line) (effects_alone (sets settings))

-- `unset`: a variable that isn't set is passed over
abbrev pub unset : Desk → List (List ℕ) → OrFault Steps
unset desk [] = Err (bad_arguments (codes "unset"))
unset desk (w ∷ ws) = effects_alone (sets (map unsetting (w ∷ ws)))
