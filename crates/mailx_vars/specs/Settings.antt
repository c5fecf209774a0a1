-- Variables with their values, in order of first setting.
use Rattle.std.specs.Prelude.{◌≡◌, ◌≤◌, ◌&&◌, not, nat_le, ℕ, Bool, true, List, [], ◌∷◌, ◌++◌, Option, Some, None, is_some, length, codes, if◌then◌else◌}
use Rattle.std.specs.List.{list_all, IsDistinct}
use Rattle.std.specs.Map.{lookup, set_value, remove_entry, keys_of}
use Rattle.std.specs.Option.{option_and_then}
use Rattle.std.specs.Str.{bytes_eq}
use Rattle.mail_text.specs.Number.{number_of}
use Rattle.mailx_vars.specs.Names.{is_variable_name}
use Rattle.mailx_vars.specs.declared.error.VarError.{VarError}
use Rattle.mailx_vars.specs.declared.error.VarError.TheVariants.{BadName, TooMany}

-- pairs of a name and a value
abbrev pub Settings : Type 0
Settings = List (List ℕ × List ℕ)

-- the value of a variable, if it is set
abbrev pub value_of : Settings → List ℕ → Option (List ℕ)
value_of vars name = lookup (bytes_eq name) vars

-- a variable is set, be it to nothing
abbrev pub is_set : Settings → List ℕ → Bool
is_set vars name = is_some (value_of vars name)

-- the number that a variable's value writes, if it is set and writes one
abbrev pub number_in : Settings → List ℕ → Option ℕ
number_in vars name = option_and_then number_of (value_of vars name)

-- once a variable is set: one that was set keeps its place, a new one goes last
abbrev pub with_value : Settings → List ℕ → List ℕ → Settings
with_value vars name value = if is_set vars name then set_value (bytes_eq name) vars value else vars ++ (name, value) ∷ []

-- once a variable is unset
abbrev pub without : Settings → List ℕ → Settings
without vars name = remove_entry (bytes_eq name) vars

-- why a variable can't be set: its name is bad, or it is new and 1,000 are set
abbrev pub refusal : Settings → List ℕ → Option VarError
refusal vars name =
    if not (is_variable_name name) then Some BadName
    else if not (is_set vars name) && nat_le 1000 (length vars) then Some TooMany
    else None

-- what holds of variables that are set: they are at most 1,000, and have distinct names, each of which is a variable's
pub record AreSettings (vars : Settings) : Type 0 where
  pub few : length vars ≤ 1000
  pub named : list_all is_variable_name (keys_of vars) ≡ true
  pub distinct : IsDistinct bytes_eq (keys_of vars)

-- the variables that are set at the start
abbrev pub defaults : Settings
defaults =
    (codes "asksub", [])
    ∷ (codes "header", [])
    ∷ (codes "save", [])
    ∷ (codes "escape", codes "~")
    ∷ (codes "indentprefix", 9 ∷ [])
    ∷ (codes "prompt", codes "? ")
    ∷ (codes "screen", codes "20")
    ∷ (codes "toplines", codes "5")
    ∷ (codes "sendmail", codes "/usr/lib/sendmail")
    ∷ []
