-- What holds of variables that are set and unset.
use Rattle.std.specs.Prelude.{◌≡◌, List, [], ◌∷◌, ◌++◌, ℕ, Some, None, if◌then◌else◌}
use Rattle.std.specs.Map.{keys_of}
use Rattle.std.specs.Str.{bytes_eq}
use Rattle.mailx_vars.specs.Settings.{AreSettings, Settings, is_set, value_of, with_value, without}

-- a variable that is set has the value, and every other one has what it had
abbrev pub SetGives : Type 0
SetGives = (vars : Settings) (name value other : List ℕ)
    → value_of (with_value vars name value) other ≡ (if bytes_eq other name then Some value else value_of vars other)

-- a variable that is unset has no value, and every other one has what it had
abbrev pub UnsetTakes : Type 0
UnsetTakes = (vars : Settings) (name other : List ℕ) → AreSettings vars
    → value_of (without vars name) other ≡ (if bytes_eq other name then None else value_of vars other)

-- a variable that was set keeps its place, a new one stands last
abbrev pub SetKeepsOrder : Type 0
SetKeepsOrder = (vars : Settings) (name value : List ℕ)
    → keys_of (with_value vars name value) ≡ (if is_set vars name then keys_of vars else keys_of vars ++ name ∷ [])

-- a variable that is unset and set again stands last
abbrev pub SetAgainIsLast : Type 0
SetAgainIsLast = (vars : Settings) (name value : List ℕ) → AreSettings vars
    → keys_of (with_value (without vars name) name value) ≡ keys_of (without vars name) ++ name ∷ []
