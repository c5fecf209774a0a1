-- Changes of variables.
use Rattle.std.specs.Prelude.{ℕ, Bool, List, Option, Some, None, is_none, if◌then◌else◌}
use Rattle.std.specs.Str.{bytes_eq}
use Rattle.mailx_vars.specs.declared.settings.Setting.{Setting}
use Rattle.mailx_vars.specs.Settings.{Settings, refusal, with_value, without}

-- the variables once one is given this value, or unset; if it can't be set they stay
abbrev pub with_or_without : Settings → List ℕ → Option (List ℕ) → Settings
with_or_without vars name (Some value) = if is_none (refusal vars name) then with_value vars name value else vars
with_or_without vars name None = without vars name

-- the variables after a change
abbrev pub changed : Settings → Setting → Settings
changed vars setting = with_or_without vars setting.name setting.value

-- a variable has this name
abbrev pub named : List ℕ → List ℕ × List ℕ → Bool
named name pair = bytes_eq name pair.0
