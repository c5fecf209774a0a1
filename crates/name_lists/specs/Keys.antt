-- What the code keeps beside names.
use Rattle.std.specs.Prelude.{◌≡◌, ℕ, List, Vec}
use Rattle.std.specs.BTreeMap.{BTreeMap, get_by}
use Rattle.std.specs.Cmp.Lexicographic.{slice_cmp}
use Rattle.std.specs.List.{position_from}
use Rattle.std.specs.Ordering.{nat_cmp}
use Rattle.std.specs.Str.{bytes_eq, str_to_ascii_lowercase}
use Rattle.std.specs.declared.alloc.Global.{Global}

-- the keys are the names in lower case, each with the place of its name
abbrev pub ArePlacesOf : List (List ℕ) → BTreeMap (Vec ℕ Global) ℕ → Type 0
ArePlacesOf names places = (key : List ℕ) → get_by (λ k. slice_cmp nat_cmp key k.items) places ≡ position_from (λ name. bytes_eq key (str_to_ascii_lowercase name)) 0 names
