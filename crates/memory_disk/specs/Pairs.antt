-- The entries of a map from names as pairs.
use Rattle.std.specs.Prelude.{ℕ, List, map, Vec}
use Rattle.std.specs.declared.alloc.Global.{Global}

abbrev pub pairs_of : {A : Type 0} → List (Vec ℕ Global × A) → List (List ℕ × A)
pairs_of es = map (λ e. (e.0.items, e.1)) es
