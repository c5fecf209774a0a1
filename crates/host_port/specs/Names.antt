-- The names that a host takes.
use Rattle.std.specs.Prelude.{ℕ, ◌<◌, ◌≤◌, ◌≡◌, ◌==◌, not, Bool, true, List, length}
use Rattle.std.specs.List.{list_all}

-- no byte is zero
abbrev pub has_no_zero : List ℕ → Bool
has_no_zero name = list_all (λ b. not (b == 0)) name

-- a name has 1 to 4,032 bytes, none of them zero
pub record IsFileName (name : List ℕ) : Type 0 where
  pub some : 0 < length name
  pub short : length name ≤ 4032
  pub no_zero : has_no_zero name ≡ true
