-- A list with room for more.
use Rattle.std.specs.Prelude.{ℕ, List}

-- the values, and how many more there is memory for already
pub record Room (T : Type 0) : Type 0 where
  pub items : List T
  pub spare : ℕ
