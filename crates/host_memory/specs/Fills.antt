-- What a fill gives.
use Rattle.std.specs.Prelude.{ℕ}
use Rattle.std.specs.declared.option.Option.{Option}
use Rattle.std.specs.declared.option.Option.TheVariants.{Some, None}

-- how many bytes a fill gave, which are none if it failed
abbrev pub count_of : Option (ℕ × ℕ) → ℕ
count_of None = 0
count_of (Some taken) = taken.0
