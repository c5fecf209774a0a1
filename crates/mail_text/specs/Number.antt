-- Numbers in decimal digits.
use Rattle.std.specs.Prelude.{ℕ, ◌^◌, Bool, ◌&&◌, List, length, nat_lt, Option, Some, None, if◌then◌else◌}
use Rattle.std.specs.Str.{all_ascii_digits}
use Rattle.std.specs.Str.Parse.{digits_value}

-- one decimal digit or more, and nothing else; leading zeros are allowed
abbrev pub is_numeral : List ℕ → Bool
is_numeral bs = nat_lt 0 (length bs) && all_ascii_digits bs

-- the number that the text writes in decimal digits, if it fits 64 bits
unfoldable pub number_of : List ℕ → Option ℕ
number_of bs = if is_numeral bs && nat_lt (digits_value 10 bs) (2 ^ 64) then Some (digits_value 10 bs) else None
