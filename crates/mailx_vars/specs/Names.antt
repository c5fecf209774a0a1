-- Names of variables, files and users.
use Rattle.std.specs.Prelude.{◌==◌, ◌&&◌, not, nat_le, nat_lt, ℕ, Bool, List, length}
use Rattle.std.specs.List.{list_all, list_any}

-- a byte from 33 to 126 that isn't `=`
abbrev pub is_variable_byte : ℕ → Bool
is_variable_byte b = nat_le 33 b && (nat_le b 126 && not (b == 61))

-- a variable's name: such bytes alone, and one of them at least
abbrev pub is_variable_name : List ℕ → Bool
is_variable_name name = nat_lt 0 (length name) && list_all is_variable_byte name

-- there are 1 to 4,000 bytes
abbrev pub is_short : List ℕ → Bool
is_short name = nat_lt 0 (length name) && nat_le (length name) 4000

-- a file's name: 1 to 4,000 bytes, none of them zero
abbrev pub is_short_name : List ℕ → Bool
is_short_name name = is_short name && not (list_any (λ b. b == 0) name)

-- neither below 33 nor the byte 127
abbrev pub is_graphic : ℕ → Bool
is_graphic b = nat_le 33 b && not (b == 127)

-- a user's name: 1 to 4,000 bytes, none of them below 33 or 127
abbrev pub is_user_name : List ℕ → Bool
is_user_name name = is_short name && list_all is_graphic name
