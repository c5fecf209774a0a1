-- The names that a record may have.
-- It may hold line feeds, since its length stands before it in the text of a record.
use Rattle.std.specs.Prelude.{ℕ, ◌-◌, Bool, not, ◌==◌, ◌&&◌, ◌||◌, nat_le, nat_lt, List, length, take, drop, codes}
use Rattle.std.specs.List.{list_all, list_any, ends_with}
use Rattle.std.specs.Str.{bytes_eq}

-- a hexadecimal digit, with a lower case letter
abbrev pub is_lower_hex : ℕ → Bool
is_lower_hex b = (nat_le 48 b && nat_le b 57) || (nat_le 97 b && nat_le b 102)

-- `.mx` and 16 such digits
abbrev pub is_staged_end : List ℕ → Bool
is_staged_end end = length end == 19 && (bytes_eq (take 3 end) (codes ".mx") && list_all is_lower_hex (drop 3 end))

-- a lawful name has 1 to 4,000 bytes, none of them zero, and ends neither in `.lock` nor in `.mx` and 16 lower case hexadecimal digits
abbrev pub is_lawful : List ℕ → Bool
is_lawful name =
    nat_lt 0 (length name) && (nat_le (length name) 4000 && (not (list_any (λ b. b == 0) name) && (not (ends_with (◌==◌) name (codes ".lock")) && not (is_staged_end (drop (length name - 19) name)))))
