-- The local part of an author.
use Rattle.std.specs.Prelude.{ℕ, ◌+◌, false, ◌==◌, List, [], ◌∷◌, take, Option, Some, None, if◌then◌else◌}
use Rattle.std.specs.List.{before_first}
use Rattle.mail_addresses.specs.Tokens.{unquote}

-- the bytes before the first `@`, or all
abbrev pub before_at : List ℕ → List ℕ
before_at author = before_first (λ b. b == 64) author

-- the quoted string at the front whose closing quote is at this place after its opening one, else the bytes before the first `@`
abbrev pub quoted_or_before_at : List ℕ → Option ℕ → List ℕ
quoted_or_before_at author None = before_at author
quoted_or_before_at author (Some k) = take (k + 2) author

-- the local part: the closed quoted string at the front, else the bytes before the first `@`, or all if there is none
abbrev pub local_part : List ℕ → List ℕ
local_part [] = []
local_part (b ∷ rest) = if b == 34 then quoted_or_before_at (b ∷ rest) (unquote false 0 rest) else before_at (b ∷ rest)
