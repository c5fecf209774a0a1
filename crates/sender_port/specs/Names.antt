-- The names that mail can be sent to.
use Rattle.std.specs.Prelude.{◌≡◌, ◌==◌, ◌&&◌, not, ◌<◌, ℕ, Bool, true, false, List, [], ◌∷◌, Option, Some, option_map, length, if◌then◌else◌}
use Rattle.std.specs.List.{list_all, find}
use Rattle.mailx_vars.specs.Names.{is_graphic}
use Rattle.sender_port.specs.declared.error.NamesFault.{NamesFault}
use Rattle.sender_port.specs.declared.error.NamesFault.TheVariants.{NoRecipients, NotAnAddress}

-- the name begins with `-`
abbrev pub begins_with_dash : List ℕ → Bool
begins_with_dash [] = false
begins_with_dash (b ∷ bs) = b == 45

-- mail can be sent to the name: it isn't empty, doesn't begin with `-`, and has no byte below 33 and no byte 127
abbrev pub is_address : List ℕ → Bool
is_address [] = false
is_address (b ∷ bs) = not (begins_with_dash (b ∷ bs)) && list_all is_graphic (b ∷ bs)

-- the first name that is no address
abbrev pub first_bad : List (List ℕ) → Option (List ℕ)
first_bad names = find (λ name. not (is_address name)) names

-- why mail can't be sent to the names: there is none, or the first that is no address
abbrev pub names_fault : List (List ℕ) → Option NamesFault
names_fault names = if length names == 0 then Some NoRecipients else option_map NotAnAddress (first_bad names)

-- the name isn't empty, doesn't begin with `-`, and has no blank, no line feed and no zero byte
pub record IsPlainName (name : List ℕ) : Type 0 where
  pub some : 0 < length name
  pub no_flag : begins_with_dash name ≡ false
  pub one_word : list_all is_graphic name ≡ true
