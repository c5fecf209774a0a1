-- Which of the addresses that are read are kept.
use Rattle.std.specs.Prelude.{◌≡◌, Bool, List, [], ◌∷◌, ◌++◌, take, MatchBool}
use Rattle.mail_addresses.specs.declared.address.Address.{Address}
use Rattle.mail_addresses.specs.declared.read.Keep.{Keep}
use Rattle.mail_addresses.specs.declared.read.Keep.TheVariants.{Each, First}

-- what is kept once these are read after what was kept before: each of them, or the first of all
abbrev pub kept : Keep → List Address → List Address → List Address
kept Each old added = old ++ added
kept First [] added = take 1 added
kept First (a ∷ list) added = a ∷ list

-- addresses of which this holds are read
abbrev pub Adds : Keep → (List Address → Type 0) → List Address → List Address → Type 0
Adds keep P old new = (added : List Address) × (new ≡ kept keep old added) × P added

-- addresses of which `P` holds are read if `good`; otherwise it holds of none
abbrev pub AddsIf : Keep → (List Address → Type 0) → List Address → List Address → Bool → Type 0
AddsIf keep P old new good = MatchBool good (Adds keep P old new) ((list : List Address) → P list → ⊥)
