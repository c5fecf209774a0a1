-- The addresses that a value gives, whether it reads or not (RFC 5322, section 3.4).
use Rattle.std.specs.Prelude.{◌≡◌, ◌⊎◌, ℕ, List, []}
use Rattle.std.proofs.Common.{inl, inr}
use Rattle.mail_addresses.specs.declared.address.Address.{Address}
use Rattle.mail_addresses.specs.Listing.{Reads, IsFault}
use Rattle.mail_addresses.proofs.TotalLemmas.{reads_or_fault}

-- the list of a value that has one; none where a piece of it is bad
abbrev pub list_or_none : {value : List ℕ} → ((list : List Address) × Reads value list) ⊎ ((at : ℕ) × IsFault value at) → List Address
list_or_none (inl list) = list.0
list_or_none (inr fault) = []

-- the addresses of a value: the list that it reads as, or none where it has a bad piece; each value has one of the two
unfoldable pub addresses_of : List ℕ → List Address
addresses_of value = list_or_none (reads_or_fault value)

-- that list is all that it can be
pub record AreWhatIsRead (value : List ℕ) : Type 0 where
  pub list : (list : List Address) → Reads value list → addresses_of value ≡ list
  pub fault : (at : ℕ) → IsFault value at → addresses_of value ≡ []

abbrev pub EachIsWhatIsRead : Type 0
EachIsWhatIsRead = (value : List ℕ) → AreWhatIsRead value
