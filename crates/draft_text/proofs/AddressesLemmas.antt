-- The addresses of a value are what is read of it.
use Rattle.std.proofs.Common.{◌≡◌, ◌⊎◌, ℕ, List, [], refl, inl, inr}
use Rattle.mail_addresses.specs.declared.address.Address.{Address}
use Rattle.mail_addresses.specs.Listing.{Reads, IsFault}
use Rattle.mail_addresses.proofs.TotalLemmas.{reads_or_fault}
use Rattle.mail_addresses.proofs.UniqueLemmas.{reads_unique, reads_no_fault}
use Rattle.draft_text.specs.Addresses.{list_or_none, addresses_of, EachIsWhatIsRead}

pub addresses-read : (value : List ℕ) (list : List Address) → Reads value list → addresses_of value ≡ list
unfolding addresses_of
addresses-read value list is = go (reads_or_fault value)
  where
    go : (found : ((l : List Address) × Reads value l) ⊎ ((at : ℕ) × IsFault value at)) → list_or_none {value = value} found ≡ list
    go (inl l) = reads_unique value l.0 list l.1 is
    go (inr fault) = absurd (reads_no_fault value list fault.0 is fault.1)

pub addresses-fault : (value : List ℕ) (at : ℕ) → IsFault value at → addresses_of value ≡ []
unfolding addresses_of
addresses-fault value at is = go (reads_or_fault value)
  where
    go : (found : ((l : List Address) × Reads value l) ⊎ ((n : ℕ) × IsFault value n)) → list_or_none {value = value} found ≡ []
    go (inl l) = absurd (reads_no_fault value l.0 at l.1 is)
    go (inr fault) = refl

pub what-is-read : EachIsWhatIsRead
what-is-read value = record { list = addresses-read value; fault = addresses-fault value }
