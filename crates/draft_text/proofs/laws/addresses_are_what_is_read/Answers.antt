use Rattle.draft_text.proofs.AddressesLemmas.{what-is-read}
use Rattle.draft_text.proofs.laws.addresses_are_what_is_read.Goals as goal

pub returns : goal.returns
returns c = what-is-read
