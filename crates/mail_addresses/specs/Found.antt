-- The address that was found in a value.
use Rattle.mail_addresses.specs.declared.address.Address.{Address}
use Rattle.mail_addresses.specs.declared.found.Found.{Found}
use Rattle.mail_addresses.specs.declared.found.Found.TheVariants.{InPlace, Own}

abbrev pub address_in : Found → Address
address_in (InPlace a) = a
address_in (Own a) = a
