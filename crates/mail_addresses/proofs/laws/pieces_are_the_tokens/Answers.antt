use Rattle.mail_addresses.specs.declared.pieces.Place.TheVariants.{Outside}
use Rattle.mail_addresses.proofs.BalanceLemmas.{pieces_joined}
use Rattle.mail_addresses.proofs.laws.pieces_are_the_tokens.Goals as goal

pub returns : goal.returns
returns c = λ ts. pieces_joined Outside ts
