use Rattle.mail_addresses.specs.Lexical.{quoted}
use Rattle.mail_addresses.proofs.BalanceLemmas.{quoted_has_no_quote, stands}
use Rattle.mail_addresses.proofs.laws.quoted_strings_end_at_a_quote.Goals as goal

pub returns : goal.returns
returns c = λ value ts front back inside are e. quoted_has_no_quote inside (stands value ts front back (quoted inside) are e)
