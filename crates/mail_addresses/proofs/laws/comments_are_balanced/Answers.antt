use Rattle.mail_addresses.specs.Lexical.{comment}
use Rattle.mail_addresses.proofs.BalanceLemmas.{comment_balanced, stands}
use Rattle.mail_addresses.proofs.laws.comments_are_balanced.Goals as goal

pub returns : goal.returns
returns c = λ value ts front back inside are e. comment_balanced inside (stands value ts front back (comment inside) are e)
