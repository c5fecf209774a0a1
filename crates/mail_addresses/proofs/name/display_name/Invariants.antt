use Rattle.std.proofs.Common.{◌≡◌, false, length}
use Rattle.mail_addresses.specs.Tokens.{tokens_in}
use Rattle.mail_addresses.proofs.NameLemmas.{after, name_from}
use Rattle.mail_addresses.proofs.name.display_name.Given as goal

-- what is read so far and what is left are the whole
abbrev pub invariant-loop-token : goal.invariant-loop-token
invariant-loop-token l = after l.name (name_from l.begun l.apart (tokens_in l.rest)) ≡ name_from false false (tokens_in l.bytes)

abbrev pub decreases-loop-token : goal.decreases-loop-token
decreases-loop-token l = length l.rest
