use Rattle.std.proofs.Common.{◌≡◌}
use Rattle.mail_search.specs.Tokens.{inside, tokens_from}
use Rattle.mail_search.proofs.TokenLemmas.{strung_at}
use Rattle.mail_search.proofs.token.unquoted.Given as goal

-- the string so far and what is left are the whole
abbrev pub invariant-loop-i : goal.invariant-loop-i
invariant-loop-i l = strung_at l.string l.escaped l.i l.bytes ≡ tokens_from inside l.bytes
