use Rattle.std.proofs.Common.{◌≡◌, drop}
use Rattle.mail_search.specs.Entries.{holding_in}
use Rattle.mail_search.proofs.matching.kept_holds.Given as goal

-- what is left tells of all
abbrev pub invariant-loop-entry : goal.invariant-loop-entry
invariant-loop-entry l = holding_in l.name l.needle (drop l.entry-index l.entries) ≡ holding_in l.name l.needle l.entries
