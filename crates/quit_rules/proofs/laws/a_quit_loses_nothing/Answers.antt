use Rattle.quit_rules.proofs.QuitLawLemmas.{each-stands, nothing-else, stands-once}
use Rattle.quit_rules.proofs.laws.a_quit_loses_nothing.Goals as goal

pub returns : goal.returns
returns c = record { stands = each-stands; nothing_else = nothing-else; once = stands-once }
