use Rattle.mail_addresses.proofs.PlainLemmas.{gaps_none, gaps_space, if_some}
use Rattle.mail_addresses.proofs.plain.behind_bracket.Goals as goal

pub returns-in-Some : goal.returns-in-Some
returns-in-Some c =
    if_some c.behind-in-Some.result _ _ (λ back e. gaps_space c.args.bytes.now c.in-Some.later.now back.now c.in-Some.ensures e) c.behind-in-Some.ensures

pub returns-in-None : goal.returns-in-None
returns-in-None c =
    if_some c.behind-in-None.result _ _ (λ back e. gaps_none c.args.bytes.now back.now e) c.behind-in-None.ensures
