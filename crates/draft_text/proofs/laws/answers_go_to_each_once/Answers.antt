use Rattle.draft_text.proofs.ReplyLawLemmas.{each-once, answered-stay, own-left-out}
use Rattle.draft_text.proofs.laws.answers_go_to_each_once.Goals as goal

pub returns-clause-once : goal.returns-clause-once
returns-clause-once c = each-once

pub returns-clause-answered : goal.returns-clause-answered
returns-clause-answered c = answered-stay

pub returns-clause-own : goal.returns-clause-own
returns-clause-own c = own-left-out
