use Rattle.mail_headers.proofs.LawLemmas.{parts-with_body, parts-without_body, parts-joined}
use Rattle.mail_headers.proofs.laws.parts_make_the_text.Goals as goal

pub returns-clause-with_body : goal.returns-clause-with_body
returns-clause-with_body c = parts-with_body

pub returns-clause-without_body : goal.returns-clause-without_body
returns-clause-without_body c = parts-without_body

pub returns-clause-joined : goal.returns-clause-joined
returns-clause-joined c = parts-joined
