use Rattle.std.proofs.Common.{FitsSigned, arith, to_z-of_z, w32}
use Rattle.std.proofs.lemmas.Int.{ints}
use Rattle.draft_sending.specs.Ending.{most, LeadsTo}
use Rattle.draft_sending.proofs.SendingLemmas.{ended-as}
use Rattle.draft_sending.proofs.sending.Ending.after_sender.Goals as goal

pub returns-in-Ok-clause-leads : goal.returns-in-Ok-clause-leads
returns-in-Ok-clause-leads c = rw c.in-Ok.is (c.say_and_end.ensures c.args.state.now)

pub returns-in-Err-Refused-clause-leads : goal.returns-in-Err-Refused-clause-leads
returns-in-Err-Refused-clause-leads c =
    let e = c.args.self.now in
    let at = c.in-Err-Refused in
    let fits : FitsSigned w32 at.status = omega (arith, ints) in
    rw (at.is, at.field-0-is)
    (ended-as c.args.state.now e.letter at.status _ at.output _ _ (λ play. LeadsTo (most e) play c.keep_unsent.new.self c.keep_unsent.new.state c.keep_unsent.result) (to_z-of_z fits)
    c.not_sent-outcome.ensures c.in_ok-line-in-Err-Refused.ensures c.keep_unsent.ensures.leads)
