use Rattle.std.proofs.Common.{refl}
use Rattle.session_state.specs.States.{with_draft}
use Rattle.mailx_session.proofs.DraftLemmas.{answered-refused, answered-told}
use Rattle.mailx_session.proofs.fetching.Fetching.answer_draft.Goals as goal

pub returns-in-Ok-clause-leads : goal.returns-in-Ok-clause-leads
returns-in-Ok-clause-leads c =
    let s = c.args.state.now in
    rw (answered-told s s.draft c.args.answer c.in-Ok.need _ refl c.in-Ok.ensures) (c.say_of.ensures (with_draft s c.take_answer.new.draft))

pub returns-in_ok-line-in-Err-clause-leads : goal.returns-in_ok-line-in-Err-clause-leads
returns-in_ok-line-in-Err-clause-leads c =
    let s = c.args.state.now in
    rw (answered-refused s s.draft c.args.answer c.in-Err.error _ refl c.in-Err.ensures c.in_ok-line-in-Err.line c.in_ok-line-in-Err.ensures)
    (c.say_and_end.ensures (with_draft s c.take_answer.new.draft))
