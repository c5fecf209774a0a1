use Rattle.mailx_session.proofs.fetching.FetchingActivity.take.Goals as goal

pub returns-in-Ran-None-clause-leads : goal.returns-in-Ran-None-clause-leads
returns-in-Ran-None-clause-leads c =
    rw (c.in-Ran-None.is, c.in-Ran-None.field-0-is) (rw c.in_ok-line-in-Ran-None.ensures at (c.say_and_end.ensures c.args.state.now))

pub returns-in-Edited-None-clause-leads : goal.returns-in-Edited-None-clause-leads
returns-in-Edited-None-clause-leads c =
    rw (c.in-Edited-None.is, c.in-Edited-None.field-0-is) (rw c.in_ok-line-in-Edited-None.ensures at (c.say_and_end-in-Edited-None.ensures c.args.state.now))
