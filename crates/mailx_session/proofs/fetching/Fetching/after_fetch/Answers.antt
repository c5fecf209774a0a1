use Rattle.mailx_session.proofs.fetching.Fetching.after_fetch.Goals as goal

pub returns-in-Some-Bytes-None-default-clause-leads : goal.returns-in-Some-Bytes-None-default-clause-leads
returns-in-Some-Bytes-None-default-clause-leads c =
    let at = c.in-Some-Bytes-None-default in rw (at.is, at.field-0-is, at.field-0-0-is) (c.refuse.ensures c.args.state.now)

pub returns-in-Some-TooLarge-clause-leads : goal.returns-in-Some-TooLarge-clause-leads
returns-in-Some-TooLarge-clause-leads c = rw (c.in-Some-TooLarge.is, c.in-Some-TooLarge.field-0-is) (c.refuse-in-Some-TooLarge.ensures c.args.state.now)

pub returns-in-None-clause-leads : goal.returns-in-None-clause-leads
returns-in-None-clause-leads c = rw c.in-None.is (c.refuse-in-None.ensures c.args.state.now)
