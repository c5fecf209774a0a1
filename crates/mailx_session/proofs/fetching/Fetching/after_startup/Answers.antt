use Rattle.mailx_session.proofs.FetchLemmas.{startup_changes}
use Rattle.mailx_session.proofs.fetching.Fetching.after_startup.Goals as goal

pub returns-in_ok-push_startup-in-Some-Bytes-Some-default-clause-changes : goal.returns-in_ok-push_startup-in-Some-Bytes-Some-default-clause-changes
returns-in_ok-push_startup-in-Some-Bytes-Some-default-clause-changes c =
    let at = c.in-Some-Bytes-Some-default in
    startup_changes c.args.state.now c.push_startup.new.state at.text (rw at.field-0-0-is at c.in_ok-push_startup-in-Some-Bytes-Some-default.ensures.ok)

pub returns-in-Some-TooLarge-clause-leads : goal.returns-in-Some-TooLarge-clause-leads
returns-in-Some-TooLarge-clause-leads c = rw (c.in-Some-TooLarge.is, c.in-Some-TooLarge.field-0-is) (c.refuse.ensures c.args.state.now)

pub returns-in-None-clause-leads : goal.returns-in-None-clause-leads
returns-in-None-clause-leads c = rw c.in-None.is (c.refuse-in-None.ensures c.args.state.now)
