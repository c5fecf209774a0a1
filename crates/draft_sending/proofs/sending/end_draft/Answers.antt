use Rattle.host_port.proofs.RanLemmas.{Ran-map}
use Rattle.draft_sending.proofs.SendingLemmas.{done-over, ended-some, keeps-none, over-none}
use Rattle.draft_sending.proofs.sending.end_draft.Goals as goal

pub returns-in-Some-clause-ran : goal.returns-in-Some-clause-ran
returns-in-Some-clause-ran g c =
    let s = c.args.state.now in
    rw (ended-some s c.in-Some.compose (cc (c.take.ensures.value, c.in-Some.is)))
    (Ran-map
    (done-over s c.take.new.self c.take-file.new.self c.take-file.result s.file c.into_draft.result c.in-Some.compose.draft _ c.take.ensures.after
    c.take-file.ensures.after c.take-file.ensures.value c.into_draft.ensures.draft)
    (rw c.new-ending.ensures at c.drive.ensures.ran))

pub returns-in-Some-clause-keeps : goal.returns-in-Some-clause-keeps
returns-in-Some-clause-keeps g c = keeps-none c.args.state.now _ (rw (c.take.ensures.after, c.take-file.ensures.after) at c.drive.ensures.changes)

pub returns-in-Some-clause-over : goal.returns-in-Some-clause-over
returns-in-Some-clause-over g c = over-none c.args.state.now _ (rw (c.take.ensures.after, c.take-file.ensures.after) at c.drive.ensures.changes)
