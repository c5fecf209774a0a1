use Rattle.host_port.proofs.RanLemmas.{Ran-none, Ran-map}
use Rattle.draft_sending.proofs.SendingLemmas.{given-up, keeps-none, lost-over, over-none, quit-empty, quit-some}
use Rattle.session_state.specs.States.{without_draft}
use Rattle.draft_sending.proofs.sending.quit_draft.Goals as goal

pub returns-then-is_empty-clause-ran : goal.returns-then-is_empty-clause-ran
returns-then-is_empty-clause-ran g c =
    Ran-none (quit-empty c.args.state.now c.in-Some.compose c.take.new.self (cc (c.take.ensures.value, c.in-Some.is)) c.take.ensures.after
    (cc (c.is_empty.ensures, c.if-is_empty.true, c.bytes.ensures, c.into_draft-draft.ensures.draft)))

pub returns-else-is_empty-clause-ran : goal.returns-else-is_empty-clause-ran
returns-else-is_empty-clause-ran g c =
    let s = c.args.state.now in
    let draft = c.in-Some.compose.draft in
    rw (
      quit-some s c.in-Some.compose (cc (c.take.ensures.value, c.in-Some.is)),
      given-up (without_draft s) draft (cc (c.is_empty.ensures, c.if-is_empty.false, c.bytes.ensures, c.into_draft-draft.ensures.draft)),
    )
    (Ran-map (lost-over s c.take.new.self c.into_draft-draft.result draft _ c.take.ensures.after c.into_draft-draft.ensures.draft) (rw c.new-ending.ensures at c.drive.ensures.ran))

pub returns-else-is_empty-clause-keeps : goal.returns-else-is_empty-clause-keeps
returns-else-is_empty-clause-keeps g c = keeps-none c.args.state.now _ (rw c.take.ensures.after at c.drive.ensures.changes)

pub returns-else-is_empty-clause-over : goal.returns-else-is_empty-clause-over
returns-else-is_empty-clause-over g c = over-none c.args.state.now _ (rw c.take.ensures.after at c.drive.ensures.changes)
