use Rattle.host_port.proofs.RanLemmas.{Ran-then, Ran-map}
use Rattle.session_state.specs.Answers.{stop_of}
use Rattle.mailx_session.proofs.FinishLemmas.{ends-more, ends-left, ends-lost, ends-done, none-open}
use Rattle.mailx_session.proofs.finishing.finish.Goals as goal

pub returns-then-is_none-clause-ran : goal.returns-then-is_none-clause-ran
returns-then-is_none-clause-ran g c = Ran-map (ends-done c.args.state.now c.drafts.state c.if-is_none.ensures) c.drafts.invariant.ran

pub drafts-preserved : goal.drafts-preserved
drafts-preserved g c = record {
  session = c.in-Ok-Go.ensures.session;
  ran = Ran-then (ends-more c.args.state.now c.drafts.state c.end_one.new.state c.if-is_none.ensures) c.drafts.invariant.ran (rw c.in-Ok-Go.field-0-is at c.in-Ok-Go.ensures.ran);
  same = λ out. absurd (none-open c.args.state.now c.drafts.state c.drafts.invariant.same c.if-is_none.ensures out);
}

pub returns-in-Ok-End-clause-ran : goal.returns-in-Ok-End-clause-ran
returns-in-Ok-End-clause-ran g c =
    Ran-then (ends-left c.args.state.now c.drafts.state c.in-Ok-End.status c.if-is_none.ensures) c.drafts.invariant.ran (rw c.in-Ok-End.field-0-is at c.in-Ok-End.ensures.ran)

pub returns-in-Err-clause-ran : goal.returns-in-Err-clause-ran
returns-in-Err-clause-ran g c =
    Ran-then (ends-lost c.args.state.now c.drafts.state (stop_of c.in-Err.error) c.if-is_none.ensures) c.drafts.invariant.ran c.in-Err.ensures.ran

pub returns-in-Ok-End-clause-stays : goal.returns-in-Ok-End-clause-stays
returns-in-Ok-End-clause-stays g c = λ out. absurd (none-open c.args.state.now c.drafts.state c.drafts.invariant.same c.if-is_none.ensures out)

pub returns-in-Err-clause-stays : goal.returns-in-Err-clause-stays
returns-in-Err-clause-stays g c = λ out. absurd (none-open c.args.state.now c.drafts.state c.drafts.invariant.same c.if-is_none.ensures out)
