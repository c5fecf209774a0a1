use Rattle.host_port.proofs.RanLemmas.{Ran-none}
use Rattle.session_asks.specs.Editing.{judged}
use Rattle.session_asks.proofs.EditingLemmas.{refused-edited}
use Rattle.session_asks.proofs.editing.take_edited.Goals as goal

pub returns-in-Ok-clause-ran : goal.returns-in-Ok-clause-ran
returns-in-Ok-clause-ran g c = rw c.in-Ok.ensures.means (rw c.bytes.ensures at c.take_text.ensures.ran)

pub returns-in-Err-clause-ran : goal.returns-in-Err-clause-ran
returns-in-Err-clause-ran g c =
    let s = c.args.state.now in Ran-none (refused-edited s s c.args.n (judged c.args.answer) c.in-Err.refusal c.refused_by.result c.in-Err.ensures.means c.refused_by.ensures.refused)
