use Rattle.std.proofs.Common.{sym, ◌∙◌}
use Rattle.host_port.proofs.RanLemmas.{Ran-map}
use Rattle.mailx_session.proofs.RoundLemmas.{uncounted-goes}
use Rattle.mailx_session.proofs.lines.waiting_line.Goals as goal

pub returns-then-is_uncounted-clause-ran : goal.returns-then-is_uncounted-clause-ran
returns-then-is_uncounted-clause-ran g c =
    Ran-map (uncounted-goes c.args.state.now c.args.line.now (sym c.is_uncounted.ensures ∙ c.if-is_uncounted.true) _) (rw c.bytes.ensures at c.uncounted_line.ensures.ran)
