use Rattle.std.proofs.Common.{sym}
use Rattle.session_state.proofs.RestLemmas.{no-both}
use Rattle.mailx_session.proofs.RoundLemmas.{refuses-inside}
use Rattle.mailx_session.proofs.lines.typed_line.Goals as goal

pub returns-else-is_some-clause-escape : goal.returns-else-is_some-clause-escape
returns-else-is_some-clause-escape g c = λ r. absurd (no-both (refuses-inside c.args.state.now c.args.line.now r) (sym c.if-is_some.ensures))

pub returns-else-is_some-clause-escape_goes_on : goal.returns-else-is_some-clause-escape_goes_on
returns-else-is_some-clause-escape_goes_on g c = λ r. absurd (no-both (refuses-inside c.args.state.now c.args.line.now r) (sym c.if-is_some.ensures))
