use Rattle.std.proofs.Common.{sym, ap, subst}
use Rattle.session_state.specs.declared.state.SessionState.{SessionState}
use Rattle.session_state.specs.Bringing.{origin_at, AllFrom}
use Rattle.mailx_session.proofs.lines.drop_waiting.Goals as goal

pub returns-in-Ok-clause-alike : goal.returns-in-Ok-clause-alike
returns-in-Ok-clause-alike g c = λ all. subst (AllFrom (origin_at c.args.state.now.frames)) (sym (ap (λ (s : SessionState). s.frames) c.drop_lines.ensures.dropped)) tt
