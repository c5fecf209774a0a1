use Rattle.session_state.proofs.OriginLemmas.{brought-alike}
use Rattle.mailx_session.proofs.lines.counted_line.Goals as goal

pub returns-then-state-lt-COMMAND_LIMIT-clause-alike : goal.returns-then-state-lt-COMMAND_LIMIT-clause-alike
returns-then-state-lt-COMMAND_LIMIT-clause-alike g c =
    let inside = c.carry_line.ensures.brings.inside in
    brought-alike c.args.state.now.frames c.carry_line.new.state.frames inside.0 inside.1 inside.2
