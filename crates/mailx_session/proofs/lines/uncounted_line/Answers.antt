use Rattle.session_state.proofs.OriginLemmas.{brought-alike}
use Rattle.session_asks.proofs.SourcingLemmas.{weight_kept}
use Rattle.mailx_session.proofs.UncountedLemmas.{uncounted_brings_none}
use Rattle.mailx_session.proofs.lines.uncounted_line.Goals as goal

pub returns-clause-falls : goal.returns-clause-falls
returns-clause-falls g c =
    weight_kept c.args.state.now c.carry_line.new.state c.carry_line.ensures.brings.rest
    (c.carry_line.ensures.quiet (uncounted_brings_none c.args.origin c.args.state.now.desk c.args.line.now c.requires.uncounted))

pub returns-clause-alike : goal.returns-clause-alike
returns-clause-alike g c = let inside = c.carry_line.ensures.brings.inside in brought-alike c.args.state.now.frames c.carry_line.new.state.frames inside.0 inside.1 inside.2
