use Rattle.std.proofs.Common.{◌<◌, ◌^◌, sym, arith}
use Rattle.mailx_session.proofs.SafeLemmas.{line-safe}
use Rattle.mailx_session.proofs.session.Session.step.Goals as goal

pub returns-clause-safe : goal.returns-clause-safe
returns-clause-safe g c =
    let fits : c.self.inside.state.token < 2 ^ 64 = omega arith in
    rw (c.self.view_is, sym c.end_line.ensures.line_ended) at
    (line-safe g.H.Host.world c.args.host.now c.input_line-result.new.host c.self.inside.state fits c.args.line.now _ c.input_line-result.ensures.ran)
