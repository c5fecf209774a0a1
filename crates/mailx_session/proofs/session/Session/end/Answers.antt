use Rattle.std.proofs.Common.{◌<◌, ◌^◌, arith}
use Rattle.session_state.proofs.RestLemmas.{line_ended-same}
use Rattle.mailx_session.proofs.SafeLemmas.{input-safe}
use Rattle.mailx_session.proofs.session.Session.end.Goals as goal

pub returns-clause-ran : goal.returns-clause-ran
returns-clause-ran g c = rw c.self.view_is at c.end_input.ensures.ran

pub returns-clause-idle : goal.returns-clause-idle
returns-clause-idle g c = rw c.self.view_is at (line_ended-same c.self.inside.state c.self.invariant)

pub returns-clause-safe : goal.returns-clause-safe
returns-clause-safe g c =
    let fits : c.self.inside.state.token < 2 ^ 64 = omega arith in
    rw c.self.view_is at
    (input-safe g.H.Host.world c.args.host.now c.end_input.new.host c.self.inside.state fits c.end_input.result (line_ended-same c.self.inside.state c.self.invariant) c.end_input.ensures.ran)
