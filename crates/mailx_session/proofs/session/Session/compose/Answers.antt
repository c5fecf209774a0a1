use Rattle.std.proofs.Common.{◌<◌, ◌^◌, sym, arith}
use Rattle.mailx_session.proofs.SafeLemmas.{compose-safe}
use Rattle.mailx_session.proofs.session.Session.compose.Goals as goal

pub returns-clause-safe : goal.returns-clause-safe
returns-clause-safe g c =
    let fits : c.self.inside.state.token < 2 ^ 64 = omega arith in
    rw (c.self.view_is, sym c.end_line.ensures.line_ended) at
    (compose-safe g.H.Host.world c.args.host.now c.compose-begun.new.host c.self.inside.state fits _ c.args.draft.now c.compose-begun.result c.compose-begun.ensures.ran)
