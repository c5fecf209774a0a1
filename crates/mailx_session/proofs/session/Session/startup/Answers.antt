use Rattle.std.proofs.Common.{◌<◌, ◌^◌, sym, arith}
use Rattle.mailx_session.proofs.SafeLemmas.{startup-safe}
use Rattle.mailx_session.proofs.StartupLemmas.{spares-disk}
use Rattle.mailx_session.proofs.session.Session.startup.Goals as goal

pub returns-clause-safe : goal.returns-clause-safe
returns-clause-safe g c =
    let fits : c.self.inside.state.token < 2 ^ 64 = omega arith in
    rw (c.self.view_is, sym c.end_line.ensures.line_ended) at
    (startup-safe g.H.Host.world c.args.host.now c.startup_file-result.new.host c.self.inside.state fits c.args.name.now _ c.startup_file-result.ensures.ran)

pub returns-clause-no_disk : goal.returns-clause-no_disk
returns-clause-no_disk g c = spares-disk c.startup_file-result.result c.startup_file-result.ensures.no_disk
