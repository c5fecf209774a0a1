use Rattle.std.proofs.Common.{refl, ap, inl}
use Rattle.host_port.proofs.RanLemmas.{Ran-none, Ran-map}
use Rattle.read_commands.specs.Origins.{is_startup_ask}
use Rattle.session_asks.proofs.AskLemmas.{asked-as, run-asked-as}
use Rattle.session_asks.proofs.SourcingLemmas.{kept-valid, keeps-desk, left-goes, called-caused, ends-by-ask, asks-go-on}
use Rattle.session_asks.proofs.asks.do_ask.Goals as goal

pub returns-in-Say-clause-ran : goal.returns-in-Say-clause-ran
returns-in-Say-clause-ran g c = rw (asked-as c.args.state.now c.args.ask _ c.in-Say.is) (c.say_line.ensures.ran c.args.state.now)

pub returns-in-Commit-clause-ran : goal.returns-in-Commit-clause-ran
returns-in-Commit-clause-ran g c = rw (asked-as c.args.state.now c.args.ask _ c.in-Commit.is) c.commit.ensures.ran

pub returns-in-Gather-clause-ran : goal.returns-in-Gather-clause-ran
returns-in-Gather-clause-ran g c =
    rw (asked-as c.args.state.now c.args.ask _ c.in-Gather.is)
    (Ran-none (left-goes c.args.state.now _ c.gather.result (rw c.bytes-in-Gather.ensures at c.gather.ensures.means) c.gather.ensures.memory))

pub returns-in-Gather-clause-desk : goal.returns-in-Gather-clause-desk
returns-in-Gather-clause-desk g c = keeps-desk c.args.state.now c.args.state.now c.gather.result refl

pub returns-in-Gather-clause-goes_on : goal.returns-in-Gather-clause-goes_on
returns-in-Gather-clause-goes_on g c = λ little. asks-go-on c.gather.result c.gather.ensures.goes_on c.gather.ensures.memory

pub returns-in-Gather-clause-done : goal.returns-in-Gather-clause-done
returns-in-Gather-clause-done g c = ends-by-ask c.gather.result c.gather.ensures.goes_on

pub returns-in-Gather-clause-cause : goal.returns-in-Gather-clause-cause
returns-in-Gather-clause-cause g c = called-caused (g.H.Host.world.counts c.args.host.now) (g.H.Host.world.counts c.args.host.now) c.gather.result c.gather.ensures.memory

pub returns-in-Source-clause-ran : goal.returns-in-Source-clause-ran
returns-in-Source-clause-ran g c = rw (asked-as c.args.state.now c.args.ask _ c.in-Source.is) (rw c.bytes-in-Source.ensures at c.source.ensures.ran)

pub returns-in-Source-clause-valid : goal.returns-in-Source-clause-valid
returns-in-Source-clause-valid g c = kept-valid c.args.state.now c.source.new.state c.requires c.source.ensures.brings c.source.ensures.desk

pub returns-in-Source-clause-desk : goal.returns-in-Source-clause-desk
returns-in-Source-clause-desk g c = keeps-desk c.args.state.now c.source.new.state c.source.result c.source.ensures.desk

pub returns-in-Source-clause-goes_on : goal.returns-in-Source-clause-goes_on
returns-in-Source-clause-goes_on g c = λ little. asks-go-on c.source.result c.source.ensures.goes_on c.source.ensures.memory

pub returns-in-Source-clause-done : goal.returns-in-Source-clause-done
returns-in-Source-clause-done g c = ends-by-ask c.source.result c.source.ensures.goes_on

pub returns-in-Source-clause-cause : goal.returns-in-Source-clause-cause
returns-in-Source-clause-cause g c = called-caused (g.H.Host.world.counts c.args.host.now) (g.H.Host.world.counts c.source.new.host) c.source.result c.source.ensures.memory

pub returns-in-Lines-clause-ran : goal.returns-in-Lines-clause-ran
returns-in-Lines-clause-ran g c =
    rw (asked-as c.args.state.now c.args.ask _ c.in-Lines.is)
    (Ran-none (left-goes c.call.new.state _ c.call.result c.call.ensures.means c.call.ensures.memory))

pub returns-in-Lines-clause-valid : goal.returns-in-Lines-clause-valid
returns-in-Lines-clause-valid g c = kept-valid c.args.state.now c.call.new.state c.requires c.call.ensures.brings c.call.ensures.desk

pub returns-in-Lines-clause-desk : goal.returns-in-Lines-clause-desk
returns-in-Lines-clause-desk g c = keeps-desk c.args.state.now c.call.new.state c.call.result c.call.ensures.desk

pub returns-in-Lines-clause-cause : goal.returns-in-Lines-clause-cause
returns-in-Lines-clause-cause g c = called-caused (g.H.Host.world.counts c.args.host.now) (g.H.Host.world.counts c.args.host.now) c.call.result c.call.ensures.memory

pub returns-in-Lines-clause-goes_on : goal.returns-in-Lines-clause-goes_on
returns-in-Lines-clause-goes_on g c = λ little. asks-go-on c.call.result c.call.ensures.goes_on c.call.ensures.memory

pub returns-in-Lines-clause-done : goal.returns-in-Lines-clause-done
returns-in-Lines-clause-done g c = ends-by-ask c.call.result c.call.ensures.goes_on

pub returns-in-Open-clause-ran : goal.returns-in-Open-clause-ran
returns-in-Open-clause-ran g c = rw (asked-as c.args.state.now c.args.ask _ c.in-Open.is) (rw c.bytes-in-Open.ensures at c.switch_folder.ensures.ran)

pub returns-in-Newmail-clause-ran : goal.returns-in-Newmail-clause-ran
returns-in-Newmail-clause-ran g c = rw (asked-as c.args.state.now c.args.ask _ c.in-Newmail.is) c.add_new_mail.ensures.ran

pub returns-in-View-clause-ran : goal.returns-in-View-clause-ran
returns-in-View-clause-ran g c = rw (asked-as c.args.state.now c.args.ask _ c.in-View.is) (Ran-none c.view.ensures.goes)

pub returns-in-View-clause-cause : goal.returns-in-View-clause-cause
returns-in-View-clause-cause g c = called-caused (g.H.Host.world.counts c.args.host.now) (g.H.Host.world.counts c.args.host.now) c.view.result c.view.ensures.memory

pub returns-in-Draft-clause-ran : goal.returns-in-Draft-clause-ran
returns-in-Draft-clause-ran g c = rw (asked-as c.args.state.now c.args.ask _ c.in-Draft.is) c.begin_recorded.ensures.ran

pub returns-in-Edit-clause-ran : goal.returns-in-Edit-clause-ran
returns-in-Edit-clause-ran g c = rw (asked-as c.args.state.now c.args.ask _ c.in-Edit.is) (rw c.bytes-in-Edit.ensures at c.edit.ensures.ran)

pub returns-in-Child-clause-ran : goal.returns-in-Child-clause-ran
returns-in-Child-clause-ran g c = rw (asked-as c.args.state.now c.args.ask _ c.in-Child.is)
    (Ran-map (run-asked-as c.args.state.now _ _ _ _ _ c.bytes-in-Child.ensures c.bytes-in-Child-2.ensures) c.run_asked.ensures.ran)

pub returns-in-Exit-clause-ran : goal.returns-in-Exit-clause-ran
returns-in-Exit-clause-ran g c = rw (asked-as c.args.state.now c.args.ask _ c.in-Exit.is) (rw c.status_of.ensures.status (Ran-none (refl, inl refl)))

pub returns-in-Commit-clause-goes_on : goal.returns-in-Commit-clause-goes_on
returns-in-Commit-clause-goes_on g c = λ little. absurd (cc (ap is_startup_ask c.in-Commit.is, little))

pub returns-in-Open-clause-goes_on : goal.returns-in-Open-clause-goes_on
returns-in-Open-clause-goes_on g c = λ little. absurd (cc (ap is_startup_ask c.in-Open.is, little))

pub returns-in-Draft-clause-goes_on : goal.returns-in-Draft-clause-goes_on
returns-in-Draft-clause-goes_on g c = λ little. absurd (cc (ap is_startup_ask c.in-Draft.is, little))

pub returns-in-Edit-clause-goes_on : goal.returns-in-Edit-clause-goes_on
returns-in-Edit-clause-goes_on g c = λ little. absurd (cc (ap is_startup_ask c.in-Edit.is, little))

pub returns-in-Child-clause-goes_on : goal.returns-in-Child-clause-goes_on
returns-in-Child-clause-goes_on g c = λ little. absurd (cc (ap is_startup_ask c.in-Child.is, little))

pub returns-in-Exit-clause-goes_on : goal.returns-in-Exit-clause-goes_on
returns-in-Exit-clause-goes_on g c = λ little. absurd (cc (ap is_startup_ask c.in-Exit.is, little))

pub returns-in-Newmail-clause-goes_on : goal.returns-in-Newmail-clause-goes_on
returns-in-Newmail-clause-goes_on g c = λ little. absurd (cc (ap is_startup_ask c.in-Newmail.is, little))

pub returns-in-View-clause-goes_on : goal.returns-in-View-clause-goes_on
returns-in-View-clause-goes_on g c = λ little. absurd (cc (ap is_startup_ask c.in-View.is, little))
