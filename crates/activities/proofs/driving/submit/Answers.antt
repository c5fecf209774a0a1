use Rattle.host_port.proofs.RanLemmas.{Ran-map}
use Rattle.session_play.specs.Play.{Ask, Ret, Child}
use Rattle.sender_port.specs.Sending.{program_of, sender_args, sent}
use Rattle.activities.proofs.DriveLemmas.{sent-on, sent-uncaused}
use Rattle.activities.proofs.driving.submit.Goals as goal

pub returns-clause-ran : goal.returns-clause-ran
returns-clause-ran g c =
    let s = c.args.state.now in
    rw c.sent_as.ensures (Ran-map (sent-on s (Ask (Child (program_of s.desk.vars) (sender_args c.args.names.now) c.args.message.now) (λ a. Ret (sent a))) _)
    (rw c.bytes.ensures at (c.send.ensures.ran c.requires)))

pub returns-clause-cause : goal.returns-clause-cause
returns-clause-cause g c = rw c.sent_as.ensures (sent-uncaused (g.H.Host.world.counts c.args.host.now) (g.H.Host.world.counts c.send.new.host) c.send.result)
