use Rattle.host_port.proofs.RanLemmas.{Ran-map}
use Rattle.session_state.proofs.SavingLemmas.{commit-follows, commit-caused}
use Rattle.session_state.proofs.saving.commit_placed.Goals as goal

pub returns-clause-ran : goal.returns-clause-ran
returns-clause-ran g c = λ changes names placed.
    Ran-map (commit-follows c.args.state.now changes c.change-answer.result c.followed.result (rw (names, placed) at c.followed.ensures.follows))
    (rw (c.bytes-actor.ensures, c.items.ensures, placed) at c.change-answer.ensures.ran)

pub returns-clause-cause : goal.returns-clause-cause
returns-clause-cause g c =
    commit-caused c.args.state.now c.args.targets.now.names c.args.targets.now.changes (g.H.Host.world.counts c.args.host.now)
    (g.H.Host.world.counts c.change-answer.new.host) c.change-answer.result c.followed.result c.followed.ensures.follows
    c.change-answer.ensures.cause
