use Rattle.host_port.proofs.RanLemmas.{Ran-then, Ran-map}
use Rattle.session_play.specs.Play.{Ask, Ret, Recover}
use Rattle.session_play.proofs.PlayLemmas.{goes-then, goes-cut}
use Rattle.mailx_top.specs.Meaning.{recovered, after_recovery}
use Rattle.mailx_top.specs.Words.{Opens}
use Rattle.mailx_top.proofs.EndLemmas.{load-stops, caused-since}
use Rattle.mailx_top.proofs.recovering.recover_first.Goals as goal

pub recovery-requires-clause-short : goal.recovery-requires-clause-short
recovery-requires-clause-short g c = rw (c.bytes.ensures, c.state.ensures.state) c.state.ensures.valid.state.actor.short

pub recovery-requires-clause-no_zero : goal.recovery-requires-clause-no_zero
recovery-requires-clause-no_zero g c = rw (c.bytes.ensures, c.state.ensures.state) c.state.ensures.valid.state.actor.no_zero

pub returns-in-Ok-clause-ran : goal.returns-in-Ok-clause-ran
returns-in-Ok-clause-ran g c = λ env.
    let s = c.args.session.now in
    let o = c.args.options.now in
    Ran-then (goes-then (Ask (Recover s.actor s.token) Ret) (recovered env o) _ (after_recovery env (Opens o) c.answered.result))
    (rw (c.bytes.ensures, c.state.ensures.state) at c.in-Ok.ensures.ran s.token) (c.answered.ensures.ran env)

pub returns-in-Ok-clause-cause : goal.returns-in-Ok-clause-cause
returns-in-Ok-clause-cause g c =
    caused-since (g.H.Host.world.counts c.args.host.now) (g.H.Host.world.counts c.recovery.new.host) (g.H.Host.world.counts c.answered.new.host) c.answered.result
    (c.in-Ok.ensures.ran c.args.session.now.token).never_fall c.answered.ensures.cause

pub returns-in-Err-clause-ran : goal.returns-in-Err-clause-ran
returns-in-Err-clause-ran g c = λ env.
    let s = c.args.session.now in
    let o = c.args.options.now in
    Ran-map (goes-cut (Ask (Recover s.actor s.token) Ret) (recovered env o) _) (rw (c.bytes.ensures, c.state.ensures.state) at c.in-Err.ensures.ran s.token)

pub returns-in-Err-clause-stops : goal.returns-in-Err-clause-stops
returns-in-Err-clause-stops g c = load-stops _ c.in-Err.ensures.only_disk
