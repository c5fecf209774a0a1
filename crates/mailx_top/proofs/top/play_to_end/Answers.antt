use Rattle.std.proofs.Common.{refl, sym, subst, Ok}
use Rattle.host_port.proofs.RanLemmas.{Ran-map}
use Rattle.session_play.specs.Play.{Loop}
use Rattle.session_state.specs.declared.status.Status.{Status}
use Rattle.mailx_top.specs.Meaning.{round, Recovering}
use Rattle.mailx_top.specs.Wants.{may_start}
use Rattle.mailx_top.specs.Words.{start_of}
use Rattle.mailx_top.proofs.EndLemmas.{loop-short, named-short}
use Rattle.mailx_top.proofs.top.play_to_end.Goals as goal

pub returns-in-Ok-end_of-clause-ran : goal.returns-in-Ok-end_of-clause-ran
returns-in-Ok-end_of-clause-ran g c =
    let env = c.args.env.now in
    Ran-map (λ es loop. subst (λ (s : Status). Loop (round env) (Recovering (start_of (may_start c.args.asked) env.pairs)) es (Ok s)) (sym c.in-Ok-end_of.ensures.status) loop) c.in-Ok.ensures.ran

pub returns-in-Err-end_of-clause-ran : goal.returns-in-Err-end_of-clause-ran
returns-in-Err-end_of-clause-ran g c = Ran-map (λ es loop. loop-short (round c.args.env.now) c.in-Ok.status refl loop) c.in-Ok.ensures.ran

pub returns-in-Err-end_of-clause-named : goal.returns-in-Err-end_of-clause-named
returns-in-Err-end_of-clause-named g c = named-short c.args.env.now _ c.in-Ok.status c.in-Ok.ensures.named
