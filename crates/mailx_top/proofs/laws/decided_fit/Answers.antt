use Rattle.std.proofs.Common.{List, refl, sym, subst}
use Rattle.host_port.specs.declared.event.Event.{Event}
use Rattle.host_port.specs.Own.{own}
use Rattle.play_safety.specs.Safe.{MayRun}
use Rattle.play_safety.specs.Fitting.{CommitsFit, RewritesFit}
use Rattle.play_safety.proofs.FitLemmas.{run-fits}
use Rattle.mailx_top.specs.Words.{may_say, start_of}
use Rattle.mailx_top.specs.Meaning.{Recovering, round, actor_in, actor_said}
use Rattle.mailx_top.proofs.RoundLemmas.{StateOf, round-commits, round-of}
use Rattle.mailx_top.proofs.SafeLemmas.{ending-looks}
use Rattle.mailx_top.proofs.laws.decided_fit.Goals as goal

pub returns : goal.returns
returns c = λ start env s d es safe may.
    let actor = actor_in env in
    let fits = may.fits in
    let P : List Event → Type 0 = λ l. CommitsFit actor env.token d l safe.commits × RewritesFit actor env.token d l safe.commits in
    subst P (sym safe.is) (run-fits actor env.token fits (round env) (StateOf env actor env.token) (round-commits env actor env.token)
    (round-of env actor env.token) (Recovering (start_of start env.pairs)) d safe.front safe.rest safe.commits safe.out (refl, refl)
    (subst (MayRun actor env.token d) safe.is may) safe.plays (ending-looks (actor_said env) (may_say start) s safe.out (own safe.rest) safe.ending))
