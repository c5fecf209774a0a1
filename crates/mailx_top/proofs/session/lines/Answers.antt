use Rattle.std.proofs.Common.{[], refl, arith}
use Rattle.std.proofs.lemmas.Result.{err_from_is_err_and}
use Rattle.host_port.proofs.RanLemmas.{Ran-none, Ran-then}
use Rattle.session_play.proofs.LoopLemmas.{so-far-none}
use Rattle.mailx_top.proofs.EndLemmas.{any-env}
use Rattle.mailx_top.proofs.WaitingLemmas.{so-far-leads}
use Rattle.mailx_top.specs.Meaning.{Reading, round}
use Rattle.session_play.specs.Input.{no_input}
use Rattle.mailx_top.proofs.session.lines.Goals as goal

pub lines-init : goal.lines-init
lines-init g c = record {
  fall = record { ins = omega arith; outs = omega arith; disks = omega arith; children = omega arith };
  ran = λ env. rw c.new-reader.ensures (Ran-none (so-far-none (round env) (Reading c.args.session.now no_input) [] refl));
}

pub returns-in_err-end-clause-ran : goal.returns-in_err-end-clause-ran
returns-in_err-end-clause-ran g c = λ env.
    let p = err_from_is_err_and c.from_residual.result c.from_residual.ensures.1 in
    rw (p.1, p.2) (Ran-then (λ es fs so loop. so.whole fs _ loop) (c.lines.invariant.ran env) (c.in_err-end.ensures.ran env))

pub returns-in-Some-clause-ran : goal.returns-in-Some-clause-ran
returns-in-Some-clause-ran g c = λ env. Ran-then (λ es fs so loop. so.whole fs _ loop) (c.lines.invariant.ran env) (rw c.in-Some.is at c.in_ok-end.ensures.ran env)

pub lines-preserved : goal.lines-preserved
lines-preserved g c = record {
  fall = (Ran-then {S = λ es. Unit {0}} (λ front rest so leads. tt) (c.lines.invariant.ran any-env) (c.in_ok-end.ensures.ran any-env)).never_fall;
  ran = λ env. Ran-then (so-far-leads env _ _ _) (c.lines.invariant.ran env) (rw c.in_default.is at c.in_ok-end.ensures.ran env);
}
