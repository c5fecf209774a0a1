use Rattle.std.proofs.Common.{[], refl, arith}
use Rattle.std.proofs.lemmas.Result.{err_from_is_err_and}
use Rattle.host_port.proofs.RanLemmas.{Ran-none, Ran-then}
use Rattle.session_play.proofs.LoopLemmas.{so-far-none}
use Rattle.mail_delivery.specs.Meaning.{nothing_taken, round}
use Rattle.mail_delivery.proofs.StepLemmas.{some-more, body-taken, body-cut, any-request, any-env}
use Rattle.mail_delivery.proofs.delivery.take_body.Goals as goal

pub lines-init : goal.lines-init
lines-init g c = record {
  fall = record { ins = omega arith; outs = omega arith; disks = omega arith; children = omega arith };
  ran = λ request env. rw (c.new-reader.ensures, c.new-body.ensures.items) (Ran-none (record { lines = []; of = refl; so_far = so-far-none (round request env) nothing_taken [] refl }));
}

pub lines-preserved : goal.lines-preserved
lines-preserved g c =
    record {
      fall = (Ran-then {S = λ es. Unit {0}} (λ front rest so took. tt) (c.lines.invariant.ran any-request any-env) (c.in_ok-more.ensures.ran any-request any-env)).never_fall;
      ran = λ request env.
          Ran-then (λ es fs so took. some-more request env c.lines.reader c.take_line.new.reader c.lines.body.items c.take_line.new.body.items es fs so took)
          (c.lines.invariant.ran request env) (rw c.if-not-more.false at (c.in_ok-more.ensures.ran request env));
    }

pub returns-in_err-more-clause-ran : goal.returns-in_err-more-clause-ran
returns-in_err-more-clause-ran g c = λ request env.
    let p = err_from_is_err_and c.from_residual.result c.from_residual.ensures.1 in
    rw (p.1, p.2)
    (Ran-then (λ es fs so took. body-cut request env c.lines.reader c.take_line.new.reader _ c.lines.body.items c.take_line.new.body.items es fs so took)
    (c.lines.invariant.ran request env) (c.in_err-more.ensures.ran request env))

pub returns-then-not-more-clause-ran : goal.returns-then-not-more-clause-ran
returns-then-not-more-clause-ran g c = λ request env.
    rw c.of.ensures
    (Ran-then (λ es fs so took. body-taken request env c.lines.reader c.take_line.new.reader c.lines.body.items c.take_line.new.body.items es fs so took)
    (c.lines.invariant.ran request env) (rw c.if-not-more.true at (c.in_ok-more.ensures.ran request env)))
