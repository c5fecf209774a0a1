use Rattle.std.proofs.Common.{Err, sym, subst}
use Rattle.std.specs.declared.result.Result.{Result}
use Rattle.commit_driver.specs.declared.judge.Trouble.{Trouble}
use Rattle.commit_driver.specs.Answers.{WritesGo}
use Rattle.commit_driver.proofs.DecisionLemmas.{not-judged}
use Rattle.commit_driver.proofs.answers.write_decision.Goals as goal

pub returns-in-Err : goal.returns-in-Err
returns-in-Err c =
    let plan = c.args.plan.now in
    let place = c.args.place.now in
    subst (λ (r : Result Unit Trouble). WritesGo plan c.args.tails.now r place (Err c.in-Err.why) place) (sym c.in-Err.is) (not-judged plan c.args.tails.now place c.in-Err.why)
