use Rattle.std.proofs.Common.{◌∷◌, sym, ap, ◌∙◌, subst}
use Rattle.std.proofs.lemmas.Result.{on_ok_weaker}
use Rattle.mail_search.specs.declared.criterion.Step.{Step}
use Rattle.mail_search.specs.declared.matching.Held.{Held}
use Rattle.mail_search.specs.Known.{IsKnown}
use Rattle.mail_search.specs.Steps.{with_step}
use Rattle.mail_search.proofs.MatchingLemmas.{known-test, known-not, known-or, known-and}
use Rattle.mail_search.proofs.matching.carry_out.Goals as goal

pub returns-in-Test : goal.returns-in-Test
returns-in-Test c =
    on_ok_weaker c.push.result
    (λ n keys e. subst (λ (s : Step). IsKnown c.args.message.now c.args.facts.now c.push.new.self (with_step keys s)) (sym c.in-Test.is)
    (known-test c.args.message.now c.args.facts.now keys c.args.held.now c.push.new.self _ n e))
    c.push.ensures.ok

pub returns-in_ok-one-in-Some : goal.returns-in_ok-one-in-Some
returns-in_ok-one-in-Some c =
    on_ok_weaker c.push-in-Some.result
    (λ n keys e. subst (λ (s : Step). IsKnown c.args.message.now c.args.facts.now c.push-in-Some.new.self (with_step keys s)) (sym c.in-Not.is)
    (known-not c.args.message.now c.args.facts.now keys c.args.held.now c.pop.new.self c.push-in-Some.new.self c.in-Some.one c.in_ok-one-in-Some.one c.in-Some.ensures c.in_ok-one-in-Some.ensures n e))
    c.push-in-Some.ensures.ok

pub returns-in_ok-first-in-Or : goal.returns-in_ok-first-in-Or
returns-in_ok-first-in-Or c =
    on_ok_weaker c.push-in-Or.result
    (λ n keys e. subst (λ (s : Step). IsKnown c.args.message.now c.args.facts.now c.push-in-Or.new.self (with_step keys s)) (sym c.in-Or.is)
    (known-or c.args.message.now c.args.facts.now keys c.args.held.now c.pop-in-Or.new.self c.pop-in-Or-2.new.self c.push-in-Or.new.self
    c.in-Some-pop.second c.pop-in-Or-2.result c.in_ok-first-in-Or.first c.in-Some-pop.ensures
    c.pop-in-Or-2.ensures c.in_ok-first-in-Or.ensures (n ∙ ap (λ (h : Held). h ∷ c.pop-in-Or-2.new.self) c.either_of.ensures) e))
    c.push-in-Or.ensures.ok

pub returns-in_ok-first-in-Both : goal.returns-in_ok-first-in-Both
returns-in_ok-first-in-Both c =
    on_ok_weaker c.push-in-Both.result
    (λ n keys e. subst (λ (s : Step). IsKnown c.args.message.now c.args.facts.now c.push-in-Both.new.self (with_step keys s)) (sym c.in-Both.is)
    (known-and c.args.message.now c.args.facts.now keys c.args.held.now c.pop-in-Both.new.self c.pop-in-Both-2.new.self c.push-in-Both.new.self
    c.in-Some-pop-2.second c.pop-in-Both-2.result c.in_ok-first-in-Both.first c.in-Some-pop-2.ensures
    c.pop-in-Both-2.ensures c.in_ok-first-in-Both.ensures (n ∙ ap (λ (h : Held). h ∷ c.pop-in-Both-2.new.self) c.both_of.ensures) e))
    c.push-in-Both.ensures.ok
