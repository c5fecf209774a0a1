use Rattle.std.proofs.Common.{◌≡◌, Bool, List, take, ap, ◌∙◌, subst, arith}
use Rattle.std.specs.Prelude.{IfOk}
use Rattle.std.proofs.lemmas.List.{take_all}
use Rattle.mail_search.specs.declared.criterion.Step.{Step}
use Rattle.mail_search.specs.Meaning.{key_holds}
use Rattle.mail_search.specs.Steps.{keys_of, last_key}
use Rattle.mail_search.proofs.MatchingLemmas.{known-last}
use Rattle.mail_search.proofs.matching.meets.Goals as goal

pub returns : goal.returns
returns c =
    let text = c.args.message.now in
    let facts = c.args.facts.now in
    let steps = c.steps-step-items.result.now in
    let done = take c.loop-step.step-index steps in
    subst (λ (b : Bool). IfOk c.ask.result (λ held. held ≡ b))
    (known-last text facts (keys_of done) c.loop-step.held c.pop.new.self c.pop.result c.pop.ensures c.loop-step.invariant
    ∙ ap (λ (l : List Step). key_holds text facts (last_key (keys_of l))) (take_all c.loop-step.step-index steps (omega arith))
    ∙ ap (key_holds text facts) c.steps-step-items.ensures)
    c.ask.ensures
