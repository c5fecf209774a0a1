use Rattle.std.proofs.Common.{ℕ, List, [], ◌∷◌, ◌++◌, ap, ◌∙◌}
use Rattle.commit_machine.specs.Edits.{without}
use Rattle.actor_bracket.proofs.PlanLemmas.{without_more}
use Rattle.actor_bracket.proofs.planning.without.Goals as goal

pub loop-other-preserved : goal.loop-other-preserved
loop-other-preserved c = without_more c.args.name.now c.args.names.now c.loop-other.other-index c.other-item.result c.args.left.now c.loop-other.left
    c.put_other.new.left c.loop-other-test.true c.other-item.is c.loop-other.invariant
    (c.in_ok-put_other.ensures ∙ ap (λ (n : List ℕ). c.loop-other.left ++ without c.args.name.now (n ∷ [])) c.bytes.ensures)
