use Rattle.std.proofs.Common.{ap, sym, ◌∙◌}
use Rattle.commit_machine.specs.Machine as machine
use Rattle.actor_bracket.specs.declared.stand.Closing.{Closing}
use Rattle.actor_bracket.specs.Stands.{closing_as, then_as}
use Rattle.actor_bracket.proofs.closing.went.Goals as goal

pub returns-in-Erasing : goal.returns-in-Erasing
returns-in-Erasing c = λ cs j did.
    c.erased.ensures cs j did ∙ ap (λ (x : Closing). machine.went_on j (closing_as c.args.value x (then_as c.args.then)) did) (sym c.in-Erasing.is)
