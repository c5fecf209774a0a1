use Rattle.std.proofs.Common.{ap, sym}
use Rattle.core_steps.specs.declared.actor.Doing.TheVariants.{Bracket}
use Rattle.core_steps.specs.declared.step.StepKind.{StepKind}
use Rattle.core_steps.specs.Cores.{seen_by}
use Rattle.actor_disk.specs.Seeing.{shown_disk}
use Rattle.actor_core.specs.Turning.{asked_turn}
use Rattle.actor_core.proofs.TurnLemmas.{asked_rest, turns_as}
use Rattle.actor_core.proofs.turning.turn_asked.Goals as goal

pub returns-in_ok-turn-in-Refuse : goal.returns-in_ok-turn-in-Refuse
returns-in_ok-turn-in-Refuse c =
    let d = shown_disk c.args.lists.now in
    turns_as c.args.number d (Bracket c.args.task.now c.args.past.now) c.in_ok-turn-in-Refuse.turn _ _
    (ap (λ (x : StepKind). asked_turn c.args.actor.now c.args.task.now c.args.past.now x (seen_by c.args.number d) c.args.event) (sym c.in-Refuse.is))
    (c.in_ok-turn-in-Refuse.ensures c.args.number d)

pub returns-in_ok-turn-in_default : goal.returns-in_ok-turn-in_default
returns-in_ok-turn-in_default c =
    let d = shown_disk c.args.lists.now in
    turns_as c.args.number d (Bracket c.args.task.now c.args.past.now) c.in_ok-turn-in_default.turn _ _
    (asked_rest c.args.actor.now c.args.task.now c.args.past.now c.args.kind.now (seen_by c.args.number d) c.args.event c.in_default.not-Refuse) c.in_ok-turn-in_default.ensures
